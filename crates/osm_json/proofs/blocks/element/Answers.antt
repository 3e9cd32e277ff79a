use Rattle.std.proofs.Common.{◌≡◌, ◌+◌, length, Some, None, sym, ap, ◌∙◌, rules}
use Rattle.osm_json.specs.Walked.{with_next}
use Rattle.osm_json.proofs.Refused.{at_exit}
use Rattle.osm_json.proofs.blocks.element.Goals as goal

pub returns-in_ok-push-in-Some-2-clause-value : goal.returns-in_ok-push-in-Some-2-clause-value
returns-in_ok-push-in-Some-2-clause-value c =
    let read = rw c.in-Some-2.is at c.in_ok-op-in-None.ensures.value in
    let ops = c.args.progress.now.ops.items in
    rw c.in-None.is (record { source = read.source; begins = read.begins; reads = ap (with_next ops) read.reads ∙ ap (λ longer. (longer, None)) (sym c.in_ok-push-in-Some-2.ensures.items) })

pub returns-in-None-2-clause-value : goal.returns-in-None-2-clause-value
returns-in-None-2-clause-value c =
    let read = rw c.in-None-2.is at c.in_ok-op-in-None.ensures.value in
    let ops = c.args.progress.now.ops.items in
    let all : length ops ≡ c.len-count.result = search rules in
    rw c.in-None.is (record { source = read.source; begins = read.begins; reads = ap (with_next ops) read.reads ∙ ap (λ count. (ops, Some (count + 1))) all })

pub returns-in_err-op-in-None-clause-value : goal.returns-in_err-op-in-None-clause-value
returns-in_err-op-in-None-clause-value c = at_exit _ _ _ _ _ c.in_err-op-in-None.field-0.0 c.from_residual.ensures.1 c.in_err-op-in-None.ensures.value
