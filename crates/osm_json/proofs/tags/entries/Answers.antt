use Rattle.std.proofs.Common.{sym}
use Rattle.osm_json.specs.declared.fault.ReadFault.TheVariants.{NotJson}
use Rattle.osm_json.proofs.Refused.{by_part, at_exit}
use Rattle.osm_json.proofs.Texts.{none_read, text_put, texts_read}
use Rattle.osm_json.proofs.Turns.{no_member, one_member, all_members, no_key, bad_member}
use Rattle.osm_json.proofs.tags.entries.Goals as goal

pub loop-found-init : goal.loop-found-init
loop-found-init c = (_, no_member c.args.depth _, none_read _ c.in_ok-found.ensures)

pub returns-in_err-key-clause-value : goal.returns-in_err-key-clause-value
returns-in_err-key-clause-value c = at_exit _ _ _ _ _ NotJson c.from_residual-in_err-key.ensures.1 (no_key c.loop-found.invariant.1 c.in_err-key.ensures.value)

pub returns-in_err-text-clause-value : goal.returns-in_err-text-clause-value
returns-in_err-text-clause-value c =
    let l = c.loop-found in
    let key = rw c.in-Some.is at c.in_ok-key.ensures.value in
    at_exit _ _ _ _ _ c.in_err-text.field-0.0 c.from_residual-in_err-text.ensures.1 (by_part c.in_err-text.field-0.0 _ _ c.in_err-text.ensures.value (λ e. bad_member l.invariant.1 _ _ key e))

pub loop-found-preserved : goal.loop-found-preserved
loop-found-preserved c =
    let l = c.loop-found in
    let key = rw c.in-Some.is at c.in_ok-key.ensures.value in
    let read = c.in_ok-text.ensures.value in (
      _,
      one_member l.invariant.1 _ _ _ read.source key read.begins,
      text_put _ _ c.in-Some.key.now _ read.source l.invariant.0 l.invariant.2 (sym read.reads) c.in_ok-found-2.ensures,
    )

pub returns-clause-value : goal.returns-clause-value
returns-clause-value c =
    let over = rw c.in_default.is at c.in_ok-key.ensures.value in
    record { source = _; begins = all_members c.loop-found.invariant.1 _ over; reads = texts_read _ _ c.loop-found.invariant.2 }
