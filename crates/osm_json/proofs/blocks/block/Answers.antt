use Rattle.std.proofs.Common.{◌≡◌, length, take, None, subst, arith, rules}
use Rattle.std.proofs.lemmas.List.{take_all}
use Rattle.serde_json.specs.Find.{as_object}
use Rattle.osm_json.specs.Walked.{sight, SeesMembers, walk_block}
use Rattle.osm_json.proofs.Entered.{object_pulls, object_refused, not_of_kind}
use Rattle.osm_json.proofs.Refused.{at_exit}
use Rattle.osm_json.proofs.Sights.{block_seen, no_block_there}
use Rattle.osm_json.proofs.blocks.block.Goals as goal

pub returns-in_err-found-in-Some-clause-value : goal.returns-in_err-found-in-Some-clause-value
returns-in_err-found-in-Some-clause-value c =
    let e = rw c.in-Some.is at c.in_ok-within.ensures.value in
    at_exit _ _ _ _ _ c.in_err-found-in-Some.field-0.0 c.from_residual-in_err-found-in-Some.ensures.1 (object_refused _ c.in-Some.within _ _ _ e.0 e.1 c.in_err-found-in-Some.ensures.value)

pub returns-in_ok-found-in-Some-clause-value : goal.returns-in_ok-found-in-Some-clause-value
returns-in_ok-found-in-Some-clause-value c =
    let e = rw c.in-Some.is at c.in_ok-within.ensures.value in
    let t = c.in_ok-found-in-Some.ensures.value in
    let ops = c.args.progress.now.ops.items in
    let count : c.len.result ≡ length ops = search rules in
    let whole : take c.len.result ops ≡ ops = take_all c.len.result ops (omega arith) in
    let found = c.in_ok-found-in-Some.found in
    let sees = subst (λ o. SeesMembers t.source (o, c.args.progress.now.fault) (found, sight c.entries.new.progress)) whole t.told in
    object_pulls (walk_block (sight c.args.progress.now)) _ _ c.in-Some.within _ _ _ e.0 e.1
    (record {
      source = t.source;
      begins = t.begins;
      reads = block_seen c.len.result (sight c.args.progress.now) found (sight c.entries.new.progress) (sight c.finish.new.progress) c.finish.result t.source count sees c.finish.ensures;
    })

pub returns-in-None-clause-value : goal.returns-in-None-clause-value
returns-in-None-clause-value c = not_of_kind as_object (walk_block (sight c.args.progress.now)) None _ _ (no_block_there (sight c.args.progress.now)) (rw c.in-None.is at c.in_ok-within.ensures.value)
