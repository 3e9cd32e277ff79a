use Rattle.std.proofs.Common.{sym, ap, ◌∙◌}
use Rattle.osm_json.specs.declared.fault.ReadFault.TheVariants.{NotJson}
use Rattle.osm_json.specs.Found.{put_field}
use Rattle.osm_json.proofs.Operations.{fields_put}
use Rattle.osm_json.proofs.Refused.{by_part, at_exit}
use Rattle.osm_json.proofs.Turns.{no_member, one_member, all_members, no_key, bad_member}
use Rattle.osm_json.proofs.operation.read_fields.Goals as goal

pub loop-found-init : goal.loop-found-init
loop-found-init c = (_, no_member c.args.depth _, c.no_fields-found.ensures)

pub returns-in_err-key-clause-value : goal.returns-in_err-key-clause-value
returns-in_err-key-clause-value c = at_exit _ _ _ _ _ NotJson c.from_residual.ensures.1 (no_key c.loop-found.invariant.1 c.in_err-key.ensures.value)

pub loop-found-preserved : goal.loop-found-preserved
loop-found-preserved c =
    let l = c.loop-found in
    let key = rw c.in-Some.is at c.in_ok-key.ensures.value in
    let read = c.in_ok-field.ensures.value in (
      _,
      one_member l.invariant.1 _ _ _ read.source key read.begins,
      sym read.reads ∙ ap (λ n. put_field n read.source l.found) c.name_of.ensures ∙ ap (put_field _ read.source) l.invariant.2 ∙ fields_put c.in-Some.key.now read.source l.invariant.0,
    )

pub returns-in_err-field-clause-value : goal.returns-in_err-field-clause-value
returns-in_err-field-clause-value c =
    let l = c.loop-found in
    let key = rw c.in-Some.is at c.in_ok-key.ensures.value in
    at_exit _ _ _ _ _ c.in_err-field.field-0.0 c.from_residual-in_err-field.ensures.1 (by_part c.in_err-field.field-0.0 _ _ c.in_err-field.ensures.value (λ e. bad_member l.invariant.1 _ _ key e))

pub returns-clause-value : goal.returns-clause-value
returns-clause-value c =
    let over = rw c.in_default.is at c.in_ok-key.ensures.value in
    record { source = _; begins = all_members c.loop-found.invariant.1 _ over; reads = sym c.loop-found.invariant.2 }
