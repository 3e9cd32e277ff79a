use Rattle.std.proofs.Common.{refl, sym, ap, ◌∙◌}
use Rattle.osm_json.specs.declared.fault.ReadFault.TheVariants.{NotJson}
use Rattle.osm_json.specs.Found.{parts_view, put_part}
use Rattle.osm_json.proofs.Parts.{parts_put}
use Rattle.osm_json.proofs.Refused.{by_part, at_exit}
use Rattle.osm_json.proofs.Turns.{no_member, one_member, all_members, no_key, bad_member}
use Rattle.osm_json.proofs.lists.read_parts.Goals as goal

pub loop-key-init : goal.loop-key-init
loop-key-init c = (_, no_member c.args.depth _, refl)

pub returns-in_err-key-clause-value : goal.returns-in_err-key-clause-value
returns-in_err-key-clause-value c = at_exit _ _ _ _ _ NotJson c.from_residual.ensures.1 (no_key c.loop-key.invariant.1 c.in_err-key.ensures.value)

pub loop-key-preserved : goal.loop-key-preserved
loop-key-preserved c =
    let l = c.loop-key in
    let key = rw c.in-Some.is at c.in_ok-key.ensures.value in
    let read = c.in_ok-part.ensures.value in (
      _,
      one_member l.invariant.1 _ _ _ read.source key read.begins,
      sym read.reads ∙ ap (λ p. put_part p read.source (parts_view l.found)) c.part_of.ensures ∙ ap (put_part _ read.source) l.invariant.2 ∙ parts_put c.in-Some.key.now read.source l.invariant.0,
    )

pub returns-in_err-part-clause-value : goal.returns-in_err-part-clause-value
returns-in_err-part-clause-value c =
    let l = c.loop-key in
    let key = rw c.in-Some.is at c.in_ok-key.ensures.value in
    at_exit _ _ _ _ _ c.in_err-part.field-0.0 c.from_residual-in_err-part.ensures.1 (by_part c.in_err-part.field-0.0 _ _ c.in_err-part.ensures.value (λ e. bad_member l.invariant.1 _ _ key e))

pub returns-clause-value : goal.returns-clause-value
returns-clause-value c =
    let over = rw c.in_default.is at c.in_ok-key.ensures.value in
    record { source = _; begins = all_members c.loop-key.invariant.1 _ over; reads = sym c.loop-key.invariant.2 }
