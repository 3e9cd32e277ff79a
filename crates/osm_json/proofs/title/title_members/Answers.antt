use Rattle.std.proofs.Common.{Some, if◌then◌else◌, bytes_eq, codes, refl, sym, ap, ◌∙◌}
use Rattle.serde_json.specs.Find.{as_str}
use Rattle.osm_json.specs.declared.fault.ReadFault.TheVariants.{NotJson}
use Rattle.osm_json.proofs.Documents.{title_put}
use Rattle.osm_json.proofs.Refused.{by_part, at_exit}
use Rattle.osm_json.proofs.Turns.{no_member, one_member, all_members, no_key, bad_member}
use Rattle.osm_json.proofs.title.title_members.Goals as goal

pub loop-key-init : goal.loop-key-init
loop-key-init c = (_, no_member c.args.depth _, refl)

pub returns-in_err-key-clause-value : goal.returns-in_err-key-clause-value
returns-in_err-key-clause-value c = at_exit _ _ _ _ _ NotJson c.from_residual.ensures.1 (no_key c.loop-key.invariant.1 c.in_err-key.ensures.value)

pub loop-key-preserved : goal.loop-key-preserved
loop-key-preserved c =
    let l = c.loop-key in
    let name = c.in-Some.key.now in
    let key = rw c.in-Some.is at c.in_ok-key.ensures.value in
    let read = c.in_ok-title_member.ensures.value in (
      _,
      one_member l.invariant.1 _ _ _ read.source key read.begins,
      sym read.reads ∙ ap (λ o. if bytes_eq name (codes "title") then Some (as_str read.source) else o) l.invariant.2 ∙ title_put name read.source l.invariant.0,
    )

pub returns-in_err-title_member-clause-value : goal.returns-in_err-title_member-clause-value
returns-in_err-title_member-clause-value c =
    let l = c.loop-key in
    let key = rw c.in-Some.is at c.in_ok-key.ensures.value in
    at_exit _ _ _ _ _ c.in_err-title_member.field-0.0 c.from_residual-in_err-title_member.ensures.1 (by_part c.in_err-title_member.field-0.0 _ _ c.in_err-title_member.ensures.value (λ e. bad_member l.invariant.1 _ _ key e))

pub returns-clause-value : goal.returns-clause-value
returns-clause-value c =
    let over = rw c.in_default.is at c.in_ok-key.ensures.value in
    record { source = _; begins = all_members c.loop-key.invariant.1 _ over; reads = sym c.loop-key.invariant.2 }
