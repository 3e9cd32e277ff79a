use Rattle.std.proofs.Common.{◌≡◌, length, take, refl, sym, ap, ◌∙◌, subst, arith}
use Rattle.std.proofs.lemmas.List.{length-take-le}
use Rattle.serde_json.specs.Data.{put}
use Rattle.osm_json.specs.declared.fault.ReadFault.TheVariants.{NotJson}
use Rattle.osm_json.specs.Names.{entry_in}
use Rattle.osm_json.specs.Walked.{Sight, Found, sight, put_entry, SeesMembers}
use Rattle.osm_json.proofs.Refused.{by_part, at_members}
use Rattle.osm_json.proofs.Sights.{entry_sees, entry_keeps}
use Rattle.osm_json.proofs.Turns.{no_member, one_member, all_members, no_key, bad_member}
use Rattle.osm_json.proofs.Walks.{Keeps}
use Rattle.osm_json.proofs.blocks.entries.Goals as goal

pub loop-key-init : goal.loop-key-init
loop-key-init c = (_, no_member c.args.depth _, record { has_create = refl; has_modify = refl; has_delete = refl; unused = refl; last = tt }, refl, c.requires)

pub returns-in_err-key-clause-value : goal.returns-in_err-key-clause-value
returns-in_err-key-clause-value c = at_members _ _ _ _ NotJson c.from_residual.ensures.1 (no_key c.loop-key.invariant.1 c.in_err-key.ensures.value)

pub loop-key-preserved : goal.loop-key-preserved
loop-key-preserved c =
    let l = c.loop-key in
    let key = rw c.in-Some.is at c.in_ok-key.ensures.value in
    let read = c.in_ok-entry.ensures.value in
    let start = c.args.base.start in
    let old : Found = (l.found, sight l.progress) in
    let base : Sight = (take start c.args.progress.now.ops.items, c.args.base.fault) in
    let name = c.in-Some.key.now in
    let new : Found = (c.entry.new.found, sight c.entry.new.progress) in
    let is : new ≡ put_entry (entry_in name) read.source base old =
    sym read.reads ∙ ap (λ e. put_entry e read.source (take start l.progress.ops.items, c.args.base.fault) old) c.entry_of.ensures
    ∙ ap (λ ops. put_entry (entry_in name) read.source (ops, c.args.base.fault) old) l.invariant.3 in
    let before : Keeps start base.0 l.progress.ops.items = record { front = l.invariant.3; long = l.invariant.4 } in
    let kept = entry_keeps (entry_in name) read.source start base old (sym (length-take-le start c.args.progress.now.ops.items c.requires)) before in
    let same = ap (λ (p : Found). p.1.0) is in (
      put name read.source l.invariant.0,
      one_member l.invariant.1 _ _ _ read.source key read.begins,
      subst (SeesMembers (put name read.source l.invariant.0) base) (sym is) (entry_sees name read.source l.invariant.0 base old l.invariant.2),
      ap (take start) same ∙ kept.front,
      omega (arith, kept.long, ap length same),
    )

pub returns-in_err-entry-clause-value : goal.returns-in_err-entry-clause-value
returns-in_err-entry-clause-value c =
    let l = c.loop-key in
    let key = rw c.in-Some.is at c.in_ok-key.ensures.value in
    at_members _ _ _ _ c.in_err-entry.field-0.0 c.from_residual-in_err-entry.ensures.1 (by_part c.in_err-entry.field-0.0 _ _ c.in_err-entry.ensures.value (λ e. bad_member l.invariant.1 _ _ key e))

pub returns-clause-value : goal.returns-clause-value
returns-clause-value c =
    let over = rw c.in_default.is at c.in_ok-key.ensures.value in
    record { source = _; begins = all_members c.loop-key.invariant.1 _ over; told = c.loop-key.invariant.2 }
