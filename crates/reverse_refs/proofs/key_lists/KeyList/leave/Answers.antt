use Rattle.std.proofs.Common.{◌≡◌, true, ◌∙◌, ap, arith, List, drop, take}
use Rattle.osm_base.specs.Key.{lists_key, insert_key}
use Rattle.osm_base.specs.declared.keys.Key.{Key}
use Rattle.reverse_refs.specs.Users.{UserRow}
use Rattle.reverse_refs.proofs.Parted.{gone, same_parts}
use Rattle.reverse_refs.proofs.key_lists.KeyList.leave.Goals as goal

pub invariant_of-self : goal.invariant_of-self
invariant_of-self c =
    let n = c.self.inside.present in
    let there : lists_key (take n c.self.inside.keys.items) c.args.key ≡ true = ap (λ (r : UserRow). lists_key r.present c.args.key) c.self.view_is ∙ c.requires in (
      same_parts _ _ _ _
          (c.put_in_past.ensures.present ∙ c.take_from_present.ensures.present)
          (c.put_in_past.ensures.past ∙ ap (λ (ks : List Key). insert_key ks c.args.key) c.take_from_present.ensures.past)
          (gone (take n c.self.inside.keys.items) (drop n c.self.inside.keys.items) c.args.key there c.self.invariant.0),
      omega arith,
      omega arith,
    )
