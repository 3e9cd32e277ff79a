use Rattle.std.proofs.Common.{◌≡◌, true, ◌∙◌, ap, arith, List, drop, take}
use Rattle.osm_base.specs.Key.{lists_key, insert_key}
use Rattle.osm_base.specs.declared.keys.Key.{Key}
use Rattle.reverse_refs.specs.Users.{UserRow}
use Rattle.reverse_refs.proofs.Parted.{back, same_parts}
use Rattle.reverse_refs.proofs.key_lists.KeyList.come_back.Goals as goal

pub put_in_present-requires-clause-room : goal.put_in_present-requires-clause-room
put_in_present-requires-clause-room c =
    let n = c.self.inside.present in
    let there : lists_key (drop n c.self.inside.keys.items) c.args.key ≡ true = ap (λ (r : UserRow). lists_key r.past c.args.key) c.self.view_is ∙ c.requires in
    omega (arith, c.take_from_past.ensures.shorter there)

pub invariant_of-self : goal.invariant_of-self
invariant_of-self c =
    let n = c.self.inside.present in
    let there : lists_key (drop n c.self.inside.keys.items) c.args.key ≡ true = ap (λ (r : UserRow). lists_key r.past c.args.key) c.self.view_is ∙ c.requires in (
      same_parts _ _ _ _
          (c.put_in_present.ensures.present ∙ ap (λ (ks : List Key). insert_key ks c.args.key) c.take_from_past.ensures.present)
          (c.put_in_present.ensures.past ∙ c.take_from_past.ensures.past)
          (back (take n c.self.inside.keys.items) (drop n c.self.inside.keys.items) c.args.key there c.self.invariant.0),
      omega arith,
      omega (arith, c.take_from_past.ensures.shorter there),
    )
