-- Boxes of positions, joined.
use Rattle.std.proofs.Common.{◌≡◌, List, [], ◌∷◌, refl, ap, sym, ◌∙◌}
use Rattle.std.specs.Prelude.{Option, Some, None}
use Rattle.osm_base.specs.Place.{Area, Position, at_position}
use Rattle.osm_base.proofs.Areas.{area_join-assoc}
use Rattle.changeset_core.specs.Changeset.{join_areas, widen, widen_all}

pub join-None : (a : Option Area) → join_areas a None ≡ a
join-None None = refl
join-None (Some a) = refl

pub join-assoc : (a b c : Option Area) → join_areas (join_areas a b) c ≡ join_areas a (join_areas b c)
join-assoc None b c = refl
join-assoc (Some a) None c = refl
join-assoc (Some a) (Some b) None = refl
join-assoc (Some a) (Some b) (Some c) = ap (λ (x : Area). Some x) (area_join-assoc a b c)

-- a position is taken in as its own box is
widen-is : (a : Option Area) (p : Position) → widen a p ≡ join_areas a (Some (at_position p))
widen-is None p = refl
widen-is (Some a) p = refl

pub widen_all-is : (a : Option Area) (ps : List Position) → widen_all a ps ≡ join_areas a (widen_all None ps)
widen_all-is a [] = sym (join-None a)
widen_all-is a (p ∷ ps) =
    ap (λ (x : Option Area). widen_all x ps) (widen-is a p)
    ∙ widen_all-is (join_areas a (Some (at_position p))) ps
    ∙ join-assoc a (Some (at_position p)) (widen_all None ps)
    ∙ ap (join_areas a) (sym (widen_all-is (Some (at_position p)) ps))
