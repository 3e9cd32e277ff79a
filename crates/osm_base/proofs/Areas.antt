-- Areas joined.
use Rattle.std.proofs.Common.{◌≡◌, ℤ, refl, ap, ◌∙◌, arith}
use Rattle.std.specs.Int.{int_min, int_max}
use Rattle.std.proofs.lemmas.Int.{ints, clamps}
use Rattle.osm_base.specs.Place.{Position, Area, at_position, area_with, area_join}

pub area_with-is : (a : Area) (p : Position) → area_with a p ≡ area_join a (at_position p)
area_with-is a p = refl

int_min-assoc : (a b c : ℤ) → int_min (int_min a b) c ≡ int_min a (int_min b c)
int_min-assoc a b c = grind (arith, ints, clamps)

int_max-assoc : (a b c : ℤ) → int_max (int_max a b) c ≡ int_max a (int_max b c)
int_max-assoc a b c = grind (arith, ints, clamps)

int_min-comm : (a b : ℤ) → int_min a b ≡ int_min b a
int_min-comm a b = grind (arith, ints, clamps)

int_max-comm : (a b : ℤ) → int_max a b ≡ int_max b a
int_max-comm a b = grind (arith, ints, clamps)

area : ℤ → ℤ → ℤ → ℤ → Area
area left bottom right top = record { left = left; bottom = bottom; right = right; top = top }

areas-same : (a b : Area) → a.left ≡ b.left → a.bottom ≡ b.bottom → a.right ≡ b.right → a.top ≡ b.top → a ≡ b
unfolding area
areas-same a b left bottom right top =
    ap (λ (x : ℤ). area x a.bottom a.right a.top) left
    ∙ ap (λ (x : ℤ). area b.left x a.right a.top) bottom
    ∙ ap (λ (x : ℤ). area b.left b.bottom x a.top) right
    ∙ ap (λ (x : ℤ). area b.left b.bottom b.right x) top

pub area_join-assoc : (a b c : Area) → area_join (area_join a b) c ≡ area_join a (area_join b c)
area_join-assoc a b c =
    areas-same (area_join (area_join a b) c) (area_join a (area_join b c))
    (int_min-assoc a.left b.left c.left)
    (int_min-assoc a.bottom b.bottom c.bottom)
    (int_max-assoc a.right b.right c.right)
    (int_max-assoc a.top b.top c.top)

pub area_join-comm : (a b : Area) → area_join a b ≡ area_join b a
area_join-comm a b =
    areas-same (area_join a b) (area_join b a)
    (int_min-comm a.left b.left)
    (int_min-comm a.bottom b.bottom)
    (int_max-comm a.right b.right)
    (int_max-comm a.top b.top)
