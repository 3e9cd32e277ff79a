-- Beginnings of a list of entries.
use Rattle.std.proofs.Common.{ℕ, zero, suc, ◌≤◌, List, [], ◌∷◌, ◌++◌, length, take, refl, sym, ap, ◌∙◌, arith, append_assoc, append-nil, length-append}
use mathlib.Core.List.{IsPrefix}
use Rattle.osm_model.specs.declared.commands.Entry.{Entry}

pub prefix_self : (es : List Entry) → IsPrefix es es
prefix_self es = ([], append-nil es)

pub prefix_trans : (xs ys zs : List Entry) → IsPrefix xs ys → IsPrefix ys zs → IsPrefix xs zs
prefix_trans xs ys zs p q = (p.0 ++ q.0, sym (append_assoc xs p.0 q.0) ∙ (ap (λ w. w ++ q.0) p.1 ∙ q.1))

pub prefix_length : (xs ys : List Entry) → IsPrefix xs ys → length xs ≤ length ys
prefix_length xs ys p = omega (arith, sym (ap length p.1) ∙ length-append xs p.0)

pub take_prefix : (n : ℕ) (es : List Entry) → IsPrefix (take n es) es
take_prefix zero es = (es, refl)
take_prefix (suc n) [] = ([], refl)
take_prefix (suc n) (e ∷ es) = let rest = take_prefix n es in (rest.0, ap (λ (l : List Entry). e ∷ l) rest.1)
