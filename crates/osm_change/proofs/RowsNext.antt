-- The rows of a loop over operations, their elements and what they did.
use Rattle.std.proofs.Common.{◌≡◌, ℕ, suc, ◌+◌, ◌<◌, List, [], ◌∷◌, ◌++◌, length, drop, get_or, sym, ap, ◌∙◌, add-one, append_assoc, drop-cons, refl, zero, arith}
use Rattle.osm_base.specs.declared.keys.Key.{Key}
use Rattle.osm_change.specs.Rows.{row, rows_among}
use Rattle.osm_change.specs.declared.answers.DiffRow.{DiffRow}
use Rattle.osm_change.specs.declared.operations.Op.{Op}
use Rattle.osm_change.specs.declared.operations.OpDone.{OpDone}

-- an item that is there, whatever stands for one that isn't
pub at-same : {A : Type 0} (xs : List A) (i : ℕ) (d e : A) → i < length xs → get_or xs i d ≡ get_or xs i e
at-same [] i d e lt = absurd (omega (arith, lt))
at-same (x ∷ xs) zero d e lt = refl
at-same (x ∷ xs) (suc i) d e lt = at-same xs i d e (omega (arith, lt))

cut : {A : Type 0} (xs : List A) (i : ℕ) (x : A) → i < length xs → x ≡ get_or xs i x → drop i xs ≡ x ∷ drop (i + 1) xs
cut xs i x lt at = drop-cons xs i x lt ∙ ap (λ y. y ∷ drop (suc i) xs) (sym at) ∙ ap (λ n. x ∷ drop n xs) (sym (add-one i))

pub rows-next : (all ops : List Op) (ks : List Key) (ds : List OpDone) (i : ℕ) (o : Op) (k : Key) (d : OpDone) (done next : List DiffRow) → i < length ops → i < length ks → i < length ds → o ≡ get_or ops i o → k ≡ get_or ks i k → d ≡ get_or ds i d → next ≡ done ++ row all o k d ∷ [] → done ++ rows_among all (drop i ops) (drop i ks) (drop i ds) ≡ next ++ rows_among all (drop (i + 1) ops) (drop (i + 1) ks) (drop (i + 1) ds)
rows-next all ops ks ds i o k d done next in_ops in_ks in_ds at_o at_k at_d pushed =
    let rest = rows_among all (drop (i + 1) ops) (drop (i + 1) ks) (drop (i + 1) ds) in
    ap (λ os. done ++ rows_among all os (drop i ks) (drop i ds)) (cut ops i o in_ops at_o)
    ∙ ap (λ js. done ++ rows_among all (o ∷ drop (i + 1) ops) js (drop i ds)) (cut ks i k in_ks at_k)
    ∙ ap (λ es. done ++ rows_among all (o ∷ drop (i + 1) ops) (k ∷ drop (i + 1) ks) es) (cut ds i d in_ds at_d)
    ∙ sym (append_assoc done (row all o k d ∷ []) rest)
    ∙ ap (λ rs. rs ++ rest) (sym pushed)
