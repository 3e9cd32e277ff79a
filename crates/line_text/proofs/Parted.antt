-- A text that is cut into parts.
use Rattle.std.proofs.Common.{◌≡◌, ℕ, ◌+◌, ◌-◌, List, [], ◌∷◌, ◌++◌, length, take, drop, Some, refl, sym, ap, ◌∙◌, arith, append_assoc, length-append, take-append-drop}
use Rattle.std.proofs.Math.Seq.{take-append_seam}
use Rattle.osm_base.specs.Parts.{parted}
use Rattle.line_text.specs.Cut.{IsCut}
use Rattle.line_text.proofs.LineCuts.{cut_is}

dropped_head : (xs rest : List ℕ) → drop (length xs) (xs ++ rest) ≡ rest
dropped_head [] rest = refl
dropped_head (x ∷ xs) rest = dropped_head xs rest

-- what was cut behind such a byte
pub is_cut : (text rest first behind front back : List ℕ) (from : ℕ) → rest ≡ drop from text → parted 10 rest ≡ Some (first, behind)
    → front ≡ take (length text - length behind) text → back ≡ drop (length text - length behind) text → IsCut text front back
is_cut text rest first behind front back from rest_is cut front_is back_is =
    let before = take from text ++ first in
    let head = before ++ 10 ∷ [] in
    let whole : text ≡ before ++ 10 ∷ behind =
    sym (take-append-drop from text) ∙ ap (λ (l : List ℕ). take from text ++ l) (sym rest_is ∙ cut_is rest first behind cut)
    ∙ sym (append_assoc (take from text) first (10 ∷ behind)) in
    let seam : text ≡ head ++ behind = whole ∙ sym (append_assoc before (10 ∷ []) behind) in
    let long : length text ≡ length head + length behind = ap length seam ∙ length-append head behind in
    let at : length text - length behind ≡ length head = omega arith in
    let same : back ≡ behind =
    back_is ∙ ap (λ n. drop n text) at ∙ ap (λ (l : List ℕ). drop (length head) l) seam ∙ dropped_head head behind in
    record {
      before = before;
      front_is = front_is ∙ ap (λ n. take n text) at ∙ ap (λ (l : List ℕ). take (length head) l) seam ∙ take-append_seam head behind;
      is = whole ∙ ap (λ (l : List ℕ). before ++ 10 ∷ l) (sym same);
    }
