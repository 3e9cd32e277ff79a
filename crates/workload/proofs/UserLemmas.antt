-- One user more.
use Rattle.std.proofs.Common.{◌≡◌, ℕ, zero, suc, ◌+◌, List, [], ◌∷◌, ◌++◌, refl, sym, ap, ◌∙◌, arith, append-nil}
use Rattle.std.specs.List.{range_with_len}
use Rattle.std.specs.Prelude.{flat_map, codes}
use Rattle.std.proofs.lemmas.List.Concat.{flat_map-append}
use Rattle.workload.specs.Users.{user_line, users_text}

abbrev pub ended_line : ℕ → List ℕ
ended_line user = user_line user ++ codes "\n"

pub users_text-none : users_text 0 ≡ []
unfolding users_text
users_text-none = refl

range_more : (first n : ℕ) → range_with_len first (suc n) ≡ range_with_len first n ++ (first + n) ∷ []
range_more first zero = ap (λ last. last ∷ []) (omega arith)
range_more first (suc n) =
    ap (λ more. first ∷ more) (range_more (first + 1) n ∙ ap (λ last. range_with_len (first + 1) n ++ last ∷ []) (omega arith))

pub users_text-suc : (n : ℕ) → users_text (suc n) ≡ users_text n ++ ended_line (n + 1)
unfolding users_text
users_text-suc n =
    ap (λ users. flat_map ended_line users) (range_more 1 n)
    ∙ flat_map-append ended_line (range_with_len 1 n) ((1 + n) ∷ [])
    ∙ ap (λ last. flat_map ended_line (range_with_len 1 n) ++ last) (append-nil (ended_line (1 + n)) ∙ ap ended_line (omega arith))

-- the line of one more user is put
pub users_more : (n : ℕ) (old new : List ℕ) → old ≡ users_text n → new ≡ old ++ ended_line (n + 1) → new ≡ users_text (n + 1)
users_more n old new kept put =
    let next : suc n ≡ n + 1 = omega arith in
    put ∙ ap (λ before. before ++ ended_line (n + 1)) kept ∙ sym (users_text-suc n) ∙ ap users_text next
