-- Whether a plan stands, as it is told.
use Rattle.std.proofs.Common.{◌≡◌, Ok, Err, refl, subst}
use Rattle.std.specs.Prelude.{Result, MatchResult, IsErr}
use Rattle.osm_later.specs.declared.looks.Look.{Look}

-- it stands, or else a look says where not
abbrev pub IsTold : Type 0 → (Look → Type 0) → Result (Unit {0}) Look → Type 0
IsTold P Q told = MatchResult told (λ _. P) (λ look. (P → ⊥) × Q look)

pub stands-told : (P : Type 0) (Q : Look → Type 0) (told : Result (Unit {0}) Look) → IsTold P Q told → P → told ≡ Ok tt
stands-told P Q (Ok done) is stands = refl
stands-told P Q (Err look) is stands = absurd (is.0 stands)

pub falls-told : (P : Type 0) (Q : Look → Type 0) (told : Result (Unit {0}) Look) → IsTold P Q told → (P → ⊥) → IsErr told
falls-told P Q (Ok done) is falls = absurd (falls is)
falls-told P Q (Err look) is falls = refl

pub look-told : (P : Type 0) (Q : Look → Type 0) (told : Result (Unit {0}) Look) (look : Look) → IsTold P Q told → told ≡ Err look → Q look
look-told P Q told look is err =
    let both = subst (IsTold P Q) err is in
    both.1
