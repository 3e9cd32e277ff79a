-- Ids between commas, read one after the other.
use Rattle.std.proofs.Common.{◌≡◌, ℕ, List, [], ◌∷◌, ◌++◌, Option, Some, None, refl, sym, ap, append_assoc}
use Rattle.std.specs.Option.{option_map}
use Rattle.osm_base.specs.Number.{number_of}
use Rattle.osm_base.specs.Parts.{parted}
use Rattle.osm_base.specs.Decimal.{comma}
use Rattle.osm_base.proofs.Cuts.{parts-cut, parts-whole}
use Rattle.route_table.specs.Parameters.{ids_in}

-- the ids read so far, before those of the rest
abbrev pub behind_ids : List ℕ → List ℕ → Option (List ℕ)
behind_ids ids rest = option_map (λ more. ids ++ more) (ids_in rest)

behind_more : (ids : List ℕ) (id : ℕ) (more : Option (List ℕ))
    → option_map (λ ns. ids ++ ns) (option_map (λ ns. id ∷ ns) more) ≡ option_map (λ ns. (ids ++ id ∷ []) ++ ns) more
behind_more ids id None = refl
behind_more ids id (Some more) = ap (λ (ns : List ℕ). Some ns) (sym (append_assoc ids (id ∷ []) more))

-- one more id
pub ids_step :
    (ids rest part behind : List ℕ) (id : ℕ)
    → parted comma rest ≡ Some (part, behind) → number_of part ≡ Some id
    → behind_ids ids rest ≡ behind_ids (ids ++ id ∷ []) behind
ids_step ids rest part behind id cut is = rw (parts-cut comma rest part behind cut, is) (behind_more ids id (ids_in behind))

-- a part that is no number
pub ids_stop :
    (ids rest part behind : List ℕ)
    → parted comma rest ≡ Some (part, behind) → number_of part ≡ None
    → behind_ids ids rest ≡ None
ids_stop ids rest part behind cut is = rw (parts-cut comma rest part behind cut, is) refl

-- the last part
pub ids_last : (ids rest : List ℕ) (id : ℕ) → parted comma rest ≡ None → number_of rest ≡ Some id → behind_ids ids rest ≡ Some (ids ++ id ∷ [])
ids_last ids rest id whole is = rw (parts-whole comma rest whole, is) refl

pub ids_end : (ids rest : List ℕ) → parted comma rest ≡ None → number_of rest ≡ None → behind_ids ids rest ≡ None
ids_end ids rest whole is = rw (parts-whole comma rest whole, is) refl

pub ids_first : (value : List ℕ) → ids_in value ≡ behind_ids [] value
ids_first value = same (ids_in value)
  where
    same : (found : Option (List ℕ)) → found ≡ option_map (λ more. [] ++ more) found
    same None = refl
    same (Some ids) = refl
