-- The names that the operations of a change give.
use Rattle.std.proofs.Common.{◌≡◌, ℕ, List, ◌∷◌, Option, Some, None, refl, sym, subst, slice_get}
use Rattle.std.specs.Prelude.{MatchOption, IsSome, All}
use Rattle.std.proofs.lemmas.List.Elements.{All-head, All-weaker}
use Rattle.osm_base.specs.declared.keys.Kind.{Kind}
use Rattle.osm_change.specs.Change.{named, names_given, created_kind, IsNamedBefore, IsWellFormed}
use Rattle.osm_change.specs.Said.{IsSaid}
use Rattle.osm_change.specs.declared.operations.Name.{Name}
use Rattle.osm_change.specs.declared.operations.Referent.TheVariants.{Old, New}
use Rattle.osm_change.specs.declared.operations.Named.{Named}
use Rattle.osm_change.specs.declared.operations.Op.{Op}

said-made : (found : Option Op) (kind : Kind) → MatchOption found ⊥ (λ o. created_kind o ≡ Some kind) → MatchOption found ⊥ (λ o. IsSome (created_kind o))
said-made None kind h = h
said-made (Some o) kind h = subst IsSome (sym h) refl

pub said-before : (ops : List Op) (n : ℕ) (kind : Kind) (name : Name) → IsNamedBefore ops n (named kind name) → IsSaid ops name
said-before ops n kind (Old id) is = is
said-before ops n kind (New place) is = said-made (slice_get ops place) kind is.1

-- the first name that an operation gives
pub said-first : (ops : List Op) (n : ℕ) (o : Op) (kind : Kind) (name : Name) (more : List Named) → IsWellFormed ops → slice_get ops n ≡ Some o → names_given o ≡ named kind name ∷ more → IsSaid ops name
said-first ops n o kind name more well at first =
    let all : All (IsNamedBefore ops n) (named kind name ∷ more) = subst (λ (given : List Named). All (IsNamedBefore ops n) given) first (well.named n o at) in
    said-before ops n kind name (All-head (IsNamedBefore ops n) (named kind name) more all)

pub all-said : (ops : List Op) (n : ℕ) (given : List Named) → All (IsNamedBefore ops n) given → All (λ given. IsSaid ops given.name) given
all-said ops n given all = All-weaker (IsNamedBefore ops n) (λ given. IsSaid ops given.name) (λ given is. said-before ops n given.kind given.name is) given all
