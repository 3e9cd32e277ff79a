-- What is read of a document is well formed.
use Rattle.std.proofs.Common.{◌≡◌, ℕ, zero, suc, List, [], ◌∷◌, take, Some, Ok, arith, slice_get, refl}
use Rattle.std.specs.Prelude.{All}
use Rattle.std.proofs.lemmas.List.Elements.{All-nil, All-cons}
use Rattle.osm_change.specs.Change.{IsWellFormed}
use Rattle.osm_change.specs.Build.{Look, created_at, op_of, operations_after, IsRawOp, IsRaw}
use Rattle.osm_change.specs.declared.raw.RawOp.{RawOp}
use Rattle.osm_change.specs.declared.operations.Op.{Op}
use Rattle.osm_change.proofs.Built.{built-length, built-at, raw-at}
use Rattle.osm_change.proofs.NamesBefore.{named-before}
use Rattle.osm_change.proofs.OwnParts.{op-known, op-version, op-placeholder, op-limits}
use Rattle.osm_change.proofs.Placeholders.{created-once}

all-at : {A : Type 0} (P : A → Type 0) (xs : List A) → ((n : ℕ) (x : A) → slice_get xs n ≡ Some x → P x) → All P xs
all-at P [] h = All-nil P
all-at P (x ∷ xs) h = All-cons P x xs (h zero x refl) (all-at P xs (λ n y e. h (suc n) y e))

-- what holds of whatever one raw operation gives holds of each that was read
each-built : (P : Op → Type 0) → ((look : Look) (r : RawOp) (o : Op) → IsRawOp r → op_of look r ≡ Ok o → P o) → (whole : List RawOp) (ops : List Op) → All IsRawOp whole → operations_after [] whole ≡ Ok ops → All P ops
each-built P h whole ops raw built = all-at P ops (λ n o at.
    let b = built-at [] whole ops built n o at in
    h (created_at (take n whole)) b.0 o (raw-at whole n b.0 raw b.1) b.2)

pub built-well_formed : (whole : List RawOp) (ops : List Op) → IsRaw whole → operations_after [] whole ≡ Ok ops → IsWellFormed ops
built-well_formed whole ops raw built = record {
  few = let few = raw.few in let same = built-length [] whole ops built in omega arith;
  named = named-before whole ops raw.each built;
  known = each-built _ op-known whole ops raw.each built;
  placeholders = each-built _ op-placeholder whole ops raw.each built;
  distinct = created-once whole ops raw.each built;
  versions = each-built _ op-version whole ops raw.each built;
  limits = each-built _ op-limits whole ops raw.each built;
}
