-- No two creates of a kind that were read have one placeholder.
use Rattle.std.proofs.Common.{◌≡◌, ℕ, zero, suc, ◌+◌, ◌<◌, Bool, true, false, cond, not, ltb, ◌&&◌, List, [], ◌∷◌, length, take, Option, Some, None, ℤ, Ok, refl, sym, ap, ◌∙◌, inl, inr, arith, true≢false, slice_get}
use Rattle.std.specs.Prelude.{All, option_and_then, position}
use Rattle.std.specs.Ordering.{int_eq}
use Rattle.std.specs.List.{position_or_len}
use Rattle.std.proofs.lemmas.Bool.{cases_order, lt-ltb, ltb-true}
use Rattle.std.proofs.lemmas.Bool.Decides.{Decides-int_eq}
use Rattle.osm_base.specs.Key.{kind_eq}
use Rattle.osm_base.specs.declared.keys.Kind.{Kind}
use Rattle.osm_base.specs.declared.keys.Kind.TheVariants.{Node, Way, Relation}
use Rattle.osm_element.specs.declared.contents.RawContent.{RawContent}
use Rattle.osm_change.specs.Change.{kind_of, created_kind, created_as, created_as_at}
use Rattle.osm_change.specs.Build.{Look, is_create, creates, created_at, op_by, operations_after, IsReference, HasContent, IsRawOp}
use Rattle.osm_change.specs.declared.raw.Action.{Action}
use Rattle.osm_change.specs.declared.raw.Action.TheVariants as action
use Rattle.osm_change.specs.declared.raw.RawOp.{RawOp}
use Rattle.osm_change.specs.declared.operations.Op.{Op}
use Rattle.osm_change.proofs.Built.{created-from, modified-from, deleted-from, built-at, raw-at}
use Rattle.osm_change.proofs.NamesBefore.{makes}
use Rattle.osm_change.proofs.OwnParts.{free-is}

pub kind_eq-refl : (k : Kind) → kind_eq k k ≡ true
kind_eq-refl Node = refl
kind_eq-refl Way = refl
kind_eq-refl Relation = refl

pub int_eq-refl : (z : ℤ) → int_eq z z ≡ true
int_eq-refl z = (Decides-int_eq z z).1 refl

some-none : {A : Type 0} (x : A) → Some x ≡ None → ⊥
some-none x e = cc

one-later : (place len : ℕ) → place < len → ltb (1 + place) (suc len) ≡ true
one-later place len lt = lt-ltb (1 + place) (suc len) (omega arith)

passes-later : (place len : ℕ) (b : Bool) → cond (ltb (cond (not b) (1 + place) 0) (suc len)) (Some (cond (not b) (1 + place) 0)) None ≡ None → (b ≡ false) × (cond (ltb place len) (Some place) None ≡ None)
passes-later place len true e =
    let first : ltb 0 (suc len) ≡ true = lt-ltb 0 (suc len) (omega arith) in
    absurd (some-none 0 (sym (ap (λ b. cond b (Some 0) None) first) ∙ e))
passes-later place len false e = (refl, at (ltb place len) refl)
  where
    at : (b : Bool) → ltb place len ≡ b → cond (ltb place len) (Some place) None ≡ None
    at true lt =
        let more : ltb (1 + place) (suc len) ≡ true = one-later place len (ltb-true place len lt) in
        absurd (some-none (1 + place) (sym (ap (λ b. cond b (Some (1 + place)) None) more) ∙ e))
    at false past = ap (λ b. cond b (Some place) None) past

-- where no operation of a list passes
pub position-none : (test : RawOp → Bool) (xs : List RawOp) → position test xs ≡ None → (p : ℕ) (x : RawOp) → slice_get xs p ≡ Some x → test x ≡ false
position-none test [] none p x at = absurd (cc)
position-none test (y ∷ ys) none zero x at =
    let same : y ≡ x = cc in
    ap test (sym same) ∙ (passes-later (position_or_len test ys) (length ys) (test y) none).0
position-none test (y ∷ ys) none (suc p) x at =
    position-none test ys (passes-later (position_or_len test ys) (length ys) (test y) none).1 p x at

taken-back : (xs : List RawOp) (n p : ℕ) (x : RawOp) → p < n → slice_get xs p ≡ Some x → slice_get (take n xs) p ≡ Some x
taken-back [] n p x lt e = absurd (cc)
taken-back (y ∷ ys) zero p x lt e = absurd (omega arith)
taken-back (y ∷ ys) (suc n) zero x lt e = e
taken-back (y ∷ ys) (suc n) (suc p) x lt e = taken-back ys n p x (omega arith) e

-- the raw operation of a create
pub record IsCreatedOf (look : Look) (r : RawOp) (kind : Kind) (placeholder : ℤ) : Type 0 where
  pub create : is_create r.action ≡ true
  pub same_kind : r.kind ≡ kind
  pub same_id : r.id ≡ placeholder
  pub free : look r.kind r.id ≡ None

none-created : (created : Kind × ℤ) → None ≡ Some created → ⊥
none-created created e = cc

created-of : (look : Look) (r : RawOp) (a : Action) (c : Option RawContent) (o : Op) (created : Kind × ℤ) → a ≡ r.action → IsReference r.id → HasContent a r.kind c → op_by look r a c ≡ Ok o → created_as o ≡ Some created → IsCreatedOf look r created.0 created.1
created-of look r action.Create None o created at ref has e under = absurd has
created-of look r action.Create (Some c) o created at ref has e under =
    let from = created-from look r c o e in
    let free = free-is look r.kind r.id from.placeholder ref from.free in
    let kinds : Some (kind_of from.made) ≡ Some r.kind = ap created_kind from.is ∙ makes look r action.Create (Some c) o has e refl in
    let both : Some (kind_of from.made, from.placeholder) ≡ Some created = ap created_as from.is ∙ under in
    let pair : (kind_of from.made, from.placeholder) ≡ created = cc in
    let made : kind_of from.made ≡ r.kind = cc in
    record {
      create = ap is_create (sym at);
      same_kind = sym made ∙ ap (λ (p : Kind × ℤ). p.0) pair;
      same_id = sym free.same ∙ ap (λ (p : Kind × ℤ). p.1) pair;
      free = free.free;
    }
created-of look r action.Modify None o created at ref has e under = absurd has
created-of look r action.Modify (Some c) o created at ref has e under =
    absurd (none-created created (ap created_as (modified-from look r c o e).is ∙ under))
created-of look r (action.Delete if_unused) c o created at ref has e under =
    absurd (none-created created (ap created_as (deleted-from look r if_unused o e).is ∙ under))

operation-at : (found : Option Op) (created : Kind × ℤ) → option_and_then created_as found ≡ Some created → (o : Op) × (found ≡ Some o) × (created_as o ≡ Some created)
operation-at None created e = absurd (none-created created e)
operation-at (Some o) created e = (o, refl, e)

module _ (whole : List RawOp) (ops : List Op) (raw : All IsRawOp whole) (built : operations_after [] whole ≡ Ok ops) where
  created-raw : (n : ℕ) (created : Kind × ℤ) → created_as_at ops n ≡ Some created → (r : RawOp) × (slice_get whole n ≡ Some r) × IsCreatedOf (created_at (take n whole)) r created.0 created.1
  created-raw n created e =
      let o = operation-at (slice_get ops n) created e in
      let b = built-at [] whole ops built n o.0 o.1 in
      let is = raw-at whole n b.0 raw b.1 in
      (b.0, b.1, created-of (created_at (take n whole)) b.0 b.0.action b.0.content o.0 created refl is.id is.content b.2 o.2)

  once : (m n : ℕ) (created : Kind × ℤ) → created_as_at ops m ≡ Some created → created_as_at ops n ≡ Some created → m < n → ⊥
  once m n created first second lt =
      let a = created-raw m created first in
      let b = created-raw n created second in
      let r = a.0 in
      let s = b.0 in
      let no = position-none (creates s.kind s.id) (take n whole) b.2.free m r (taken-back whole n m r lt a.1) in
      let same_kind : s.kind ≡ r.kind = b.2.same_kind ∙ sym a.2.same_kind in
      let same_id : s.id ≡ r.id = b.2.same_id ∙ sym a.2.same_id in
      let yes : creates s.kind s.id r ≡ true = ap (λ b. b && (kind_eq r.kind s.kind && int_eq s.id r.id)) a.2.create ∙ ap (λ k. kind_eq r.kind k && int_eq s.id r.id) same_kind ∙ ap (λ b. b && int_eq s.id r.id) (kind_eq-refl r.kind) ∙ ap (λ z. int_eq z r.id) same_id ∙ int_eq-refl r.id in
      true≢false (sym yes ∙ no)

  pub created-once : (m n : ℕ) (created : Kind × ℤ) → created_as_at ops m ≡ Some created → created_as_at ops n ≡ Some created → m ≡ n
  created-once m n created first second = elim (cases_order m n) [
    | inl same ↦ same
    | inr (inl lt) ↦ absurd (once m n created first second lt)
    | inr (inr lt) ↦ absurd (once n m created second first lt)
  ]
