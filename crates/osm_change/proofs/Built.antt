-- What the operations of a reading came of.
use Rattle.std.proofs.Common.{◌≡◌, ℕ, zero, suc, ◌<◌, Bool, true, List, [], ◌∷◌, ◌++◌, length, take, Option, Some, None, ℤ, Result, Ok, Err, refl, sym, ap, ◌∙◌, subst, arith, slice_get}
use Rattle.std.specs.Prelude.{All, position}
use Rattle.std.proofs.lemmas.List.{append_assoc, append-nil}
use Rattle.std.proofs.lemmas.List.Elements.{All-head, All-tail}
use Rattle.std.proofs.lemmas.List.Quantifiers.{position-Some}
use Rattle.std.proofs.lemmas.Option.{slice_get-get_or}
use Rattle.std.proofs.Math.ListN.{get_or}
use Rattle.osm_element.specs.declared.contents.Content.{Content}
use Rattle.osm_element.specs.declared.contents.RawContent.{RawContent}
use Rattle.osm_base.specs.Outcome.{◌>>=◌, unless}
use Rattle.osm_change.specs.Outcome.{cons_ok}
use Rattle.osm_change.specs.Build.{Look, created_at, new_name, name_of, content_named, local_cause, free_placeholder, version_named, created, modified, deleted, op_of, or_fault, operations_after, IsRawOp}
use Rattle.osm_change.specs.declared.causes.Cause.{Cause}
use Rattle.osm_change.specs.declared.causes.ShapeFault.{ShapeFault}
use Rattle.osm_change.specs.declared.raw.RawOp.{RawOp}
use Rattle.osm_change.specs.declared.operations.Name.{Name}
use Rattle.osm_change.specs.declared.operations.Referent.TheVariants.{New}
use Rattle.osm_change.specs.declared.operations.Op.{Op}
use Rattle.osm_change.specs.declared.operations.Op.TheVariants.{Create, Modify, Delete}

-- a step that gave something, and the next
pub bind-ok : {A B E : Type 0} (first : Result A E) (next : A → Result B E) (b : B) → (first >>= next) ≡ Ok b → (a : A) × (first ≡ Ok a) × (next a ≡ Ok b)
bind-ok (Ok a) next b e = (a, refl, e)
bind-ok (Err c) next b e = absurd (cc)

pub unless-ok : {A E : Type 0} (cause : Option E) (a b : A) → ◌≡◌ {A = Result A E} (unless cause (Ok a)) (Ok b) → (cause ≡ None) × (a ≡ b)
unless-ok None a b e = let same : a ≡ b = cc in (refl, same)
unless-ok (Some c) a b e = absurd (cc)

pub cons-ok : {A E : Type 0} (x : A) (r : Result (List A) E) (ys : List A) → cons_ok x r ≡ Ok ys → (xs : List A) × (r ≡ Ok xs) × (ys ≡ x ∷ xs)
cons-ok x (Ok xs) ys e = let same : ys ≡ x ∷ xs = cc in (xs, refl, same)
cons-ok x (Err c) ys e = absurd (cc)

-- what a create that was read came of
pub record IsCreated (look : Look) (r : RawOp) (c : RawContent) (o : Op) : Type 0 where
  pub placeholder : ℤ
  pub made : Content Name
  pub free : free_placeholder look r.kind r.id ≡ Ok placeholder
  pub names : content_named look c ≡ Ok made
  pub within : local_cause r.tags c ≡ None
  pub is : Create placeholder made r.tags ≡ o

pub created-from : (look : Look) (r : RawOp) (c : RawContent) (o : Op) → created look r c ≡ Ok o → IsCreated look r c o
created-from look r c o e =
    let placed = bind-ok (free_placeholder look r.kind r.id) (λ placeholder. content_named look c >>= (λ named. unless (local_cause r.tags c) (Ok (Create placeholder named r.tags)))) o e in
    let made = bind-ok (content_named look c) (λ named. unless (local_cause r.tags c) (Ok (Create placed.0 named r.tags))) o placed.2 in
    let same = unless-ok (local_cause r.tags c) (Create placed.0 made.0 r.tags) o made.2 in
    record { placeholder = placed.0; made = made.0; free = placed.1; names = made.1; within = same.0; is = same.1 }

-- what a modify that was read came of
pub record IsModified (look : Look) (r : RawOp) (c : RawContent) (o : Op) : Type 0 where
  pub name : Name
  pub made : Content Name
  pub version : ℕ
  pub own : name_of look r.kind r.id ≡ Ok name
  pub names : content_named look c ≡ Ok made
  pub replaces : version_named r.version ≡ Ok version
  pub within : local_cause r.tags c ≡ None
  pub is : Modify name version made r.tags ≡ o

pub modified-from : (look : Look) (r : RawOp) (c : RawContent) (o : Op) → modified look r c ≡ Ok o → IsModified look r c o
modified-from look r c o e =
    let name = bind-ok (name_of look r.kind r.id) (λ name. content_named look c >>= (λ named. version_named r.version >>= (λ version. unless (local_cause r.tags c) (Ok (Modify name version named r.tags))))) o e in
    let made = bind-ok (content_named look c) (λ named. version_named r.version >>= (λ version. unless (local_cause r.tags c) (Ok (Modify name.0 version named r.tags)))) o name.2 in
    let version = bind-ok (version_named r.version) (λ version. unless (local_cause r.tags c) (Ok (Modify name.0 version made.0 r.tags))) o made.2 in
    let same = unless-ok (local_cause r.tags c) (Modify name.0 version.0 made.0 r.tags) o version.2 in
    record { name = name.0; made = made.0; version = version.0; own = name.1; names = made.1; replaces = version.1; within = same.0; is = same.1 }

-- what a delete that was read came of
pub record IsDeleted (look : Look) (r : RawOp) (if_unused : Bool) (o : Op) : Type 0 where
  pub name : Name
  pub version : ℕ
  pub own : name_of look r.kind r.id ≡ Ok name
  pub replaces : version_named r.version ≡ Ok version
  pub is : Delete r.kind name version if_unused ≡ o

pub deleted-from : (look : Look) (r : RawOp) (if_unused : Bool) (o : Op) → deleted look r if_unused ≡ Ok o → IsDeleted look r if_unused o
deleted-from look r if_unused o e =
    let name = bind-ok (name_of look r.kind r.id) (λ name. version_named r.version >>= (λ version. Ok (Delete r.kind name version if_unused))) o e in
    let version = bind-ok (version_named r.version) (λ version. Ok (Delete r.kind name.0 version if_unused)) o name.2 in
    let same : Delete r.kind name.0 version.0 if_unused ≡ o = let last = version.2 in cc in
    record { name = name.0; version = version.0; own = name.1; replaces = version.1; is = same }

-- the parts of a reading that gave operations
pub parts : (place : ℕ) (first : Result Op Cause) (later : Result (List Op) ShapeFault) (ops : List Op) → (or_fault place first >>= (λ o. cons_ok o later)) ≡ Ok ops → (o : Op) × (os : List Op) × (first ≡ Ok o) × (later ≡ Ok os) × (ops ≡ o ∷ os)
parts place (Err cause) later ops e = absurd (cc)
parts place (Ok o) later ops e = let more = cons-ok o later ops e in (o, more.0, refl, more.1, more.2)

pub built-length : (before rest : List RawOp) (ops : List Op) → operations_after before rest ≡ Ok ops → length ops ≡ length rest
built-length before [] ops e = let none : [] ≡ ops = cc in ap length (sym none)
built-length before (r ∷ rest) ops e =
    let p = parts (length before) (op_of (created_at before) r) (operations_after (before ++ r ∷ []) rest) ops e in
    let more = built-length (before ++ r ∷ []) rest p.1 p.3 in
    ap length p.4 ∙ ap suc more

pub moved : (before rest : List RawOp) (r s : RawOp) (n : ℕ) (o : Op) → op_of (created_at ((before ++ r ∷ []) ++ take n rest)) s ≡ Ok o → op_of (created_at (before ++ take (suc n) (r ∷ rest))) s ≡ Ok o
moved before rest r s n o e = ap (λ (b : List RawOp). op_of (created_at b) s) (sym (append_assoc before (r ∷ []) (take n rest))) ∙ e

-- the operation at a place comes of the raw one there
pub built-at : (before rest : List RawOp) (ops : List Op) → operations_after before rest ≡ Ok ops → (n : ℕ) (o : Op) → slice_get ops n ≡ Some o → (r : RawOp) × (slice_get rest n ≡ Some r) × (op_of (created_at (before ++ take n rest)) r ≡ Ok o)
built-at before [] ops e n o at =
    let none : [] ≡ ops = cc in
    let past : slice_get {X = Op} [] n ≡ Some o = ap (λ os. slice_get os n) none ∙ at in
    absurd (cc)
built-at before (r ∷ rest) ops e zero o at =
    let p = parts (length before) (op_of (created_at before) r) (operations_after (before ++ r ∷ []) rest) ops e in
    let first : Some p.0 ≡ Some o = sym (ap (λ os. slice_get os zero) p.4) ∙ at in
    let same : p.0 ≡ o = cc in
    (r, refl, ap (λ (b : List RawOp). op_of (created_at b) r) (append-nil before) ∙ p.2 ∙ ap Ok same)
built-at before (r ∷ rest) ops e (suc n) o at =
    let p = parts (length before) (op_of (created_at before) r) (operations_after (before ++ r ∷ []) rest) ops e in
    let there : slice_get p.1 n ≡ Some o = sym (ap (λ os. slice_get os (suc n)) p.4) ∙ at in
    let later = built-at (before ++ r ∷ []) rest p.1 p.3 n o there in
    (later.0, later.1, moved before rest r later.0 n o later.2)

-- and the other way round
pub built-of : (before rest : List RawOp) (ops : List Op) → operations_after before rest ≡ Ok ops → (n : ℕ) (r : RawOp) → slice_get rest n ≡ Some r → (o : Op) × (slice_get ops n ≡ Some o) × (op_of (created_at (before ++ take n rest)) r ≡ Ok o)
built-of before [] ops e n r at = absurd (cc)
built-of before (s ∷ rest) ops e zero r at =
    let p = parts (length before) (op_of (created_at before) s) (operations_after (before ++ s ∷ []) rest) ops e in
    let same : s ≡ r = cc in
    (p.0, ap (λ os. slice_get os zero) p.4, ap (λ (b : List RawOp). op_of (created_at b) r) (append-nil before) ∙ ap (op_of (created_at before)) (sym same) ∙ p.2)
built-of before (s ∷ rest) ops e (suc n) r at =
    let p = parts (length before) (op_of (created_at before) s) (operations_after (before ++ s ∷ []) rest) ops e in
    let later = built-of (before ++ s ∷ []) rest p.1 p.3 n r at in
    (later.0, ap (λ os. slice_get os (suc n)) p.4 ∙ later.1, moved before rest s r n later.0 later.2)

pub position-at : (test : RawOp → Bool) (xs : List RawOp) (p : ℕ) → position test xs ≡ Some p → (x : RawOp) × (slice_get xs p ≡ Some x) × (test x ≡ true)
position-at test [] p e = absurd (cc)
position-at test (y ∷ ys) p e =
    let h = position-Some test (y ∷ ys) p y e in
    (get_or (y ∷ ys) p y, slice_get-get_or (y ∷ ys) p y h.0, h.1)

pub taken : (xs : List RawOp) (n p : ℕ) (x : RawOp) → slice_get (take n xs) p ≡ Some x → (p < n) × (slice_get xs p ≡ Some x)
taken xs zero p x e = absurd (cc)
taken [] (suc n) p x e = absurd (cc)
taken (y ∷ ys) (suc n) zero x e = (omega arith, e)
taken (y ∷ ys) (suc n) (suc p) x e = let rest = taken ys n p x e in let lt = rest.0 in (omega arith, rest.1)

pub raw-at : (xs : List RawOp) (p : ℕ) (x : RawOp) → All IsRawOp xs → slice_get xs p ≡ Some x → IsRawOp x
raw-at [] p x all e = absurd (cc)
raw-at (y ∷ ys) zero x all e = let same : y ≡ x = cc in subst IsRawOp same (All-head IsRawOp y ys all)
raw-at (y ∷ ys) (suc p) x all e = raw-at ys p x (All-tail IsRawOp y ys all) e

pub new-parts : (found : Option ℕ) (name : Name) → new_name found ≡ Ok name → (p : ℕ) × (found ≡ Some p) × (New p ≡ name)
new-parts None name e = absurd (cc)
new-parts (Some p) name e = let same : New p ≡ name = cc in (p, refl, same)
