-- How far an upload has come: whatever a visible element lists is visible, ids that were given have
-- versions, histories only grow, and the versions that it made are there.
use Rattle.std.proofs.Common.{◌≡◌, ℕ, ◌+◌, ◌<◌, ◌≤◌, Bool, true, false, List, [], ◌∷◌, ◌++◌, length, Some, None, Ok, Err, refl, sym, ap, ◌∙◌, ⊎_elim, subst, length-append, append-nil, arith}
use Rattle.std.specs.Prelude.{Option, Result, All, slice_get, option_and_then, ◌==◌, if◌then◌else◌}
use Rattle.std.specs.Option.{option_map_or}
use Rattle.std.proofs.lemmas.Bool.Decides.{nat_tests}
use Rattle.std.proofs.lemmas.Bool.{cases_Bool}
use Rattle.std.proofs.lemmas.List.Elements.{All-nil, All-push}
use Rattle.osm_base.specs.Key.{kind_eq, lists_key}
use Rattle.osm_base.specs.Outcome.{◌>>=◌}
use Rattle.osm_base.specs.declared.keys.Kind.{Kind}
use Rattle.osm_base.specs.declared.keys.Key.{Key}
use Rattle.osm_base.specs.declared.people.User.{User}
use Rattle.osm_base.proofs.Pushed.{found_in_push}
use Rattle.osm_element.specs.Elements.{key, next_id, count, users, first_user, push_version, IsConsistent, KeepsConsistent, EachVersion}
use Rattle.osm_element.specs.Later.{IsBegun, IsLater}
use Rattle.osm_element.specs.Tags.{Tag}
use Rattle.osm_element.specs.declared.contents.Content.{Content}
use Rattle.osm_element.specs.declared.elements.Elements.{Elements}
use Rattle.osm_element.specs.Version.{Version}
use Rattle.osm_element.proofs.Consistent.{consistent-push}
use Rattle.osm_element.proofs.EachVersion.{each-push}
use Rattle.osm_element.proofs.Later.{later-refl, later-trans, later-push, begun-push, next-push}
use Rattle.osm_element.proofs.Used.{known, lists-users}
use Rattle.osm_change.specs.Change.{kind_of}
use Rattle.osm_change.specs.Names.{said}
use Rattle.osm_change.specs.declared.operations.Name.{Name}
use Rattle.osm_change.specs.declared.operations.Referent.TheVariants.{Old, New}
use Rattle.osm_change.specs.declared.operations.Op.{Op}
use Rattle.osm_change.specs.declared.operations.OpDone.{OpDone}
use Rattle.osm_change.specs.declared.operations.OpDone.TheVariants.{Applied, Skipped}
use Rattle.osm_change.specs.declared.refusals.Refusal.{Refusal}
use Rattle.osm_change.specs.declared.refusals.Refusal.TheVariants as refused
use Rattle.changeset_core.specs.Changeset.{join_areas}
use Rattle.changeset_core.specs.declared.records.ChangesetRecord.{ChangesetRecord}
use Rattle.changeset_core.specs.declared.records.Work.{Work}
use Rattle.osm_model.specs.declared.states.State.{State}
use Rattle.osm_model.specs.declared.uploads.Progress.{Progress}
use Rattle.osm_model.specs.Attributed.{IsVersion}
use Rattle.osm_model.specs.State.{own_changeset}
use Rattle.osm_model.specs.Upload.{Upload}
use Rattle.osm_model.specs.Names.{of_kind, known_key, with_ids}
use Rattle.osm_model.specs.Operation.{number, named_key, references_visible, next_key, made_version, applied, skipped, operate, operate_all}
use Rattle.osm_model.specs.Fold.{start, works, task, upload, upload_own, upload_counted, upload_tested, box_allowed}
use Rattle.osm_model.proofs.References.{references-visible}
use Rattle.osm_model.proofs.Steps.{bind-Ok, Ok-same, passed-operate}
use Rattle.osm_model.proofs.Versions.{pushed-version, works-later, works-push}

kind_eq-refl : (k : Kind) → kind_eq k k ≡ true
kind_eq-refl k = grind (arith, nat_tests)

-- an id that was given
pub record IsGiven (E : Elements) (k : Key) : Type 0 where
  pub counted : 0 < k.id
  pub below : k.id < next_id E k.kind

-- how far an upload has come, where Q holds of each version that it makes
pub record IsUnderway (Q : Version → Type 0) (u : Upload) (g : Progress) : Type 0 where
  pub later : IsLater u.before g.elements
  pub given : (place : ℕ) (k : Key) → slice_get g.keys place ≡ Some k → IsGiven g.elements k
  pub consistent : IsConsistent u.before → IsConsistent g.elements
  pub begun : IsBegun u.before → IsBegun g.elements
  pub versions : EachVersion Q u.before → EachVersion Q g.elements
  pub even : length g.keys ≡ length g.done
  pub there : All (IsVersion g.elements) (works g.keys g.done)

given-later : (E F : Elements) (k : Key) → IsLater E F → IsGiven E k → IsGiven F k
given-later E F k later given = record { counted = given.counted; below = omega (arith, later.grown k.kind, given.below) }

-- with one more key
given-more :
    (E F : Elements) (ks : List Key) (k : Key)
    → IsLater E F
    → ((place : ℕ) (x : Key) → slice_get ks place ≡ Some x → IsGiven E x)
    → IsGiven F k
    → (place : ℕ) (x : Key)
    → slice_get (ks ++ k ∷ []) place ≡ Some x
    → IsGiven F x
given-more E F ks k later given this place x found =
    ⊎_elim
    (λ old. given-later E F x later (given place x old.0))
    (λ new. subst (λ (y : Key). IsGiven F y) (sym new.1) this)
    (found_in_push ks k place x found)

-- the element that gets a version has an id that is given then
given-push : (E : Elements) (k : Key) (v : Version) → 0 < k.id → k.id ≤ next_id E k.kind → IsGiven (push_version E k v) k
given-push E k v counted reached = record {
  counted = counted;
  below = larger (k.id == next_id E k.kind) k.id (next_id E k.kind) (next_id (push_version E k v) k.kind) refl
      (next-push E k v k.kind counted
      ∙ ap (λ (b : Bool). if b then (if k.id == next_id E k.kind then next_id E k.kind + 1 else next_id E k.kind) else next_id E k.kind) (kind_eq-refl k.kind))
      reached;
}
  where
    larger : (q : Bool) (id n m : ℕ) → q ≡ (id == n) → m ≡ (if q then n + 1 else n) → id ≤ n → id < m
    larger true id n m test e reached = omega (arith, e, reached)
    larger false id n m test e reached = grind (arith, nat_tests)

-- as many keys as outcomes
even-push : (ks : List Key) (ds : List OpDone) (k : Key) (d : OpDone) → length ks ≡ length ds → length (ks ++ k ∷ []) ≡ length (ds ++ d ∷ [])
even-push ks ds k d even = omega (arith, length-append ks (k ∷ []), length-append ds (d ∷ []), even)

-- an element gets a version
underway-applied :
    (Q : Version → Type 0) (u : Upload) (g : Progress) (k : Key) (content : Option (Content ℕ)) (tags : List Tag)
    → IsUnderway Q u g
    → Q (made_version u content tags)
    → 0 < k.id
    → k.id ≤ next_id g.elements k.kind
    → KeepsConsistent g.elements k content
    → IsUnderway Q u (applied u g k content tags)
underway-applied Q u g k content tags on fresh counted reached keeps =
    let E = g.elements in
    let v : Version = made_version u content tags in
    let d : OpDone = Applied (count E k + 1) in
    let later : IsLater E (push_version E k v) = later-push E k v counted reached in
    record {
      later = later-trans u.before E (push_version E k v) on.later later;
      given = given-more E (push_version E k v) g.keys k later on.given (given-push E k v counted reached);
      consistent = λ before. consistent-push E k v counted reached (on.consistent before) keeps;
      begun = λ before. begun-push E k v counted reached (on.begun before);
      versions = λ before. each-push Q E k v counted reached (on.versions before) fresh;
      even = even-push g.keys g.done k d on.even;
      there = subst
          (λ (ws : List Work). All (IsVersion (push_version E k v)) ws)
          (sym (works-push g.keys g.done k d on.even))
          (All-push
          (IsVersion (push_version E k v))
          (works g.keys g.done)
          (record { key = k; version = count E k + 1 })
          (works-later E (push_version E k v) (works g.keys g.done) later on.there)
          (pushed-version E k v counted reached));
    }

underway-skipped :
    (Q : Version → Type 0) (u : Upload) (g : Progress) (k : Key)
    → IsUnderway Q u g
    → IsGiven g.elements k
    → IsUnderway Q u (skipped g k)
underway-skipped Q u g k on given =
    let d : OpDone = Skipped (count g.elements k) in
    record {
      later = on.later;
      given = given-more g.elements g.elements g.keys k (later-refl g.elements) on.given given;
      consistent = on.consistent;
      begun = on.begun;
      versions = on.versions;
      even = even-push g.keys g.done k d on.even;
      there = subst
          (λ (ws : List Work). All (IsVersion g.elements) ws)
          (sym (works-push g.keys g.done k d on.even ∙ append-nil (works g.keys g.done)))
          on.there;
    }

-- an element that is known has an id that is given
known-given :
    (Q : Version → Type 0) (u : Upload) (g : Progress) (kind : Kind) (name : Name) (k : Key)
    → IsUnderway Q u g
    → known_key u g kind name ≡ Some k
    → IsGiven g.elements k
known-given Q u g kind (Old id) k on known_is =
    ⊎_elim
    (λ t. absurd (none-some k (sym (ap (λ (b : Bool). if b then None else Some (key kind id)) t) ∙ known_is)))
    (λ f. let same : key kind id ≡ k = unsome (key kind id) k (sym (ap (λ (b : Bool). if b then None else Some (key kind id)) f) ∙ known_is) in
    subst (λ (x : Key). IsGiven g.elements x) same (given-later u.before g.elements (key kind id) on.later (old f)))
    (cases_Bool (count u.before (key kind id) == 0))
  where
    none-some : (k : Key) → ◌≡◌ {A = Option Key} None (Some k) → ⊥
    none-some k e = cc

    unsome : (a b : Key) → ◌≡◌ {A = Option Key} (Some a) (Some b) → a ≡ b
    unsome a b e = cc

    contrary : (n : ℕ) → n ≡ 0 → (n == 0) ≡ false → ⊥
    contrary n e f = grind (arith, nat_tests)

    old : (count u.before (key kind id) == 0) ≡ false → IsGiven u.before (key kind id)
    old f = ⊎_elim
        (λ none. absurd (contrary (count u.before (key kind id)) (ap length none) f))
        (λ there. record { counted = there.0; below = omega (arith, there.1) })
        (known u.before (key kind id))
known-given Q u g kind (New place) k on known_is = by (slice_get g.keys place) refl known_is
  where
    unsome : (a b : Key) → ◌≡◌ {A = Option Key} (Some a) (Some b) → a ≡ b
    unsome a b e = cc

    none-some : (k : Key) → ◌≡◌ {A = Option Key} None (Some k) → ⊥
    none-some k e = cc

    by : (o : Option Key) → slice_get g.keys place ≡ o → option_and_then (of_kind kind) o ≡ Some k → IsGiven g.elements k
    by None at e = absurd (none-some k e)
    by (Some x) at e = ⊎_elim
        (λ t. subst (λ (y : Key). IsGiven g.elements y)
        (unsome x k (sym (ap (λ (b : Bool). if b then Some x else None) t) ∙ e))
        (on.given place x at))
        (λ f. absurd (none-some k (sym (ap (λ (b : Bool). if b then Some x else None) f) ∙ e)))
        (cases_Bool (kind_eq x.kind kind))

named-known : (o : Option Key) (r : Refusal) (k : Key) → option_map_or Ok o (Err r) ≡ Ok k → o ≡ Some k
named-known None r k e = cc
named-known (Some x) r k e = let same : x ≡ k = cc in ap (λ (y : Key). Some y) same

pub named-given :
    (Q : Version → Type 0) (u : Upload) (g : Progress) (kind : Kind) (name : Name) (k : Key)
    → IsUnderway Q u g
    → named_key u g kind name ≡ Ok k
    → IsGiven g.elements k
named-given Q u g kind name k on passed =
    known-given Q u g kind name k on (named-known (known_key u g kind name) (refused.NoElement (said u.operations name) (number g) kind) k passed)

-- a content whose references are visible
keeps-content :
    (u : Upload) (g : Progress) (k : Key) (content : Content Name) (a : Unit {0})
    → references_visible u g content ≡ Ok a
    → KeepsConsistent g.elements k (Some (with_ids g.keys content))
keeps-content u g k content a passed = record {
  lists = λ b listed. references-visible u g content a b passed listed;
  unused = λ none. absurd (some-none (with_ids g.keys content) none);
}
  where
    some-none : (c : Content ℕ) → ◌≡◌ {A = Option (Content ℕ)} (Some c) None → ⊥
    some-none c e = cc

-- no content, where nothing uses the element
keeps-none : (E : Elements) (k : Key) → first_user E k ≡ None → KeepsConsistent E k None
keeps-none E k none = record {
  lists = λ b listed. cc;
  unused = λ gone a. sym (lists-users E a k) ∙ ap (λ (ks : List Key). lists_key ks a) (nobody (users E k) none);
}
  where
    nobody : (ks : List Key) → slice_get ks 0 ≡ None → ks ≡ []
    nobody [] none = refl
    nobody (x ∷ ks) none = cc

pub reached : (E : Elements) (k : Key) → IsGiven E k → k.id ≤ next_id E k.kind
reached E k given = omega (arith, given.below)

-- every version that the upload may make has the property
abbrev pub IsFresh : (Version → Type 0) → Upload → Type 0
IsFresh Q u = (content : Option (Content ℕ)) (tags : List Tag) → Q (made_version u content tags)

-- an operation that is passed
pub underway-operate :
    (Q : Version → Type 0) (u : Upload) (g : Progress) (o : Op) (h : Progress)
    → IsFresh Q u
    → IsUnderway Q u g
    → operate u g o ≡ Ok h
    → IsUnderway Q u h
underway-operate Q u g o h fresh on e = passed-operate u g (λ (p : Progress). IsUnderway Q u p) o h (record {
  creates = λ content tags a visible. let k = next_key g.elements (kind_of content) in
      underway-applied Q u g k (Some (with_ids g.keys content)) tags on (fresh (Some (with_ids g.keys content)) tags) (omega arith) (omega arith) (keeps-content u g k content a visible);
  modifies = λ name k content tags a named visible. let given = named-given Q u g (kind_of content) name k on named in
      underway-applied Q u g k (Some (with_ids g.keys content)) tags on (fresh (Some (with_ids g.keys content)) tags) given.counted (reached g.elements k given) (keeps-content u g k content a visible);
  deletes = λ kind name k named unused. let given = named-given Q u g kind name k on named in
      underway-applied Q u g k None [] on (fresh None []) given.counted (reached g.elements k given) (keeps-none g.elements k unused);
  skips = λ kind name k named. underway-skipped Q u g k on (named-given Q u g kind name k on named);
}) e

pub underway-operate_all :
    (Q : Version → Type 0) (u : Upload) (g : Progress) (ops : List Op) (h : Progress)
    → IsFresh Q u
    → IsUnderway Q u g
    → operate_all u g ops ≡ Ok h
    → IsUnderway Q u h
underway-operate_all Q u g [] h fresh on e = subst (λ (p : Progress). IsUnderway Q u p) (Ok-same g h e) on
underway-operate_all Q u g (o ∷ ops) h fresh on e =
    let step = bind-Ok (operate u g o) (λ (next : Progress). operate_all u next ops) h e in
    underway-operate_all Q u step.0 ops h fresh (underway-operate Q u g o step.0 fresh on step.1) step.2

pub begins : (Q : Version → Type 0) (u : Upload) → IsUnderway Q u (start u.before)
begins Q u = record {
  later = later-refl u.before;
  given = λ place k found. cc;
  consistent = λ before. before;
  begun = λ before. before;
  versions = λ before. before;
  even = refl;
  there = All-nil (IsVersion u.before);
}

-- what is taken is what was done
pub tested-same :
    (user : User) (u : Upload) (r : ChangesetRecord) (x : Result Progress Refusal) (g h : Progress)
    → x ≡ Ok g
    → upload_tested user u r g ≡ Ok h
    → x ≡ Ok h
tested-same user u r x g h done passed =
    let boxed : Result (Unit {0}) Refusal = box_allowed user.limit u.changeset r.touched (join_areas r.touched g.touched) in
    let counted = bind-Ok (upload_counted u r g) (λ (fine : Unit {0}). boxed >>= λ (fine : Unit {0}). Ok g) h passed in
    done ∙ (bind-Ok boxed (λ (fine : Unit {0}). Ok g) h counted.2).2

-- an accepted upload is the fold of its operations, on a changeset that its user may work on
pub record IsFolded (P : State) (user : User) (t c : ℕ) (ops : List Op) (g : Progress) : Type 0 where
  pub kept : ChangesetRecord
  pub own : own_changeset P user t c ≡ Ok kept
  pub folded : operate_all (task P.elements c t ops) (start P.elements) ops ≡ Ok g

pub upload-folded :
    (P : State) (user : User) (t c : ℕ) (ops : List Op) (g : Progress)
    → upload P user t c ops ≡ Ok g
    → IsFolded P user t c ops g
upload-folded P user t c ops g passed =
    let u : Upload = task P.elements c t ops in
    let own = bind-Ok (own_changeset P user t c) (λ (r : ChangesetRecord). upload_own user u r) g passed in
    let fold = bind-Ok (operate_all u (start P.elements) ops) (λ (h : Progress). upload_tested user u own.0 h) g own.2 in
    record { kept = own.0; own = own.1; folded = tested-same user u own.0 (operate_all u (start P.elements) ops) fold.0 g fold.1 fold.2 }

pub upload-underway :
    (Q : Version → Type 0) (P : State) (user : User) (t c : ℕ) (ops : List Op) (g : Progress)
    → IsFresh Q (task P.elements c t ops)
    → upload P user t c ops ≡ Ok g
    → IsUnderway Q (task P.elements c t ops) g
upload-underway Q P user t c ops g fresh passed =
    let u : Upload = task P.elements c t ops in
    underway-operate_all Q u (start P.elements) ops g fresh (begins Q u) (upload-folded P user t c ops g passed).folded
