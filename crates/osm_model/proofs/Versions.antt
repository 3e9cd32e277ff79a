-- Versions that are there, and those that an upload made.
use Rattle.std.proofs.Common.{◌≡◌, ℕ, zero, suc, ◌+◌, ◌-◌, ◌<◌, ◌≤◌, Bool, true, false, List, [], ◌∷◌, ◌++◌, length, None, refl, sym, ap, ◌∙◌, subst, append_assoc, append-nil, length-append, arith}
use Rattle.std.specs.Prelude.{slice_get, IsSome, All, ◌==◌, ◌&&◌, if◌then◌else◌}
use Rattle.std.proofs.lemmas.Bool.Decides.{nat_tests}
use Rattle.std.proofs.lemmas.List.{length-map}
use Rattle.std.proofs.lemmas.List.Elements.{All-weaker}
use Rattle.osm_base.specs.Key.{kind_eq, key_eq}
use Rattle.osm_base.specs.declared.keys.Kind.{Kind}
use Rattle.osm_base.specs.declared.keys.Key.{Key}
use Rattle.osm_element.specs.Elements.{next_id, history, count, version_in, push_version}
use Rattle.osm_element.specs.Later.{contents, IsLater}
use Rattle.osm_element.specs.declared.elements.Elements.{Elements}
use Rattle.osm_element.specs.Version.{Version}
use Rattle.osm_element.proofs.Pushed.{history-push}
use Rattle.osm_change.specs.declared.operations.OpDone.{OpDone}
use Rattle.changeset_core.specs.declared.records.Work.{Work}
use Rattle.osm_model.specs.Attributed.{IsVersion}
use Rattle.osm_model.specs.Fold.{work_of, works}

-- ---- a version by its number

some_within : (vs : List Version) (i : ℕ) → i < length vs → IsSome (slice_get vs i)
some_within [] i within = absurd (omega (arith, within))
some_within (v ∷ vs) zero within = refl
some_within (v ∷ vs) (suc i) within = some_within vs i (omega (arith, within))

within_some : (vs : List Version) (i : ℕ) → IsSome (slice_get vs i) → i < length vs
within_some [] i some = cc
within_some (v ∷ vs) zero some = omega arith
within_some (v ∷ vs) (suc i) some = omega (arith, within_some vs i some)

version_in-some : (vs : List Version) (n : ℕ) → 0 < n → n ≤ length vs → IsSome (version_in vs n)
version_in-some vs n counted within =
    subst
    (λ (b : Bool). IsSome (if b then None else slice_get vs (n - 1)))
    (sym (nonzero n counted))
    (some_within vs (n - 1) (omega (arith, counted, within)))
  where
    nonzero : (n : ℕ) → 0 < n → (n == 0) ≡ false
    nonzero n h = grind (arith, nat_tests)

pub record IsCounted (vs : List Version) (n : ℕ) : Type 0 where
  pub counted : 0 < n
  pub within : n ≤ length vs

pub some-version_in : (vs : List Version) (n : ℕ) → IsSome (version_in vs n) → IsCounted vs n
some-version_in vs n some = along (n == 0) refl some
  where
    positive : (n : ℕ) → false ≡ (n == 0) → 0 < n
    positive n h = grind (arith, nat_tests)

    along : (b : Bool) → b ≡ (n == 0) → IsSome (if b then None else slice_get vs (n - 1)) → IsCounted vs n
    along true none some = cc
    along false there some =
        let counted = positive n there in
        let below = within_some vs (n - 1) some in
        record { counted = counted; within = omega (arith, counted, below) }

-- ---- versions stay there

pub is_version-later : (E F : Elements) (w : Work) → IsLater E F → IsVersion E w → IsVersion F w
is_version-later E F w later there =
    let was = some-version_in (history E w.key) w.version there in
    let more = later.kept w.key in
    let long : length (contents F w.key) ≡ length (contents E w.key) + length more.0 =
    ap length more.1 ∙ length-append (contents E w.key) more.0
    in
    let old : length (contents E w.key) ≡ count E w.key = length-map (history E w.key) (λ (v : Version). v.content) in
    let new : length (contents F w.key) ≡ count F w.key = length-map (history F w.key) (λ (v : Version). v.content) in
    version_in-some (history F w.key) w.version was.counted (omega (arith, was.within, long, old, new))

pub works-later : (E F : Elements) (ws : List Work) → IsLater E F → All (IsVersion E) ws → All (IsVersion F) ws
works-later E F ws later there = All-weaker (IsVersion E) (IsVersion F) (λ w is. is_version-later E F w later is) ws there

-- ---- a version that was made

kind_eq-refl : (k : Kind) → kind_eq k k ≡ true
kind_eq-refl k = grind (arith, nat_tests)

same_number : (n : ℕ) → (n == n) ≡ true
same_number n = grind (arith, nat_tests)

pub key_eq-refl : (k : Key) → key_eq k k ≡ true
key_eq-refl k = ap (λ (b : Bool). b && (k.id == k.id)) (kind_eq-refl k.kind) ∙ same_number k.id

pub pushed-version :
    (E : Elements) (k : Key) (v : Version)
    → 0 < k.id
    → k.id ≤ next_id E k.kind
    → IsVersion (push_version E k v) (record { key = k; version = count E k + 1 })
pushed-version E k v counted reached =
    let now : count (push_version E k v) k ≡ count E k + 1 =
    ap length (history-push E k k v counted reached)
    ∙ ap (λ (b : Bool). length (if b then history E k ++ v ∷ [] else history E k)) (key_eq-refl k)
    ∙ length-append (history E k) (v ∷ [])
    in
    version_in-some (history (push_version E k v) k) (count E k + 1) (omega arith) (omega (arith, now))

-- ---- the versions of an upload, with one operation more

pub works-push :
    (ks : List Key) (ds : List OpDone) (k : Key) (d : OpDone)
    → length ks ≡ length ds
    → works (ks ++ k ∷ []) (ds ++ d ∷ []) ≡ works ks ds ++ work_of k d
works-push [] [] k d even = append-nil (work_of k d)
works-push [] (x ∷ ds) k d even = absurd (omega (arith, even))
works-push (x ∷ ks) [] k d even = absurd (omega (arith, even))
works-push (x ∷ ks) (y ∷ ds) k d even =
    ap (λ (ws : List Work). work_of x y ++ ws) (works-push ks ds k d (omega (arith, even)))
    ∙ sym (append_assoc (work_of x y) (works ks ds) (work_of k d))
