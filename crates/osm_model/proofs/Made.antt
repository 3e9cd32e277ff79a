-- An upload's elements are those of before with the versions that it made, in their order.
use Rattle.std.proofs.Common.{◌≡◌, ℕ, zero, suc, ◌+◌, ◌-◌, ◌<◌, ◌≤◌, Bool, true, false, List, [], ◌∷◌, ◌++◌, length, Option, Some, None, Ok, refl, sym, ap, ◌∙◌, subst, ⊎_elim, append-nil, arith}
use Rattle.std.specs.Prelude.{All, slice_get, filter_map, ◌==◌, if◌then◌else◌}
use Rattle.std.specs.List.{cons_option}
use Rattle.std.specs.Option.{option_map_or}
use Rattle.std.proofs.lemmas.Bool.{cases_Bool}
use Rattle.std.proofs.lemmas.Bool.Decides.{nat_tests}
use Rattle.std.proofs.lemmas.List.Elements.{All-head, All-tail, filter_map-append}
use Rattle.std.proofs.lemmas.List.Sums.{fold-append}
use Rattle.osm_base.specs.Key.{key_eq}
use Rattle.osm_base.specs.declared.keys.Key.{Key}
use Rattle.osm_base.specs.declared.people.User.{User}
use Rattle.osm_base.proofs.KeyOrder.{key_eq-same}
use Rattle.osm_element.specs.Elements.{next_id, history, count, version_in, version, push_version}
use Rattle.osm_element.specs.Tags.{Tag}
use Rattle.osm_element.specs.declared.contents.Content.{Content}
use Rattle.osm_element.specs.declared.elements.Elements.{Elements}
use Rattle.osm_element.specs.Version.{Version}
use Rattle.osm_element.proofs.Pushed.{history-push}
use Rattle.osm_change.specs.Change.{kind_of}
use Rattle.osm_change.specs.declared.operations.Op.{Op}
use Rattle.osm_change.specs.declared.operations.OpDone.TheVariants.{Applied, Skipped}
use Rattle.changeset_core.specs.declared.records.Work.{Work}
use Rattle.osm_model.specs.declared.states.State.{State}
use Rattle.osm_model.specs.declared.uploads.Progress.{Progress}
use Rattle.osm_model.specs.Attributed.{IsVersion}
use Rattle.osm_model.specs.Upload.{Upload}
use Rattle.osm_model.specs.Names.{with_ids}
use Rattle.osm_model.specs.Operation.{next_key, made_version, applied, skipped, operate, operate_all}
use Rattle.osm_model.specs.Fold.{start, works, task, upload, made_of, made, all_pushed}
use Rattle.osm_model.proofs.Steps.{bind-Ok, Ok-same, passed-operate}
use Rattle.osm_model.proofs.Versions.{some-version_in, key_eq-refl, works-push}
use Rattle.osm_model.proofs.Underway.{IsUnderway, named-given, reached, underway-operate, begins, upload-folded}

-- ---- versions after one more was made

version_in-before : (vs : List Version) (v : Version) (n : ℕ) → n ≤ length vs → version_in (vs ++ v ∷ []) n ≡ version_in vs n
version_in-before vs v n within = along (n == 0) refl
  where
    positive : (n : ℕ) → false ≡ (n == 0) → 0 < n
    positive n h = grind (arith, nat_tests)

    at : (vs : List Version) (i : ℕ) → i < length vs → slice_get (vs ++ v ∷ []) i ≡ slice_get vs i
    at [] i below = absurd (omega (arith, below))
    at (x ∷ vs) zero below = refl
    at (x ∷ vs) (suc i) below = at vs i (omega (arith, below))

    along : (b : Bool) → b ≡ (n == 0) → (if b then None else slice_get (vs ++ v ∷ []) (n - 1)) ≡ (if b then None else slice_get vs (n - 1))
    along true none = refl
    along false some = let counted = positive n some in at vs (n - 1) (omega (arith, counted, within))

version_in-last : (vs : List Version) (v : Version) → version_in (vs ++ v ∷ []) (length vs + 1) ≡ Some v
version_in-last vs v =
    ap (λ (b : Bool). if b then None else slice_get (vs ++ v ∷ []) (length vs + 1 - 1)) (more (length vs))
    ∙ ap (λ (n : ℕ). slice_get (vs ++ v ∷ []) n) (back (length vs))
    ∙ last vs
  where
    more : (n : ℕ) → (n + 1 == 0) ≡ false
    more n = grind (arith, nat_tests)

    back : (n : ℕ) → n + 1 - 1 ≡ n
    back n = omega arith

    last : (vs : List Version) → slice_get (vs ++ v ∷ []) (length vs) ≡ Some v
    last [] = refl
    last (x ∷ vs) = last vs

module _ (E : Elements) (k : Key) (v : Version) (counted : 0 < k.id) (reached : k.id ≤ next_id E k.kind) where
  -- one that was there is as it was
  version-push : (w : Work) → IsVersion E w → version (push_version E k v) w.key w.version ≡ version E w.key w.version
  version-push w there =
      let was = some-version_in (history E w.key) w.version there in
      ap (λ (vs : List Version). version_in vs w.version) (history-push E k w.key v counted reached)
      ∙ ⊎_elim
      (λ t. let same : w.key ≡ k = key_eq-same w.key k t in
      let within : w.version ≤ count E k = subst (λ (x : Key). w.version ≤ count E x) same was.within in
      ap (λ (b : Bool). version_in (if b then history E k ++ v ∷ [] else history E w.key) w.version) t
      ∙ version_in-before (history E k) v w.version within
      ∙ ap (λ (x : Key). version E x w.version) (sym same))
      (λ f. ap (λ (b : Bool). version_in (if b then history E k ++ v ∷ [] else history E w.key) w.version) f)
      (cases_Bool (key_eq w.key k))

  version-made : version (push_version E k v) k (count E k + 1) ≡ Some v
  version-made =
      ap (λ (vs : List Version). version_in vs (count E k + 1)) (history-push E k k v counted reached)
      ∙ ap (λ (b : Bool). version_in (if b then history E k ++ v ∷ [] else history E k) (count E k + 1)) (key_eq-refl k)
      ∙ version_in-last (history E k) v

  made_of-push : (w : Work) → IsVersion E w → made_of (push_version E k v) w ≡ made_of E w
  made_of-push w there = ap (λ (o : Option Version). option_map_or (λ v. Some (w.key, v)) o None) (version-push w there)

  all_made-push : (ws : List Work) → All (IsVersion E) ws → filter_map (made_of (push_version E k v)) ws ≡ filter_map (made_of E) ws
  all_made-push [] there = refl
  all_made-push (w ∷ ws) there =
      ap (λ (o : Option (Key × Version)). cons_option o (filter_map (made_of (push_version E k v)) ws)) (made_of-push w (All-head (IsVersion E) w ws there))
      ∙ ap (λ (ms : List (Key × Version)). cons_option (made_of E w) ms) (all_made-push ws (All-tail (IsVersion E) w ws there))

-- ---- one operation more

abbrev IsPushed : Upload → Progress → Type 0
IsPushed u g = g.elements ≡ all_pushed u.before (made g)

pushed-applied :
    (Q : Version → Type 0) (u : Upload) (g : Progress) (k : Key) (content : Option (Content ℕ)) (tags : List Tag)
    → IsUnderway Q u g
    → 0 < k.id
    → k.id ≤ next_id g.elements k.kind
    → IsPushed u g
    → IsPushed u (applied u g k content tags)
pushed-applied Q u g k content tags on counted reached pushed =
    let E = g.elements in
    let v : Version = made_version u content tags in
    let F : Elements = push_version E k v in
    let w : Work = record { key = k; version = count E k + 1 } in
    let ws : List Work = works g.keys g.done in
    let all : filter_map (made_of F) (works (g.keys ++ k ∷ []) (g.done ++ Applied (count E k + 1) ∷ [])) ≡ made g ++ (k, v) ∷ [] =
    ap (filter_map (made_of F)) (works-push g.keys g.done k (Applied (count E k + 1)) on.even)
    ∙ filter_map-append (made_of F) ws (w ∷ [])
    ∙ ap (λ (ms : List (Key × Version)). ms ++ filter_map (made_of F) (w ∷ [])) (all_made-push E k v counted reached ws on.there)
    ∙ ap (λ (o : Option Version). made g ++ cons_option (option_map_or (λ v. Some (k, v)) o None) []) (version-made E k v counted reached)
    in
    ap (λ (x : Elements). push_version x k v) pushed
    ∙ sym (fold-append (λ (x : Elements) (m : Key × Version). push_version x m.0 m.1) u.before (made g) ((k, v) ∷ []))
    ∙ ap (all_pushed u.before) (sym all)

pushed-skipped : (Q : Version → Type 0) (u : Upload) (g : Progress) (k : Key) → IsUnderway Q u g → IsPushed u g → IsPushed u (skipped g k)
pushed-skipped Q u g k on pushed =
    pushed
    ∙ ap
    (λ (ws : List Work). all_pushed u.before (filter_map (made_of g.elements) ws))
    (sym (works-push g.keys g.done k (Skipped (count g.elements k)) on.even ∙ append-nil (works g.keys g.done)))

-- no property of the versions is asked
abbrev Anything : Version → Type 0
Anything v = Unit {0}

pushed-operate :
    (u : Upload) (g : Progress) (o : Op) (h : Progress)
    → IsUnderway Anything u g
    → IsPushed u g
    → operate u g o ≡ Ok h
    → IsPushed u h
pushed-operate u g o h on pushed e = passed-operate u g (λ (p : Progress). IsPushed u p) o h (record {
  creates = λ content tags a visible. let k = next_key g.elements (kind_of content) in
      pushed-applied Anything u g k (Some (with_ids g.keys content)) tags on (omega arith) (omega arith) pushed;
  modifies = λ name k content tags a named visible. let given = named-given Anything u g (kind_of content) name k on named in
      pushed-applied Anything u g k (Some (with_ids g.keys content)) tags on given.counted (reached g.elements k given) pushed;
  deletes = λ kind name k named unused. let given = named-given Anything u g kind name k on named in
      pushed-applied Anything u g k None [] on given.counted (reached g.elements k given) pushed;
  skips = λ kind name k named. pushed-skipped Anything u g k on pushed;
}) e

pushed-operate_all :
    (u : Upload) (g : Progress) (ops : List Op) (h : Progress)
    → IsUnderway Anything u g
    → IsPushed u g
    → operate_all u g ops ≡ Ok h
    → IsPushed u h
pushed-operate_all u g [] h on pushed e = subst (λ (p : Progress). IsPushed u p) (Ok-same g h e) pushed
pushed-operate_all u g (o ∷ ops) h on pushed e =
    let step = bind-Ok (operate u g o) (λ (next : Progress). operate_all u next ops) h e in
    pushed-operate_all u step.0 ops h (underway-operate Anything u g o step.0 (λ content tags. tt) on step.1) (pushed-operate u g o step.0 on pushed step.1) step.2

pub upload-pushes :
    (P : State) (user : User) (t c : ℕ) (ops : List Op) (g : Progress)
    → upload P user t c ops ≡ Ok g
    → g.elements ≡ all_pushed P.elements (made g)
upload-pushes P user t c ops g passed =
    let u : Upload = task P.elements c t ops in
    pushed-operate_all u (start P.elements) ops g (begins Anything u) refl (upload-folded P user t c ops g passed).folded
