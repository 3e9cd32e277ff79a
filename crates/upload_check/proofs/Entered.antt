-- The overlay after an operation stands for what the operation left.
use Rattle.std.proofs.Common.{◌≡◌, ℕ, ◌+◌, ◌<◌, ◌≤◌, Bool, true, false, ◌&&◌, ◌||◌, List, [], ◌∷◌, ◌++◌, length, length-append, take, Some, None, Ok, Err, refl, sym, ap, ◌∙◌, ⊎_elim, subst, arith}
use Rattle.std.specs.Prelude.{Option, Result, ℤ, not, slice_get, option_and_then, ◌==◌, if◌then◌else◌}
use Rattle.std.proofs.lemmas.Bool.Decides.{nat_tests}
use Rattle.std.proofs.lemmas.List.{take-append-le, take_all}
use Rattle.osm_base.specs.Key.{kind_eq, key_eq, lists_key}
use Rattle.osm_base.specs.Place.{Area}
use Rattle.osm_base.specs.declared.keys.Kind.{Kind}
use Rattle.osm_base.specs.declared.keys.Kind.TheVariants as kind
use Rattle.osm_base.specs.declared.keys.Key.{Key}
use Rattle.osm_base.proofs.KeyOrder.{key_eq-same, key_eq-sym}
use Rattle.osm_base.proofs.KeyLists.{lists-push}
use Rattle.osm_base.proofs.Pushed.{found_in_push}
use Rattle.osm_element.specs.Elements.{key, next_id, history, count, content_of, refs_in, push_version}
use Rattle.osm_element.specs.Tags.{Tag}
use Rattle.osm_element.specs.declared.contents.Content.{Content}
use Rattle.osm_element.specs.declared.elements.Elements.{Elements}
use Rattle.osm_element.specs.Version.{Version}
use Rattle.osm_element.proofs.Later.{next-push, later-push}
use Rattle.osm_element.proofs.Pushed.{last_content, history-push, content-push}
use Rattle.osm_element.proofs.Used as used
use Rattle.osm_change.specs.Change.{kind_of}
use Rattle.osm_change.specs.Keys.{one_more, ids_after}
use Rattle.osm_change.specs.declared.operations.FirstIds.{FirstIds}
use Rattle.osm_change.specs.declared.operations.Name.{Name}
use Rattle.osm_change.specs.declared.operations.Op.{Op}
use Rattle.osm_change.specs.declared.operations.Op.TheVariants.{Create, Modify, Delete}
use Rattle.osm_change.specs.declared.operations.OpDone.{OpDone}
use Rattle.osm_change.specs.declared.operations.OpDone.TheVariants.{Applied, Skipped}
use Rattle.changeset_core.specs.Changeset.{join_areas}
use Rattle.osm_model.specs.Fold.{task}
use Rattle.osm_model.specs.Operation.{made_version, applied, skipped, operate}
use Rattle.osm_model.specs.declared.uploads.Progress.{Progress}
use Rattle.osm_world.specs.Beds.{first_ids, content_of_op, tags_of_op}
use Rattle.upload_check.specs.Overlay.{Notes, Overlaid, Sight, sight, standing_in, standing, content_by, content_now, touched_now, IsEarlier, StandsFor}
use Rattle.upload_check.specs.Effects.{user_counts, HasUsers, holds_of, IsApplied, AreNotesOf, touched_after, IsEntered, IsFresh, done_of}
use Rattle.upload_check.specs.Checks.{makes, check}
use Rattle.upload_check.specs.Judged.{Passes, GoesOn}
use Rattle.osm_base.specs.Outcome.{◌>>=◌}
use Rattle.osm_change.specs.declared.refusals.Refusal.{Refusal}
use Rattle.upload_check.specs.Users.{AreLowered, AreRaised}
use Rattle.upload_check.specs.declared.checks.Step.{Step}
use Rattle.upload_check.specs.declared.standings.Standing.{Standing}
use Rattle.upload_check.specs.declared.standings.Holds.{Holds}
use Rattle.upload_check.specs.declared.standings.Holds.TheVariants.{AsBefore, Nothing, FromOperation}
use Rattle.upload_check.proofs.Agrees.{stepped, after, next-same, check-agrees}
use Rattle.upload_check.proofs.Given.{IsGiven, IsOn, check-on, on-given, on-key}
use Rattle.upload_check.proofs.Given.IsOn.{creates, names}
use Rattle.upload_check.proofs.Touched.{touched-same}
use Rattle.upload_check.proofs.Users.{listed-used, counts-push}

-- ---- the ids that come next

ids-same : (a b : FirstIds) → a.node ≡ b.node → a.way ≡ b.way → a.relation ≡ b.relation → a ≡ b
ids-same a b n w r =
    ap (λ (m : ℕ). record { node = m; way = a.way; relation = a.relation }) n
    ∙ ap (λ (m : ℕ). record { node = b.node; way = m; relation = a.relation }) w
    ∙ ap (λ (m : ℕ). record { node = b.node; way = b.way; relation = m }) r

-- the next of a kind is made
made-next : (E : Elements) (q : Kind) (v : Version) → first_ids (push_version E (key q (next_id E q)) v) ≡ one_more (first_ids E) q
made-next E q v = each q
  where
    test : (n : ℕ) → (n == n) ≡ true
    test n = grind (arith, nat_tests)

    each : (q : Kind) → first_ids (push_version E (key q (next_id E q)) v) ≡ one_more (first_ids E) q
    each kind.Node = let k = key kind.Node (next_id E kind.Node) in ids-same (first_ids (push_version E k v)) (one_more (first_ids E) kind.Node)
        (next-push E k v kind.Node (omega arith) ∙ ap (λ (b : Bool). if b then next_id E kind.Node + 1 else next_id E kind.Node) (test (next_id E kind.Node)))
        (next-push E k v kind.Way (omega arith))
        (next-push E k v kind.Relation (omega arith))
    each kind.Way = let k = key kind.Way (next_id E kind.Way) in ids-same (first_ids (push_version E k v)) (one_more (first_ids E) kind.Way)
        (next-push E k v kind.Node (omega arith))
        (next-push E k v kind.Way (omega arith) ∙ ap (λ (b : Bool). if b then next_id E kind.Way + 1 else next_id E kind.Way) (test (next_id E kind.Way)))
        (next-push E k v kind.Relation (omega arith))
    each kind.Relation = let k = key kind.Relation (next_id E kind.Relation) in ids-same (first_ids (push_version E k v)) (one_more (first_ids E) kind.Relation)
        (next-push E k v kind.Node (omega arith))
        (next-push E k v kind.Way (omega arith))
        (next-push E k v kind.Relation (omega arith) ∙ ap (λ (b : Bool). if b then next_id E kind.Relation + 1 else next_id E kind.Relation) (test (next_id E kind.Relation)))

-- an element that is there gets a version
made-again : (E : Elements) (k : Key) (v : Version) → IsGiven E k → first_ids (push_version E k v) ≡ first_ids E
made-again E k v given = ids-same (first_ids (push_version E k v)) (first_ids E) (same kind.Node) (same kind.Way) (same kind.Relation)
  where
    other : (a n : ℕ) → a < n → (a == n) ≡ false
    other a n less = grind (arith, nat_tests)

    still : (p q : Bool) (n m : ℕ) → q ≡ false → m ≡ (if p then (if q then n + 1 else n) else n) → m ≡ n
    still true true n m f e = cc
    still true false n m f e = e
    still false q n m f e = e

    same : (q : Kind) → next_id (push_version E k v) q ≡ next_id E q
    same q = still (kind_eq q k.kind) (k.id == next_id E k.kind) (next_id E q) (next_id (push_version E k v) q) (other k.id (next_id E k.kind) given.below) (next-push E k v q given.counted)

-- the element that gets a version has an id that is given then
given-push : (E : Elements) (k : Key) (v : Version) → 0 < k.id → k.id ≤ next_id E k.kind → IsGiven (push_version E k v) k
given-push E k v counted reached = record {
  counted = counted;
  below = larger (k.id == next_id E k.kind) k.id (next_id E k.kind) (next_id (push_version E k v) k.kind) refl
      (next-push E k v k.kind counted
      ∙ ap (λ (b : Bool). if b then (if k.id == next_id E k.kind then next_id E k.kind + 1 else next_id E k.kind) else next_id E k.kind) (same k.kind))
      reached;
}
  where
    same : (q : Kind) → kind_eq q q ≡ true
    same q = grind (arith, nat_tests)

    larger : (q : Bool) (id n m : ℕ) → q ≡ (id == n) → m ≡ (if q then n + 1 else n) → id ≤ n → id < m
    larger true id n m test e reached = omega (arith, e, reached)
    larger false id n m test e reached = grind (arith, nat_tests)

-- ---- what elements hold, with a key more

content_by-longer :
    (s : Sight) (new : Overlaid) (x b : Key) (h : Holds)
    → new.keys ≡ s.over.keys ++ x ∷ []
    → IsEarlier (length s.over.keys) h
    → content_by (sight s.before s.operations new) b h ≡ content_by s b h
content_by-longer s new x b AsBefore keys earlier = refl
content_by-longer s new x b Nothing keys earlier = refl
content_by-longer s new x b (FromOperation place) keys earlier =
    ap (λ (ks : List Key). option_and_then (content_of_op ks) (slice_get s.operations place))
    (ap (take place) keys ∙ take-append-le place s.over.keys (x ∷ []) (omega (arith, earlier)))

-- what the operation gives
content_by-given :
    (s : Sight) (new : Overlaid) (x b : Key) (o : Op)
    → new.keys ≡ s.over.keys ++ x ∷ []
    → slice_get s.operations (length s.over.keys) ≡ Some o
    → content_by (sight s.before s.operations new) b (holds_of (length s.over.keys) o) ≡ content_of_op s.over.keys o
content_by-given s new x b o keys there = by o refl
  where
    before : take (length s.over.keys) new.keys ≡ s.over.keys
    before =
        ap (take (length s.over.keys)) keys
        ∙ take-append-le (length s.over.keys) s.over.keys (x ∷ []) (omega arith)
        ∙ take_all (length s.over.keys) s.over.keys (omega arith)

    found : option_and_then (content_of_op (take (length s.over.keys) new.keys)) (slice_get s.operations (length s.over.keys)) ≡ content_of_op s.over.keys o
    found =
        ap (λ (ks : List Key). option_and_then (content_of_op ks) (slice_get s.operations (length s.over.keys))) before
        ∙ ap (option_and_then (content_of_op s.over.keys)) there

    by : (p : Op) → p ≡ o → content_by (sight s.before s.operations new) b (holds_of (length s.over.keys) p) ≡ content_of_op s.over.keys p
    by (Create placeholder content tags) same = found ∙ ap (content_of_op s.over.keys) (sym same)
    by (Modify name version content tags) same = found ∙ ap (content_of_op s.over.keys) (sym same)
    by (Delete q name version if_unused) same = refl

earlier-more : (n m : ℕ) (h : Holds) → n ≤ m → IsEarlier n h → IsEarlier m h
earlier-more n m AsBefore less h = tt
earlier-more n m Nothing less h = tt
earlier-more n m (FromOperation place) less h = omega (arith, less, h)

earlier-own : (n m : ℕ) (o : Op) → n < m → IsEarlier m (holds_of n o)
earlier-own n m (Create placeholder content tags) less = less
earlier-own n m (Modify name version content tags) less = less
earlier-own n m (Delete q name version if_unused) less = tt

or-false : (p q : Bool) → (p || q) ≡ false → (p ≡ false) × (q ≡ false)
or-false true q e = cc
or-false false q e = (refl, e)

-- ---- the element gets a version

-- the next operation's element has users wherever its content says so
pub has-users : (s : Sight) (g : Progress) (k : Key) → StandsFor s g → HasUsers s k
has-users s g k st = record {
  each = λ b there.
      let parts = both (lists_key (refs_in (content_now s k)) b) (key_eq k b) there in
      let users_b = listed-used g.elements k b (ap (λ (c : Option (Content ℕ)). lists_key (refs_in c) b) (sym (st.content k)) ∙ parts.0) parts.1 in
      omega (arith, st.users b, users_b);
}
  where
    both : (p q : Bool) → (p && not q) ≡ true → (p ≡ true) × (q ≡ false)
    both true true e = cc
    both true false e = (refl, refl)
    both false q e = cc

module _ (s : Sight) (g : Progress) (c t : ℕ) (o : Op) (k : Key) (new : Overlaid) where
  abbrev version-made : Version
  version-made = made_version (task s.before c t s.operations) (content_of_op g.keys o) (tags_of_op o)

  abbrev left-applied : Progress
  left-applied = applied (task s.before c t s.operations) g k (content_of_op g.keys o) (tags_of_op o)

  stands-applied :
      StandsFor s g
      → slice_get s.operations (length s.over.keys) ≡ Some o
      → 0 < k.id
      → k.id ≤ next_id g.elements k.kind
      → new.keys ≡ s.over.keys ++ k ∷ []
      → new.next ≡ first_ids left-applied.elements
      → IsApplied s o k new.notes
      → new.touched ≡ touched_after true s o k
      → StandsFor (sight s.before s.operations new) left-applied
  stands-applied st there counted reached keys next on touched = record {
    keys = keys ∙ ap (λ (ks : List Key). ks ++ k ∷ []) st.keys;
    next = next;
    versions = λ b. on.versions b ∙ count-step b (key_eq b k) refl;
    content = λ b. ap (content_by (sight s.before s.operations new) b) (on.holds b) ∙ content-step b (key_eq b k) refl;
    users = λ b.
        counts-push g.elements k version-made (user_counts s.before s.over.notes) on.counts (user_counts s.before new.notes) counted reached st.users
        (subst (λ (x : Option (Content ℕ)). AreLowered k (refs_in x) (user_counts s.before s.over.notes) on.counts) (st.content k) on.lowered)
        (subst (λ (ks : List Key). AreRaised k (refs_in (content_of_op ks o)) on.counts (user_counts s.before new.notes)) st.keys on.raised)
        b;
    changed = λ b unlisted.
        let apart = or-false (lists_key s.over.keys b) (key_eq k b) (sym (lists-push s.over.keys k b) ∙ ap (λ (ks : List Key). lists_key ks b) (sym keys) ∙ unlisted) in
        on.holds b
        ∙ ap (λ (p : Bool). if p then holds_of (length s.over.keys) o else (standing s b).holds) (key_eq-sym b k ∙ apart.1)
        ∙ st.changed b apart.0;
    earlier = λ b. subst (IsEarlier (length new.keys)) (sym (on.holds b)) (earlier-step b (key_eq b k));
    given = λ place x found. given-step place x (sym (ap (λ (ks : List Key). slice_get ks place) keys) ∙ found);
    grown = λ q. omega (arith, st.grown q, (later-push g.elements k version-made counted reached).grown q);
    touched = touched
        ∙ ap (λ (area : Option Area). join_areas area (touched_now s k (content_of_op s.over.keys o))) st.touched
        ∙ ap (λ (ks : List Key). join_areas g.touched (touched_now s k (content_of_op ks o))) st.keys
        ∙ ap (join_areas g.touched) (touched-same s g k (content_of_op g.keys o) st);
  }
    where
      F : Elements
      F = push_version g.elements k version-made

      longer : length new.keys ≡ length s.over.keys + 1
      longer = ap length keys ∙ length-append s.over.keys (k ∷ [])

      count-step : (b : Key) (p : Bool) → key_eq b k ≡ p → (if p then (standing s b).versions + 1 else (standing s b).versions) ≡ count F b
      count-step b true same =
          ap (λ (n : ℕ). n + 1) (st.versions b ∙ ap (count g.elements) (key_eq-same b k same))
          ∙ sym (length-append (history g.elements k) (version-made ∷ []))
          ∙ sym (ap length (history-push g.elements k b version-made counted reached ∙ ap (λ (p : Bool). if p then history g.elements k ++ version-made ∷ [] else history g.elements b) same))
      count-step b false other =
          st.versions b
          ∙ sym (ap length (history-push g.elements k b version-made counted reached ∙ ap (λ (p : Bool). if p then history g.elements k ++ version-made ∷ [] else history g.elements b) other))

      content-step : (b : Key) (p : Bool) → key_eq b k ≡ p → content_by (sight s.before s.operations new) b (if p then holds_of (length s.over.keys) o else (standing s b).holds) ≡ content_of F b
      content-step b true same =
          content_by-given s new k b o keys there
          ∙ ap (λ (ks : List Key). content_of_op ks o) st.keys
          ∙ sym (content-push g.elements k b version-made counted reached ∙ ap (λ (p : Bool). if p then content_of_op g.keys o else content_of g.elements b) same)
      content-step b false other =
          content_by-longer s new k b (standing s b).holds keys (st.earlier b)
          ∙ st.content b
          ∙ sym (content-push g.elements k b version-made counted reached ∙ ap (λ (p : Bool). if p then content_of_op g.keys o else content_of g.elements b) other)

      earlier-step : (b : Key) (p : Bool) → IsEarlier (length new.keys) (if p then holds_of (length s.over.keys) o else (standing s b).holds)
      earlier-step b true = earlier-own (length s.over.keys) (length new.keys) o (omega (arith, longer))
      earlier-step b false = earlier-more (length s.over.keys) (length new.keys) (standing s b).holds (omega (arith, longer)) (st.earlier b)

      given-step : (place : ℕ) (x : Key) → slice_get (s.over.keys ++ k ∷ []) place ≡ Some x → (0 < x.id) × (x.id < next_id F x.kind)
      given-step place x found =
          ⊎_elim
          (λ old. let was = st.given place x old.0 in (was.0, omega (arith, was.1, (later-push g.elements k version-made counted reached).grown x.kind)))
          (λ own. let this = given-push g.elements k version-made counted reached in
          subst (λ (y : Key). (0 < y.id) × (y.id < next_id F y.kind)) (sym own.1) (this.counted, this.below))
          (found_in_push s.over.keys k place x found)

-- ---- the element is left as it is

stands-skipped :
    (s : Sight) (g : Progress) (k : Key) (new : Overlaid)
    → StandsFor s g
    → IsGiven g.elements k
    → new.keys ≡ s.over.keys ++ k ∷ []
    → new.next ≡ s.over.next
    → new.notes ≡ s.over.notes
    → new.touched ≡ s.over.touched
    → StandsFor (sight s.before s.operations new) (skipped g k)
stands-skipped s g k new st given keys next notes touched = record {
  keys = keys ∙ ap (λ (ks : List Key). ks ++ k ∷ []) st.keys;
  next = next ∙ st.next;
  versions = λ b. ap (λ (x : Standing). x.versions) (stays b) ∙ st.versions b;
  content = λ b. ap (λ (x : Standing). content_by (sight s.before s.operations new) b x.holds) (stays b) ∙ content_by-longer s new k b (standing s b).holds keys (st.earlier b) ∙ st.content b;
  users = λ b. ap (λ (x : Standing). x.users) (stays b) ∙ st.users b;
  changed = λ b unlisted.
      let apart = or-false (lists_key s.over.keys b) (key_eq k b) (sym (lists-push s.over.keys k b) ∙ ap (λ (ks : List Key). lists_key ks b) (sym keys) ∙ unlisted) in
      ap (λ (x : Standing). x.holds) (stays b) ∙ st.changed b apart.0;
  earlier = λ b. subst (λ (x : Standing). IsEarlier (length new.keys) x.holds) (sym (stays b)) (earlier-more (length s.over.keys) (length new.keys) (standing s b).holds (omega (arith, longer)) (st.earlier b));
  given = λ place x found.
      ⊎_elim
      (λ old. st.given place x old.0)
      (λ own. subst (λ (y : Key). (0 < y.id) × (y.id < next_id g.elements y.kind)) (sym own.1) (given.counted, given.below))
      (found_in_push s.over.keys k place x (sym (ap (λ (ks : List Key). slice_get ks place) keys) ∙ found));
  grown = st.grown;
  touched = touched ∙ st.touched;
}
  where
    stays : (b : Key) → standing_in s.before new.notes b ≡ standing s b
    stays b = ap (λ (n : Notes). standing_in s.before n b) notes

    longer : length new.keys ≡ length s.over.keys + 1
    longer = ap length keys ∙ length-append s.over.keys (k ∷ [])

-- ---- one operation

-- only a create takes an id
ids-kept : (ids : FirstIds) (o : Op) → ((placeholder : ℤ) (content : Content Name) (tags : List Tag) → o ≡ Create placeholder content tags → ⊥) → ids_after ids o ≡ ids
ids-kept ids (Create placeholder content tags) other = absurd (other placeholder content tags refl)
ids-kept ids (Modify name version content tags) other = refl
ids-kept ids (Delete q name version if_unused) other = refl

passes-done : (s : Sight) (g : Progress) (c t : ℕ) (o : Op) (step : Step) → StandsFor s g → (stepped (task s.before c t s.operations) g o step).done ≡ g.done ++ done_of s step ∷ []
passes-done s g c t o step st = by step.applies
  where
    by : (b : Bool) → (if b then applied (task s.before c t s.operations) g step.key (content_of_op g.keys o) (tags_of_op o) else skipped g step.key).done ≡ g.done ++ (if b then Applied ((standing s step.key).versions + 1) else Skipped (standing s step.key).versions) ∷ []
    by true = ap (λ (n : ℕ). g.done ++ Applied (n + 1) ∷ []) (sym (st.versions step.key))
    by false = ap (λ (n : ℕ). g.done ++ Skipped n ∷ []) (sym (st.versions step.key))

stands-stepped :
    (s : Sight) (g : Progress) (c t : ℕ) (o : Op) (step : Step) (new : Overlaid)
    → StandsFor s g
    → slice_get s.operations (length s.over.keys) ≡ Some o
    → IsOn s o step
    → IsEntered s o step new
    → StandsFor (sight s.before s.operations new) (stepped (task s.before c t s.operations) g o step)
stands-stepped s g c t o step new st there (creates placeholder content tags is step_is) on =
    let q = kind_of content in
    let k = key q (next_id g.elements q) in
    let same : step ≡ makes k = step_is ∙ ap makes (next-same s g q st) in
    let notes : IsApplied s o k new.notes = subst (λ (x : Step). AreNotesOf x.applies s o x.key new.notes) same on.notes in
    let touched : new.touched ≡ touched_after true s o k = subst (λ (x : Step). new.touched ≡ touched_after x.applies s o x.key) same on.touched in
    let next : new.next ≡ first_ids (left-applied s g c t o k new).elements =
    on.next
    ∙ ap (ids_after s.over.next) is
    ∙ ap (λ (ids : FirstIds). one_more ids q) st.next
    ∙ sym (made-next g.elements q (version-made s g c t o k new))
    in
    subst (λ (x : Step). StandsFor (sight s.before s.operations new) (stepped (task s.before c t s.operations) g o x)) (sym same)
    (stands-applied s g c t o k new st there (omega arith) (omega arith) (on.keys ∙ ap (λ (x : Step). s.over.keys ++ x.key ∷ []) same) next notes touched)
stands-stepped s g c t o step new st there (names q name known_is key_is other) on = by step.applies on.notes on.touched
  where
    given : IsGiven g.elements step.key
    given = on-given s g q name step.key st known_is

    next : new.next ≡ s.over.next
    next = on.next ∙ ids-kept s.over.next o other

    by : (b : Bool) → AreNotesOf b s o step.key new.notes → new.touched ≡ touched_after b s o step.key → StandsFor (sight s.before s.operations new) (if b then applied (task s.before c t s.operations) g step.key (content_of_op g.keys o) (tags_of_op o) else skipped g step.key)
    by true notes touched =
        stands-applied s g c t o step.key new st there given.counted (omega (arith, given.below)) on.keys
        (next ∙ st.next ∙ sym (made-again g.elements step.key (version-made s g c t o step.key new) given))
        notes
        touched
    by false notes touched = stands-skipped s g step.key new st given on.keys next notes touched

pub passes :
    (s : Sight) (g : Progress) (c t : ℕ) (o : Op) (step : Step) (new : Overlaid)
    → StandsFor s g
    → slice_get s.operations (length s.over.keys) ≡ Some o
    → check s o ≡ Ok step
    → IsEntered s o step new
    → Passes s.before s.operations c t o g new (done_of s step)
passes s g c t o step new st there checked on = record {
  left = stepped (task s.before c t s.operations) g o step;
  passed = check-agrees s g c t o st ∙ ap (λ (r : Result Step Refusal). r >>= after (task s.before c t s.operations) g o) checked;
  done = passes-done s g c t o step st;
  stands = stands-stepped s g c t o step new st there (check-on s o step checked) on;
}

pub refuses :
    (s : Sight) (g : Progress) (c t : ℕ) (o : Op) (r : Refusal)
    → StandsFor s g
    → check s o ≡ Err r
    → operate (task s.before c t s.operations) g o ≡ Err r
refuses s g c t o r st checked =
    check-agrees s g c t o st ∙ ap (λ (x : Result Step Refusal). x >>= after (task s.before c t s.operations) g o) checked

-- ---- as it is judged: the operations are seen twice, and the operation is found in them

same-op : (a b : Op) → ◌≡◌ {A = Option Op} (Some a) (Some b) → a ≡ b
same-op a b e = cc

-- what was seen, tested and found
pub record IsSeen (E : Elements) (ops seen : List Op) (old : Overlaid) (place : ℕ) (o found : Op) : Type 0 where
  pub all : seen ≡ ops
  pub counted : length old.keys ≡ place
  pub at : slice_get ops place ≡ Some found
  pub asked : slice_get ops place ≡ Some o

found-is : (E : Elements) (ops seen : List Op) (old : Overlaid) (place : ℕ) (o found : Op) → IsSeen E ops seen old place o found → found ≡ o
found-is E ops seen old place o found is = same-op found o (sym is.at ∙ is.asked)

checked-is : (E : Elements) (ops seen : List Op) (old : Overlaid) (place : ℕ) (o found : Op) → IsSeen E ops seen old place o found → check (sight E seen old) found ≡ check (sight E ops old) o
checked-is E ops seen old place o found is =
    ap (λ (l : List Op). check (sight E l old) found) is.all ∙ ap (check (sight E ops old)) (found-is E ops seen old place o found is)

entered-is : (E : Elements) (ops seen : List Op) (old new : Overlaid) (place : ℕ) (o found : Op) (step : Step) → IsSeen E ops seen old place o found → IsEntered (sight E seen old) found step new → IsEntered (sight E ops old) o step new
entered-is E ops seen old new place o found step is on =
    subst (λ (x : Op). IsEntered (sight E ops old) x step new) (found-is E ops seen old place o found is)
    (subst (λ (l : List Op). IsEntered (sight E l old) found step new) is.all on)

-- what is created is none of the elements so far
stands-fresh : (s : Sight) (g : Progress) (o : Op) (step : Step) → StandsFor s g → IsOn s o step → IsFresh s o step.key
stands-fresh s g o step st (creates placeholder content tags is step_is) =
    let q = kind_of content in
    let k = key q (next_id g.elements q) in
    subst (λ (x : Op). IsFresh s x step.key) (sym is)
    (subst (λ (x : Step). content_now s x.key ≡ None) (sym (step_is ∙ ap makes (next-same s g q st)))
    (st.content k ∙ ap last_content (nothing k (omega arith))))
  where
    nothing : (k : Key) → next_id g.elements k.kind ≤ k.id → history g.elements k ≡ []
    nothing k high = ⊎_elim (λ none. none) (λ there. absurd (omega (arith, there.1, high))) (used.known g.elements k)
stands-fresh s g (Create placeholder content tags) step st (names q name known_is key_is other) = absurd (other placeholder content tags refl)
stands-fresh s g (Modify name' version content tags) step st (names q name known_is key_is other) = tt
stands-fresh s g (Delete q' name' version if_unused) step st (names q name known_is key_is other) = tt

pub is-fresh :
    (E : Elements) (ops seen : List Op) (over : Overlaid) (g : Progress) (o : Op) (step : Step)
    → StandsFor (sight E ops over) g
    → seen ≡ ops
    → check (sight E seen over) o ≡ Ok step
    → IsFresh (sight E seen over) o step.key
is-fresh E ops seen over g o step st all checked =
    let now = subst (λ (l : List Op). StandsFor (sight E l over) g) (sym all) st in
    stands-fresh (sight E seen over) g o step now (check-on (sight E seen over) o step checked)

pub judged-passed :
    (E : Elements) (ops seen : List Op) (old new : Overlaid) (place : ℕ) (o found : Op) (step : Step) (d : OpDone)
    → IsSeen E ops seen old place o found
    → check (sight E seen old) found ≡ Ok step
    → IsEntered (sight E seen old) found step new
    → d ≡ done_of (sight E seen old) step
    → (c t : ℕ) (g : Progress)
    → StandsFor (sight E ops old) g
    → Passes E ops c t o g new d
judged-passed E ops seen old new place o found step d is checked on done c t g st =
    subst (λ (x : OpDone). Passes E ops c t o g new x)
    (ap (λ (l : List Op). done_of (sight E l old) step) (sym is.all) ∙ sym done)
    (passes (sight E ops old) g c t o step new st
    (ap (slice_get ops) is.counted ∙ is.asked)
    (sym (checked-is E ops seen old place o found is) ∙ checked)
    (entered-is E ops seen old new place o found step is on))

pub judged-goes :
    (E : Elements) (ops seen : List Op) (old new : Overlaid) (place : ℕ) (o found : Op) (step : Step)
    → IsSeen E ops seen old place o found
    → check (sight E seen old) found ≡ Ok step
    → IsEntered (sight E seen old) found step new
    → GoesOn o old new
judged-goes E ops seen old new place o found step is checked on =
    let s = sight E ops old in
    let entered = entered-is E ops seen old new place o found step is on in
    record {
      keys = entered.keys
          ∙ ap (λ (k : Key). old.keys ++ k ∷ []) (on-key s o step (check-on s o step (sym (checked-is E ops seen old place o found is) ∙ checked)));
      next = entered.next;
    }

pub judged-refused :
    (E : Elements) (ops seen : List Op) (old : Overlaid) (place : ℕ) (o found : Op) (r : Refusal)
    → IsSeen E ops seen old place o found
    → check (sight E seen old) found ≡ Err r
    → (c t : ℕ) (g : Progress)
    → StandsFor (sight E ops old) g
    → operate (task E c t ops) g o ≡ Err r
judged-refused E ops seen old place o found r is checked c t g st =
    refuses (sight E ops old) g c t o r st (sym (checked-is E ops seen old place o found is) ∙ checked)
