-- The stamps of versions never go back: what new versions and marks leave of that, and entries.
use Rattle.std.proofs.Common.{◌≡◌, ℕ, zero, suc, ◌+◌, ◌-◌, ◌≤◌, Bool, true, false, List, [], ◌∷◌, ◌++◌, length, get_or, Option, Some, None, Ok, Err, refl, sym, ap, ◌∙◌, subst, arith}
use Rattle.std.specs.Prelude.{Result, All, slice_get, slice_set, ◌==◌, if◌then◌else◌, fold}
use Rattle.std.specs.Option.{option_map_or}
use Rattle.std.proofs.lemmas.Bool.Decides.{nat_tests}
use Rattle.std.proofs.lemmas.List.{length-set, get_or_default}
use Rattle.std.proofs.lemmas.List.Elements.{All-nil, All-head, All-tail, All-get_or, All-push, All-set, All-weaker}
use Rattle.std.proofs.lemmas.List.Sorted.{IsNonDecreasingBy-short, IsNonDecreasingBy-push}
use Rattle.osm_base.specs.Key.{kind_eq}
use Rattle.osm_base.specs.Stamp.{stamp_after}
use Rattle.osm_base.specs.declared.keys.Kind.{Kind}
use Rattle.osm_base.specs.declared.keys.Kind.TheVariants as kind
use Rattle.osm_element.specs.Elements.{no_elements, key, histories, history_in, history, version_in, add_version, push_version, mark_in, mark}
use Rattle.osm_element.specs.declared.elements.Elements.{Elements}
use Rattle.osm_element.specs.Version.{Version}
use Rattle.osm_element.proofs.Pushed.{histories-with}
use Rattle.osm_change.specs.declared.refusals.Refusal.{Refusal}
use Rattle.osm_model.specs.declared.states.State.{State}
use Rattle.osm_model.specs.declared.commands.Entry.{Entry}
use Rattle.osm_model.specs.Act.{Effect, judge, settle}
use Rattle.osm_model.specs.Journal.{after, replay}
use Rattle.osm_model.specs.Stamped.{stamp_of, IsStampedTo, IsStamped}
use Rattle.osm_model.specs.State.{empty}
use Rattle.osm_model.proofs.Changed.{IsKeptBy, judge-changes}

-- ---- a history

none-stamped : (t : ℕ) → IsStampedTo t []
none-stamped t = record {
  rising = IsNonDecreasingBy-short stamp_of [] (omega arith);
  within = All-nil (λ (v : Version). v.stamp ≤ t);
}

push-stamped : (t : ℕ) (vs : List Version) (v : Version) → v.stamp ≡ t → IsStampedTo t vs → IsStampedTo t (vs ++ v ∷ [])
push-stamped t vs v same was = record {
  rising = IsNonDecreasingBy-push stamp_of vs v was.rising (λ d some. along d (All-get_or (λ (x : Version). x.stamp ≤ t) vs (length vs - 1) d (omega (arith, some)) was.within));
  within = All-push (λ (x : Version). x.stamp ≤ t) vs v was.within (omega (arith, same));
}
  where
    along : (d : Version) → (get_or vs (length vs - 1) d).stamp ≤ t → stamp_of (get_or vs (length vs - 1) d) ≤ stamp_of v
    along d low = omega (arith, low, same)

-- a list with one version replaced by one with the same stamp, or the list itself
record SameStamps (vs ws : List Version) : Type 0 where
  long : length ws ≡ length vs
  each : (j : ℕ) (d : Version) → stamp_of (get_or ws j d) ≡ stamp_of (get_or vs j d)

stamp-set :
    (vs : List Version) (i j : ℕ) (w v d : Version)
    → slice_get vs i ≡ Some v
    → w.stamp ≡ v.stamp
    → stamp_of (get_or (slice_set vs i w) j d) ≡ stamp_of (get_or vs j d)
stamp-set [] i j w v d there same = refl
stamp-set (x ∷ xs) zero zero w v d there same = let e : v ≡ x = cc in same ∙ ap stamp_of e
stamp-set (x ∷ xs) zero (suc j) w v d there same = refl
stamp-set (x ∷ xs) (suc i) zero w v d there same = refl
stamp-set (x ∷ xs) (suc i) (suc j) w v d there same = stamp-set xs i j w v d there same

-- the version that a number finds is at its place
pub version_at : (vs : List Version) (n : ℕ) (v : Version) → version_in vs n ≡ Some v → slice_get vs (n - 1) ≡ Some v
version_at vs n v e = along (n == 0) e
  where
    along : (b : Bool) → (if b then None else slice_get vs (n - 1)) ≡ Some v → slice_get vs (n - 1) ≡ Some v
    along true e = cc
    along false e = e

same-mark : (vs : List Version) (n : ℕ) (m : Option ℕ) → SameStamps vs (mark_in vs n m)
same-mark vs n m = by (version_in vs n) (λ v e. version_at vs n v e)
  where
    by : (o : Option Version) → ((v : Version) → o ≡ Some v → slice_get vs (n - 1) ≡ Some v) → SameStamps vs (option_map_or (λ v. slice_set vs (n - 1) (record v { redaction = m })) o vs)
    by None there = record { long = refl; each = λ j d. refl }
    by (Some v) there = record {
      long = length-set vs (n - 1) (record v { redaction = m });
      each = λ j d. stamp-set vs (n - 1) j (record v { redaction = m }) v d (there v refl) refl;
    }

same-stamped : (t : ℕ) (vs ws : List Version) → SameStamps vs ws → IsStampedTo t vs → IsStampedTo t ws
same-stamped t vs ws same was = record {
  rising = λ i j d le below. rises i j d (same.each i d) (same.each j d) (was.rising i j d le (omega (arith, below, same.long)));
  within = λ j d below. low j d (same.each j d) (was.within j d (omega (arith, below, same.long)));
}
  where
    rises : (i j : ℕ) (d : Version)
        → stamp_of (get_or ws i d) ≡ stamp_of (get_or vs i d)
        → stamp_of (get_or ws j d) ≡ stamp_of (get_or vs j d)
        → stamp_of (get_or vs i d) ≤ stamp_of (get_or vs j d)
        → stamp_of (get_or ws i d) ≤ stamp_of (get_or ws j d)
    rises i j d a b le = omega (arith, a, b, le)

    low : (j : ℕ) (d : Version) → stamp_of (get_or ws j d) ≡ stamp_of (get_or vs j d) → (get_or vs j d).stamp ≤ t → (get_or ws j d).stamp ≤ t
    low j d a le = omega (arith, a, le)

-- ---- the histories of a kind

at-stamped : (t : ℕ) (hs : List (List Version)) (i : ℕ) → All (IsStampedTo t) hs → IsStampedTo t (get_or hs i [])
at-stamped t [] i all = none-stamped t
at-stamped t (h ∷ hs) zero all = All-head (IsStampedTo t) h hs all
at-stamped t (h ∷ hs) (suc i) all = at-stamped t hs i (All-tail (IsStampedTo t) h hs all)

pub history-stamped : (t : ℕ) (hs : List (List Version)) (id : ℕ) → All (IsStampedTo t) hs → IsStampedTo t (history_in hs id)
history-stamped t hs id all = along (id == 0)
  where
    along : (b : Bool) → IsStampedTo t (if b then [] else get_or hs (id - 1) [])
    along true = none-stamped t
    along false = at-stamped t hs (id - 1) all

add-stamped : (t : ℕ) (hs : List (List Version)) (place : ℕ) (v : Version) → v.stamp ≡ t → All (IsStampedTo t) hs → All (IsStampedTo t) (add_version hs place v)
add-stamped t hs place v same all = along (place == length hs)
  where
    along : (b : Bool) → All (IsStampedTo t) (if b then hs ++ (v ∷ []) ∷ [] else slice_set hs place (get_or hs place [] ++ v ∷ []))
    along true = All-push (IsStampedTo t) hs (v ∷ []) all (push-stamped t [] v same (none-stamped t))
    along false = All-set (IsStampedTo t) hs place (get_or hs place [] ++ v ∷ []) (push-stamped t (get_or hs place []) v same (at-stamped t hs place all)) all

-- ---- the elements

abbrev pub AreStampedTo : ℕ → Elements → Type 0
AreStampedTo t E = (kind : Kind) → All (IsStampedTo t) (histories E kind)

-- the history of an id is at its place
pub history_at : (hs : List (List Version)) (i : ℕ) → history_in hs (i + 1) ≡ get_or hs i []
history_at hs i = ap (λ (b : Bool). if b then [] else get_or hs (i + 1 - 1) []) (some i) ∙ ap (λ (n : ℕ). get_or hs n []) (back i)
  where
    some : (i : ℕ) → (i + 1 == 0) ≡ false
    some i = grind (arith, nat_tests)

    back : (i : ℕ) → i + 1 - 1 ≡ i
    back i = omega arith

pub listed-stamped : (P : State) → IsStamped P → AreStampedTo P.last P.elements
listed-stamped P was a i d within =
    subst
    (IsStampedTo P.last)
    (history_at (histories P.elements a) i ∙ get_or_default (histories P.elements a) i [] d within)
    (was.each (key a (i + 1)))

with-stamped :
    (t : ℕ) (E : Elements) (k : Kind) (hs : List (List Version)) (now : List (List Version))
    → (a : Kind)
    → now ≡ (if kind_eq a k then hs else histories E a)
    → All (IsStampedTo t) hs
    → AreStampedTo t E
    → All (IsStampedTo t) now
with-stamped t E k hs now a is all was = subst (λ (l : List (List Version)). All (IsStampedTo t) l) (sym is) (along (kind_eq a k))
  where
    along : (b : Bool) → All (IsStampedTo t) (if b then hs else histories E a)
    along true = all
    along false = was a

stamped-kept : (t : ℕ) → IsKeptBy t (AreStampedTo t)
stamped-kept t = record {
  pushes = λ E k v same was a.
      let hs = add_version (histories E k.kind) (k.id - 1) v in
      with-stamped t E k.kind hs (histories (push_version E k v) a) a (histories-with E k.kind a hs) (add-stamped t (histories E k.kind) (k.id - 1) v same (was k.kind)) was;
  marks = λ E k n m counted within was a.
      let hs = slice_set (histories E k.kind) (k.id - 1) (mark_in (history E k) n m) in
      with-stamped t E k.kind hs (histories (mark E k n m) a) a (histories-with E k.kind a hs)
      (All-set (IsStampedTo t) (histories E k.kind) (k.id - 1) (mark_in (history E k) n m)
      (same-stamped t (history E k) (mark_in (history E k) n m) (same-mark (history E k) n m) (history-stamped t (histories E k.kind) k.id (was k.kind)))
      (was k.kind))
      was;
}

-- a later last stamp
raised : (s t : ℕ) (E : Elements) → s ≤ t → AreStampedTo s E → AreStampedTo t E
raised s t E up was a = All-weaker (IsStampedTo s) (IsStampedTo t) (λ vs stamped. record {
  rising = stamped.rising;
  within = All-weaker (λ (v : Version). v.stamp ≤ s) (λ (v : Version). v.stamp ≤ t) (λ v low. omega (arith, low, up)) vs stamped.within;
}) (histories E a) (was a)

-- ---- entries

settled-stamped :
    (P : State) (t : ℕ) (judged : Result Effect Refusal)
    → IsStamped P
    → ((done : Effect) → judged ≡ Ok done → AreStampedTo t done.state.elements)
    → IsStamped (settle P t judged).0
settled-stamped P t (Err r) was each = was
settled-stamped P t (Ok done) was each = record { each = λ k. history-stamped t (histories done.state.elements k.kind) k.id (each done refl k.kind) }

pub stamped-after : (P : State) (e : Entry) → IsStamped P → IsStamped (after P e)
stamped-after P e was =
    let t : ℕ = stamp_after P.last e.stamp in
    settled-stamped P t (judge P e.user t e.command) was
    (λ done same. judge-changes (AreStampedTo t) P e.user t e.command done (stamped-kept t) (raised P.last t P.elements (omega arith) (listed-stamped P was)) same)

pub stamped-all : (P : State) (es : List Entry) → IsStamped P → IsStamped (fold after P es)
stamped-all P [] was = was
stamped-all P (e ∷ es) was = stamped-all (after P e) es (stamped-after P e was)

none-in : (k : Kind) → All (IsStampedTo 0) (histories no_elements k)
none-in kind.Node = All-nil (IsStampedTo 0)
none-in kind.Way = All-nil (IsStampedTo 0)
none-in kind.Relation = All-nil (IsStampedTo 0)

pub empty-stamped : IsStamped empty
empty-stamped = record { each = λ k. history-stamped 0 (histories no_elements k.kind) k.id (none-in k.kind) }

pub replay_stamped : (es : List Entry) → IsStamped (replay es)
replay_stamped es = stamped-all empty es empty-stamped
