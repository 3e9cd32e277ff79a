-- What every version has, after one more was made and after a mark.
use Rattle.std.proofs.Common.{◌≡◌, ℕ, zero, suc, ◌-◌, ◌<◌, ◌≤◌, Bool, true, false, ◌⊎◌, inl, inr, ⊎_elim, List, [], ◌∷◌, ◌++◌, length, Option, Some, None, refl, sym, ap, ◌∙◌, subst}
use Rattle.std.specs.Prelude.{slice_get, slice_set, slice_index_or, ◌==◌, if◌then◌else◌}
use Rattle.std.specs.Option.{option_map_or}
use Rattle.osm_base.specs.Key.{key_eq}
use Rattle.osm_base.specs.declared.keys.Kind.{Kind}
use Rattle.osm_base.specs.declared.keys.Kind.TheVariants.{Node, Way, Relation}
use Rattle.osm_base.specs.declared.keys.Key.{Key}
use Rattle.osm_base.proofs.Pushed.{found_in_push}
use Rattle.osm_element.specs.Version.{Version}
use Rattle.osm_element.specs.declared.elements.Elements.{Elements}
use Rattle.osm_element.specs.Elements.{no_elements, histories, next_id, history_in, history, version_in, push_version, mark_in, mark, EachVersion}
use Rattle.osm_element.proofs.Pushed.{history-push}
use Rattle.osm_element.proofs.Later.{history-mark}

-- of the versions of one element
abbrev EachIn : (Version → Type 0) → List Version → Type 0
EachIn P vs = (n : ℕ) (v : Version) → version_in vs n ≡ Some v → P v

in_push : (vs : List Version) (v : Version) (n : ℕ) (w : Version) → version_in (vs ++ v ∷ []) n ≡ Some w → (version_in vs n ≡ Some w) ⊎ (w ≡ v)
in_push vs v n w found = along (n == 0) found
  where
    along : (b : Bool) → (if b then None else slice_get (vs ++ v ∷ []) (n - 1)) ≡ Some w → ((if b then None else slice_get vs (n - 1)) ≡ Some w) ⊎ (w ≡ v)
    along true e = cc
    along false e = ⊎_elim (λ old. inl old.0) (λ new. inr new.1) (found_in_push vs v (n - 1) w e)

in_set : (vs : List Version) (i : ℕ) (x : Version) (n : ℕ) (w : Version) → version_in (slice_set vs i x) n ≡ Some w → (version_in vs n ≡ Some w) ⊎ (w ≡ x)
in_set vs i x n w found = along (n == 0) found
  where
    at : (vs : List Version) (i j : ℕ) → slice_get (slice_set vs i x) j ≡ Some w → (slice_get vs j ≡ Some w) ⊎ (w ≡ x)
    at [] i j e = inl e
    at (y ∷ ys) zero zero e = inr cc
    at (y ∷ ys) zero (suc j) e = inl e
    at (y ∷ ys) (suc i) zero e = inl e
    at (y ∷ ys) (suc i) (suc j) e = at ys i j e

    along : (b : Bool) → (if b then None else slice_get (slice_set vs i x) (n - 1)) ≡ Some w → ((if b then None else slice_get vs (n - 1)) ≡ Some w) ⊎ (w ≡ x)
    along true e = cc
    along false e = at vs i (n - 1) e

each_in-push : (P : Version → Type 0) (vs : List Version) (v : Version) → EachIn P vs → P v → EachIn P (vs ++ v ∷ [])
each_in-push P vs v old new n w found =
    ⊎_elim (λ before. old n w before) (λ same. subst P (sym same) new) (in_push vs v n w found)

each_in-mark :
    (P : Version → Type 0) (vs : List Version) (n : ℕ) (m : Option ℕ)
    → ((v : Version) → P v → P (record v { redaction = m }))
    → EachIn P vs
    → EachIn P (mark_in vs n m)
each_in-mark P vs n m unread old = by (version_in vs n) (λ v found. old n v found)
  where
    by : (o : Option Version) → ((v : Version) → o ≡ Some v → P v) → EachIn P (option_map_or (λ v. slice_set vs (n - 1) (record v { redaction = m })) o vs)
    by None was = old
    by (Some v) was = λ j w found. ⊎_elim
        (λ before. old j w before)
        (λ same. subst P (sym same) (unread v (was v refl)))
        (in_set vs (n - 1) (record v { redaction = m }) j w found)

pub each-none : (P : Version → Type 0) → EachVersion P no_elements
each-none P = record {
  each = λ k n v found. absurd (never (n == 0) n v (sym (ap (λ (vs : List Version). version_in vs n) (no_history k.kind k.id)) ∙ found));
}
  where
    empty : List (List Version)
    empty = []

    nothing : (b : Bool) (id : ℕ) → ◌≡◌ {A = List Version} (if b then [] else slice_index_or empty (id - 1) []) []
    nothing true id = refl
    nothing false id = refl

    no_history : (kind : Kind) (id : ℕ) → ◌≡◌ {A = List Version} (history_in (histories no_elements kind) id) []
    no_history Node id = nothing (id == 0) id
    no_history Way id = nothing (id == 0) id
    no_history Relation id = nothing (id == 0) id

    never : (b : Bool) (n : ℕ) (v : Version) → ◌≡◌ {A = Option Version} (if b then None else slice_get [] (n - 1)) (Some v) → ⊥
    never true n v e = cc
    never false n v e = cc

pub each-push :
    (P : Version → Type 0) (E : Elements) (k : Key) (v : Version)
    → 0 < k.id
    → k.id ≤ next_id E k.kind
    → EachVersion P E
    → P v
    → EachVersion P (push_version E k v)
each-push P E k v counted reached old new = record {
  each = λ a. subst (EachIn P) (sym (history-push E k a v counted reached)) (along (key_eq a k) a);
}
  where
    along : (b : Bool) (a : Key) → EachIn P (if b then history E k ++ v ∷ [] else history E a)
    along true a = each_in-push P (history E k) v (old.each k) new
    along false a = old.each a

pub each-mark :
    (P : Version → Type 0) (E : Elements) (k : Key) (n : ℕ) (m : Option ℕ)
    → 0 < k.id
    → k.id ≤ length (histories E k.kind)
    → ((v : Version) → P v → P (record v { redaction = m }))
    → EachVersion P E
    → EachVersion P (mark E k n m)
each-mark P E k n m counted within unread old = record {
  each = λ a. subst (EachIn P) (sym (history-mark E k a n m counted within)) (along (key_eq a k) a);
}
  where
    along : (b : Bool) (a : Key) → EachIn P (if b then mark_in (history E k) n m else history E a)
    along true a = each_in-mark P (history E k) n m unread (old.each k)
    along false a = old.each a

-- a weaker property
pub each-map : (P Q : Version → Type 0) (E : Elements) → ((v : Version) → P v → Q v) → EachVersion P E → EachVersion Q E
each-map P Q E follows old = record { each = λ k n v found. follows v (old.each k n v found) }
