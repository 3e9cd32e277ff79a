-- What is shown of an element is told by its last version.
use Rattle.std.proofs.Common.{◌≡◌, ℕ, zero, suc, ◌-◌, ◌<◌, Bool, true, false, List, [], ◌∷◌, length, Option, Some, None, Ok, Err, refl, sym, ap, ◌∙◌, arith}
use Rattle.std.specs.Prelude.{Result, ◌==◌, ◌&&◌, if◌then◌else◌, not, is_some, slice_get, option_and_then}
use Rattle.std.specs.Option.{option_map_or}
use Rattle.std.proofs.lemmas.Bool.Decides.{nat_tests}
use Rattle.osm_base.specs.Outcome.{◌>>=◌, refuse_if}
use Rattle.osm_base.specs.declared.keys.Key.{Key}
use Rattle.osm_change.specs.declared.reads.ReadFault.{ReadFault}
use Rattle.osm_change.specs.declared.reads.ReadFault.TheVariants as fault
use Rattle.osm_change.specs.declared.reads.VersionId.{VersionId}
use Rattle.osm_element.specs.Elements.{history, version_in}
use Rattle.osm_element.specs.declared.contents.Content.{Content}
use Rattle.osm_element.specs.declared.elements.Elements.{Elements}
use Rattle.osm_element.specs.Version.{Version}
use Rattle.osm_model.specs.Past.{is_last_shown, one_unmarked}
use Rattle.osm_model.specs.Reads.{shown, current_shown, hidden, unless_hidden}
use Rattle.attic_reads.specs.Attic.{last_shown, last_in}

abbrev content_in : Option Version → Option (Content ℕ)
content_in o = option_and_then (λ (v : Version). v.content) o

-- by the number of versions and the last one
abbrev one_by : Key → ℕ → Bool → Option Version → Result VersionId ReadFault
one_by k n none o =
    (refuse_if none (fault.NotFound k 0) >>= (λ (there : Unit {0}). refuse_if (not (is_some (content_in o))) (fault.Gone k n) >>= λ (seen : Unit {0}). Ok (shown k n)))
    >>= λ (itself : VersionId). refuse_if none (fault.NotFound k 0) >>= λ (there : Unit {0}). option_map_or (unless_hidden k n false) o (Err (fault.NotFound k n))

by-last : (k : Key) (n : ℕ) (none : Bool) (o : Option Version) → (none ≡ true → o ≡ None) → (none ≡ false → o ≡ None → ⊥) → one_by k n none o ≡ option_map_or (last_shown k n) o (Err (fault.NotFound k 0))
by-last k n true o nothing something = ap (λ (p : Option Version). option_map_or (last_shown k n) p (Err (fault.NotFound k 0))) (sym (nothing refl))
by-last k n false None nothing something = absurd (something refl refl)
by-last k n false (Some v) nothing something = along v.content
  where
    along : (c : Option (Content ℕ))
        → ((refuse_if (not (is_some c)) (fault.Gone k n) >>= λ (seen : Unit {0}). Ok (shown k n)) >>= λ (itself : VersionId). unless_hidden k n false v)
        ≡ (if is_some c then unless_hidden k n false v else Err (fault.Gone k n))
    along None = refl
    along (Some c) = refl

-- a history has a last version, unless it is empty
last-none : (vs : List Version) → (length vs == 0) ≡ true → version_in vs (length vs) ≡ None
last-none vs none = ap (λ (b : Bool). if b then None else slice_get vs (length vs - 1)) none

last-some : (vs : List Version) → (length vs == 0) ≡ false → version_in vs (length vs) ≡ None → ⊥
last-some vs some e = found vs (length vs - 1) (below (length vs) some) (sym (ap (λ (b : Bool). if b then None else slice_get vs (length vs - 1)) some) ∙ e)
  where
    below : (n : ℕ) → (n == 0) ≡ false → n - 1 < n
    below n some = grind (arith, nat_tests)

    found : (vs : List Version) (i : ℕ) → i < length vs → slice_get vs i ≡ None → ⊥
    found [] i within e = absurd (omega (arith, within))
    found (v ∷ vs) zero within e = cc
    found (v ∷ vs) (suc i) within e = found vs i (omega (arith, within)) e

pub one-last : (E : Elements) (k : Key) → one_unmarked E k ≡ last_in k (history E k)
one-last E k = let vs = history E k in by-last k (length vs) (length vs == 0) (version_in vs (length vs)) (last-none vs) (last-some vs)

-- ---- what is shown of it

abbrev shown_of : Result VersionId ReadFault → Option VersionId
shown_of (Ok s) = Some s
shown_of (Err f) = None

shown-last :
    (k : Key) (n : ℕ) (o : Option Version)
    → shown_of (option_map_or (last_shown k n) o (Err (fault.NotFound k 0)))
    ≡ (if is_some (content_in o) && option_map_or (λ (v : Version). not (is_some (hidden false v))) o false then Some (shown k n) else None)
shown-last k n None = refl
shown-last k n (Some v) = along v.content v.redaction
  where
    along : (c : Option (Content ℕ)) (r : Option ℕ)
        → shown_of (if is_some c then option_map_or (λ (m : ℕ). Err (fault.Redacted k n m)) r (Ok (shown k n)) else Err (fault.Gone k n))
        ≡ (if is_some c && not (is_some r) then Some (shown k n) else None)
    along None r = refl
    along (Some c) None = refl
    along (Some c) (Some m) = refl

pub one-shown : (E : Elements) (k : Key) → shown_of (one_unmarked E k) ≡ (if is_last_shown E k then Some (current_shown E k) else None)
one-shown E k = let vs = history E k in ap shown_of (one-last E k) ∙ shown-last k (length vs) (version_in vs (length vs))

pub shown-Ok : (E : Elements) (k : Key) (s : VersionId) → Ok s ≡ one_unmarked E k → Some s ≡ (if is_last_shown E k then Some (current_shown E k) else None)
shown-Ok E k s e = ap shown_of e ∙ one-shown E k

pub shown-Err : (E : Elements) (k : Key) (f : ReadFault) → Err f ≡ one_unmarked E k → ◌≡◌ {A = Option VersionId} None (if is_last_shown E k then Some (current_shown E k) else None)
shown-Err E k f e = ap shown_of e ∙ one-shown E k
