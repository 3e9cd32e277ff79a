-- What is seen of references, and what the tests of an operation come to by it.
use Rattle.std.proofs.Common.{◌≡◌, ℕ, Bool, true, false, cond, List, [], ◌∷◌, map, Some, None, Ok, Err, refl, sym, ap, ap₂, ◌∙◌}
use Rattle.std.specs.Prelude.{Option, Result, not, is_some, find, filter_map, option_and_then, option_map}
use Rattle.std.specs.List.{cons_option}
use Rattle.std.specs.Option.{option_map_or}
use Rattle.osm_base.specs.Outcome.{◌>>=◌}
use Rattle.osm_base.specs.Place.{Area, Position}
use Rattle.osm_base.specs.declared.keys.Kind.{Kind}
use Rattle.osm_base.specs.declared.keys.Kind.TheVariants as kind
use Rattle.osm_base.specs.declared.keys.Key.{Key}
use Rattle.osm_element.specs.Elements.{key, key_of_member, position_in, refs}
use Rattle.osm_element.specs.declared.contents.Content.{Content}
use Rattle.osm_element.specs.declared.contents.Content.TheVariants as content
use Rattle.osm_element.specs.declared.contents.Member.{Member}
use Rattle.osm_change.specs.Change.{kind_of, named, named_member, names_listed}
use Rattle.osm_change.specs.Keys.{id_of}
use Rattle.osm_change.specs.declared.operations.Name.{Name}
use Rattle.osm_change.specs.declared.operations.Named.{Named}
use Rattle.osm_change.specs.declared.refusals.Refusal.{Refusal}
use Rattle.changeset_core.specs.Changeset.{widen_all}
use Rattle.osm_model.specs.Names.{member_with_id, with_ids}
use Rattle.upload_check.specs.Overlay.{Sight, content_now, is_visible, position_now}
use Rattle.upload_check.specs.Checks.{check_create, check_current, check_delete, check_known, check_modify, check_visible, current_version, element, is_missing, known, makes, missing, next_key, references}
use Rattle.upload_check.specs.Passed.{place_named, place_seen, position_named, AllSeen, AreVisible}
use Rattle.upload_check.specs.declared.checks.Step.{Step}
use Rattle.upload_check.proofs.Given.{known-is}

pub seen_is : (o : Option (Content ℕ)) → is_some (option_map position_in o) ≡ is_some o
seen_is None = refl
seen_is (Some c) = refl

-- ---- one that is named

same-place : (x y : Option Position) → ◌≡◌ {A = Option (Option Position)} (Some x) (Some y) → x ≡ y
same-place x y e = cc

pub seen_visible : (s : Sight) (r : Named) (place : Option Position) → place_named s r.kind r.name ≡ Some place → is_missing s r ≡ false
seen_visible s r place e = by (known s r.kind r.name) e
  where
    by : (o : Option Key) → option_and_then (place_seen s) o ≡ Some place → not (option_map_or (is_visible s) o false) ≡ false
    by None e = cc
    by (Some k) e = ap not (sym (seen_is (content_now s k)) ∙ ap is_some e)

pub unseen : (s : Sight) (r : Named) → place_named s r.kind r.name ≡ None → is_missing s r ≡ true
unseen s r e = by (known s r.kind r.name) e
  where
    by : (o : Option Key) → option_and_then (place_seen s) o ≡ None → not (option_map_or (is_visible s) o false) ≡ true
    by None e = refl
    by (Some k) e = ap not (sym (seen_is (content_now s k)) ∙ ap is_some e)

pub seen_position : (s : Sight) (r : Named) (place : Option Position) → place_named s r.kind r.name ≡ Some place → position_named s r ≡ place
seen_position s r place e = by (known s r.kind r.name) e
  where
    at : (c : Option (Content ℕ)) → option_map position_in c ≡ Some place → option_and_then position_in c ≡ place
    at None e = cc
    at (Some c) e = same-place (position_in c) place e

    by : (o : Option Key) → option_and_then (place_seen s) o ≡ Some place → option_and_then (position_now s) o ≡ place
    by None e = cc
    by (Some k) e = at (content_now s k) e

-- ---- a list of them

pub seen_more : {X : Type 0} (p : X → Bool) (x : X) (xs : List X) → p x ≡ false → find p (x ∷ xs) ≡ find p xs
seen_more {X} p x xs e = ap (λ (b : Bool). cond b (Some x) (find p xs)) e

none-first : {X : Type 0} (b : Bool) (x : X) (o : Option X) → cond b (Some x) o ≡ None → (b ≡ false) × (o ≡ None)
none-first true x o e = cc
none-first false x o e = (refl, e)

position-is : (s : Sight) (q : Kind) (name : Name) → is_missing s (named q name) ≡ false → position_named s (named q name) ≡ position_now s (key q (id_of s.over.keys name))
position-is s q name e = by (known s q name) refl e
  where
    by : (o : Option Key) → known s q name ≡ o → not (option_map_or (is_visible s) o false) ≡ false → option_and_then (position_now s) o ≡ position_now s (key q (id_of s.over.keys name))
    by None at e = cc
    by (Some k) at e = ap (position_now s) (known-is s q name k at)

nodes-placed :
    (s : Sight) (nodes : List Name)
    → find (is_missing s) (map (named kind.Node) nodes) ≡ None
    → filter_map (position_named s) (map (named kind.Node) nodes) ≡ filter_map (position_now s) (map (key kind.Node) (map (id_of s.over.keys) nodes))
nodes-placed s [] e = refl
nodes-placed s (n ∷ ns) e =
    let parts = none-first (is_missing s (named kind.Node n)) (named kind.Node n) (find (is_missing s) (map (named kind.Node) ns)) e in
    ap₂ (λ (o : Option Position) (ps : List Position). cons_option o ps) (position-is s kind.Node n parts.0) (nodes-placed s ns parts.1)

members-placed :
    (s : Sight) (members : List (Member Name))
    → find (is_missing s) (map named_member members) ≡ None
    → filter_map (position_named s) (map named_member members) ≡ filter_map (position_now s) (map key_of_member (map (member_with_id s.over.keys) members))
members-placed s [] e = refl
members-placed s (m ∷ ms) e =
    let parts = none-first (is_missing s (named_member m)) (named_member m) (find (is_missing s) (map named_member ms)) e in
    ap₂ (λ (o : Option Position) (ps : List Position). cons_option o ps) (position-is s m.kind m.name parts.0) (members-placed s ms parts.1)

placed :
    (s : Sight) (new : Content Name)
    → find (is_missing s) (names_listed new) ≡ None
    → filter_map (position_named s) (names_listed new) ≡ filter_map (position_now s) (refs (with_ids s.over.keys new))
placed s (content.Node at) e = refl
placed s (content.Way nodes) e = nodes-placed s nodes e
placed s (content.Relation members) e = members-placed s members e

pub all_visible : (s : Sight) (new : Content Name) (area : Option Area) → AllSeen s (names_listed new) area → AreVisible s new area
all_visible s new area seen = record {
  fine = ap (λ (o : Option Named). option_map_or (λ r. Err (missing s r)) o (Ok tt)) seen.visible;
  area = seen.area ∙ ap (widen_all None) (placed s new seen.visible);
}

pub not_visible : (s : Sight) (new : Content Name) (r : Named) → find (is_missing s) (names_listed new) ≡ Some r → references s new ≡ Err (missing s r)
not_visible s new r e = ap (λ (o : Option Named). option_map_or (λ x. Err (missing s x)) o (Ok tt)) e

-- ---- operations

pub create_passes : (s : Sight) (new : Content Name) → references s new ≡ Ok tt → check_create s new ≡ Ok (makes (next_key s (kind_of new)))
create_passes s new fine = ap (λ (r : Result (Unit {0}) Refusal). r >>= λ _. Ok (makes (next_key s (kind_of new)))) fine

pub create_refused : (s : Sight) (new : Content Name) (x : Refusal) → references s new ≡ Err x → check_create s new ≡ Err x
create_refused s new x e = ap (λ (r : Result (Unit {0}) Refusal). r >>= λ _. Ok (makes (next_key s (kind_of new)))) e

known-modified : (s : Sight) (name : Name) (version : ℕ) (new : Content Name) (k : Key) → element s (kind_of new) name ≡ Ok k → check_modify s name version new ≡ check_known s name k version new
known-modified s name version new k e = ap (λ (r : Result Key Refusal). r >>= λ x. check_known s name x version new) e

current-modified : (s : Sight) (name : Name) (version : ℕ) (new : Content Name) (k : Key) → current_version s (kind_of new) name k version ≡ Ok tt → check_known s name k version new ≡ check_current s k new
current-modified s name version new k e = ap (λ (r : Result (Unit {0}) Refusal). r >>= λ _. check_current s k new) e

pub modify_passes :
    (s : Sight) (name : Name) (version : ℕ) (new : Content Name) (k : Key)
    → element s (kind_of new) name ≡ Ok k
    → current_version s (kind_of new) name k version ≡ Ok tt
    → references s new ≡ Ok tt
    → check_modify s name version new ≡ Ok (makes k)
modify_passes s name version new k there current fine =
    known-modified s name version new k there ∙ current-modified s name version new k current
    ∙ ap (λ (r : Result (Unit {0}) Refusal). r >>= λ _. Ok (makes k)) fine

pub modify_lists_missing :
    (s : Sight) (name : Name) (version : ℕ) (new : Content Name) (k : Key) (x : Refusal)
    → element s (kind_of new) name ≡ Ok k
    → current_version s (kind_of new) name k version ≡ Ok tt
    → references s new ≡ Err x
    → check_modify s name version new ≡ Err x
modify_lists_missing s name version new k x there current e =
    known-modified s name version new k there ∙ current-modified s name version new k current
    ∙ ap (λ (r : Result (Unit {0}) Refusal). r >>= λ _. Ok (makes k)) e

pub modify_other_version :
    (s : Sight) (name : Name) (version : ℕ) (new : Content Name) (k : Key) (x : Refusal)
    → element s (kind_of new) name ≡ Ok k
    → current_version s (kind_of new) name k version ≡ Err x
    → check_modify s name version new ≡ Err x
modify_other_version s name version new k x there e =
    known-modified s name version new k there
    ∙ ap (λ (r : Result (Unit {0}) Refusal). r >>= λ _. check_current s k new) e

pub modify_unknown : (s : Sight) (name : Name) (version : ℕ) (new : Content Name) (x : Refusal) → element s (kind_of new) name ≡ Err x → check_modify s name version new ≡ Err x
modify_unknown s name version new x e = ap (λ (r : Result Key Refusal). r >>= λ k. check_known s name k version new) e

pub delete_known :
    (s : Sight) (q : Kind) (name : Name) (version : ℕ) (if_unused : Bool) (k : Key) (told : Result Step Refusal)
    → element s q name ≡ Ok k
    → told ≡ check_visible s q name version if_unused k
    → check_delete s q name version if_unused ≡ told
delete_known s q name version if_unused k told there is = ap (λ (r : Result Key Refusal). r >>= check_visible s q name version if_unused) there ∙ sym is

pub delete_unknown :
    (s : Sight) (q : Kind) (name : Name) (version : ℕ) (if_unused : Bool) (x : Refusal)
    → element s q name ≡ Err x
    → check_delete s q name version if_unused ≡ Err x
delete_unknown s q name version if_unused x e = ap (λ (r : Result Key Refusal). r >>= check_visible s q name version if_unused) e
