-- What each operation of a reading has of its own.
use Rattle.std.proofs.Common.{◌≡◌, ℕ, zero, suc, ◌<◌, ◌≤◌, ◌^◌, Bool, cond, eqb, ltb, List, [], ◌∷◌, length, Option, Some, None, is_some, ℤ, pos, negsuc, Result, Ok, Err, refl, sym, ap, ◌∙◌, subst, arith, ◌≢◌, ◌||◌}
use Rattle.std.specs.Prelude.{All, MatchOption, ⊤}
use Rattle.std.specs.List.{list_any}
use Rattle.std.proofs.lemmas.Int.{ints}
use Rattle.osm_base.specs.Outcome.{◌>>=◌}
use Rattle.osm_base.specs.declared.keys.Kind.{Kind}
use Rattle.osm_base.specs.declared.keys.Kind.TheVariants.{Node}
use Rattle.osm_base.specs.declared.limits.TheConstants.{WAY_LIMIT, RELATION_LIMIT}
use Rattle.osm_element.specs.Tags.{Tag}
use Rattle.osm_element.specs.Limits.{is_long, check_tags, check_content, check_parts, check_named, check_named_content}
use Rattle.osm_element.specs.declared.contents.Content.{Content}
use Rattle.osm_element.specs.declared.contents.Content.TheVariants as content
use Rattle.osm_element.specs.declared.contents.RawContent.{RawContent}
use Rattle.osm_element.specs.declared.contents.RawContent.TheVariants as raw
use Rattle.osm_element.specs.declared.contents.Member.{Member}
use Rattle.osm_element.specs.declared.faults.LocalFault.{LocalFault}
use Rattle.osm_element.specs.declared.faults.LocalFault.TheVariants.{WayEmpty, WayLong, RelationLong, Role}
use Rattle.osm_change.specs.Outcome.{each, cons_ok}
use Rattle.osm_change.specs.Change.{named, names_given, IsPlaceholder, HasPlaceholder, IsNumber, IsKnown, HasVersion, IsWithinLimits}
use Rattle.osm_change.specs.Build.{Look, name_of, member_with, member_named, content_named, local, local_cause, free_placeholder, version_named, op_by, op_of, IsReference, HasContent, IsRawOp}
use Rattle.osm_change.specs.declared.causes.Cause.{Cause}
use Rattle.osm_change.specs.declared.causes.Cause.TheVariants.{DoublePlaceholder}
use Rattle.osm_change.specs.declared.raw.Action.{Action}
use Rattle.osm_change.specs.declared.raw.Action.TheVariants as action
use Rattle.osm_change.specs.declared.raw.RawOp.{RawOp}
use Rattle.osm_change.specs.declared.operations.Name.{Name}
use Rattle.osm_change.specs.declared.operations.Referent.TheVariants.{Old}
use Rattle.osm_change.specs.declared.operations.Op.{Op}
use Rattle.osm_change.proofs.Built.{bind-ok, cons-ok, new-parts, created-from, modified-from, deleted-from}
use Rattle.osm_change.proofs.NamesBefore.{given}

-- -- names

some-id : (id : ℕ) → pos id ≢ pos 0 → 1 ≤ id
some-id zero h = absurd (h refl)
some-id (suc n) h = omega arith

known-name : (look : Look) (kind : Kind) (id : ℤ) (name : Name) → IsReference id → name_of look kind id ≡ Ok name → IsKnown (named kind name)
known-name look kind (pos id) name ref e =
    let same : Old id ≡ name = cc in
    let high = ref.high in
    let small : id < 2 ^ 63 = omega (arith, ints) in
    subst (λ name. IsKnown (named kind name)) same (some-id id ref.some, small)
known-name look kind (negsuc n) name ref e =
    let p = new-parts (look kind (negsuc n)) name e in
    subst (λ name. IsKnown (named kind name)) p.2 tt

pub op-known : (look : Look) (r : RawOp) (o : Op) → IsRawOp r → op_of look r ≡ Ok o → All IsKnown (names_given o)
op-known look r o is e = given look IsKnown (known-name look) r r.action r.content o is.id is.content e

-- -- versions

version-number : (v : Option ℕ) (n : ℕ) → MatchOption v ⊤ IsNumber → version_named v ≡ Ok n → IsNumber n
version-number None n is e = absurd (cc)
version-number (Some v) n is e = let same : v ≡ n = cc in subst IsNumber same is

versioned : (look : Look) (r : RawOp) (a : Action) (c : Option RawContent) (o : Op) → MatchOption r.version ⊤ IsNumber → HasContent a r.kind c → op_by look r a c ≡ Ok o → HasVersion o
versioned look r action.Create None o is has e = absurd has
versioned look r action.Create (Some c) o is has e =
    let from = created-from look r c o e in
    subst HasVersion from.is tt
versioned look r action.Modify None o is has e = absurd has
versioned look r action.Modify (Some c) o is has e =
    let from = modified-from look r c o e in
    subst HasVersion from.is (version-number r.version from.version is from.replaces)
versioned look r (action.Delete if_unused) c o is has e =
    let from = deleted-from look r if_unused o e in
    subst HasVersion from.is (version-number r.version from.version is from.replaces)

pub op-version : (look : Look) (r : RawOp) (o : Op) → IsRawOp r → op_of look r ≡ Ok o → HasVersion o
op-version look r o is e = versioned look r r.action r.content o is.version is.content e

-- -- placeholders

-- a placeholder that is free is the one that was given
pub record IsFree (look : Look) (kind : Kind) (id placeholder : ℤ) : Type 0 where
  pub same : placeholder ≡ id
  pub is : IsPlaceholder placeholder
  pub free : look kind id ≡ None

pub free-is : (look : Look) (kind : Kind) (id placeholder : ℤ) → IsReference id → free_placeholder look kind id ≡ Ok placeholder → IsFree look kind id placeholder
free-is look kind (pos id) placeholder ref e = absurd (cc)
free-is look kind (negsuc n) placeholder ref e = at (look kind (negsuc n)) refl
  where
    at : (found : Option ℕ) → look kind (negsuc n) ≡ found → IsFree look kind (negsuc n) placeholder
    at None free =
        let given : ◌≡◌ {A = Result ℤ Cause} (Ok (negsuc n)) (Ok placeholder) = sym (ap (λ f. cond (is_some f) (Err DoublePlaceholder) (Ok (negsuc n))) free) ∙ e in
        let same : negsuc n ≡ placeholder = cc in
        let low = ref.low in
        let is : IsPlaceholder (negsuc n) = record { low = low; negative = omega (arith, ints) } in
        record { same = sym same; is = subst IsPlaceholder same is; free = free }
    at (Some place) bound =
        let twice : ◌≡◌ {A = Result ℤ Cause} (Err DoublePlaceholder) (Ok placeholder) = sym (ap (λ f. cond (is_some f) (Err DoublePlaceholder) (Ok (negsuc n))) bound) ∙ e in
        absurd (cc)

placed : (look : Look) (r : RawOp) (a : Action) (c : Option RawContent) (o : Op) → IsReference r.id → HasContent a r.kind c → op_by look r a c ≡ Ok o → HasPlaceholder o
placed look r action.Create None o ref has e = absurd has
placed look r action.Create (Some c) o ref has e =
    let from = created-from look r c o e in
    subst HasPlaceholder from.is (free-is look r.kind r.id from.placeholder ref from.free).is
placed look r action.Modify None o ref has e = absurd has
placed look r action.Modify (Some c) o ref has e =
    let from = modified-from look r c o e in
    subst HasPlaceholder from.is tt
placed look r (action.Delete if_unused) c o ref has e =
    let from = deleted-from look r if_unused o e in
    subst HasPlaceholder from.is tt

pub op-placeholder : (look : Look) (r : RawOp) (o : Op) → IsRawOp r → op_of look r ≡ Ok o → HasPlaceholder o
op-placeholder look r o is e = placed look r r.action r.content o is.id is.content e

-- -- limits

each-length : {A B E : Type 0} (f : A → Result B E) (xs : List A) (ys : List B) → each f xs ≡ Ok ys → length ys ≡ length xs
each-length f [] ys e = let none : [] ≡ ys = cc in ap length (sym none)
each-length f (x ∷ xs) ys e =
    let step = bind-ok (f x) (λ y. cons_ok y (each f xs)) ys e in
    let more = cons-ok step.0 (each f xs) ys step.2 in
    ap length more.2 ∙ ap suc (each-length f xs more.0 more.1)

each-any : {A B E : Type 0} (f : A → Result B E) (p : A → Bool) (q : B → Bool) → ((x : A) (y : B) → f x ≡ Ok y → q y ≡ p x) → (xs : List A) (ys : List B) → each f xs ≡ Ok ys → list_any q ys ≡ list_any p xs
each-any f p q h [] ys e = let none : [] ≡ ys = cc in ap (list_any q) (sym none)
each-any f p q h (x ∷ xs) ys e =
    let step = bind-ok (f x) (λ y. cons_ok y (each f xs)) ys e in
    let more = cons-ok step.0 (each f xs) ys step.2 in
    ap (list_any q) more.2 ∙ ap (λ b. b || list_any q more.0) (h x step.0 step.1) ∙ ap (λ b. p x || b) (each-any f p q h xs more.0 more.1)

abbrev pub nodes-by : ℕ → Result (Unit {0}) LocalFault
nodes-by n = cond (eqb n 0) (Err WayEmpty) (cond (ltb WAY_LIMIT n) (Err WayLong) (Ok tt))

abbrev pub members-by : ℕ → Bool → Result (Unit {0}) LocalFault
members-by n long = cond (ltb RELATION_LIMIT n) (Err RelationLong) (cond long (Err Role) (Ok tt))

role-kept : (look : Look) (m : Member ℤ) (made : Member Name) → member_named look m ≡ Ok made → is_long made.role ≡ is_long m.role
role-kept look m made e =
    let step = bind-ok (name_of look m.kind m.name) (λ name. Ok (member_with m name)) made e in
    let same : member_with m step.0 ≡ made = let last = step.2 in cc in
    ap (λ (made : Member Name). is_long made.role) (sym same)

-- naming references changes nothing that the limits look at
checked-same : (look : Look) (c : RawContent) (made : Content Name) → content_named look c ≡ Ok made → check_named_content made ≡ check_content c
checked-same look (raw.Node lat7 lon7) made e =
    let same : content.Node (record { lat7 = lat7; lon7 = lon7 }) ≡ made = cc in
    ap check_named_content (sym same)
checked-same look (raw.Way nodes) made e =
    let step = bind-ok (each (name_of look Node) nodes) (λ names. Ok (content.Way names)) made e in
    let same : content.Way step.0 ≡ made = let last = step.2 in cc in
    ap check_named_content (sym same) ∙ ap nodes-by (each-length (name_of look Node) nodes step.0 step.1)
checked-same look (raw.Relation members) made e =
    let step = bind-ok (each (member_named look) members) (λ named. Ok (content.Relation named)) made e in
    let same : content.Relation step.0 ≡ made = let last = step.2 in cc in
    ap check_named_content (sym same)
    ∙ ap (λ n. members-by n (list_any (λ (m : Member Name). is_long m.role) step.0)) (each-length (member_named look) members step.0 step.1)
    ∙ ap (members-by (length members)) (each-any (member_named look) (λ m. is_long m.role) (λ m. is_long m.role) (role-kept look) members step.0 step.1)

none-local : (r : Result (Unit {0}) LocalFault) → local r ≡ None → r ≡ Ok tt
none-local (Ok done) e = refl
none-local (Err fault) e = absurd (cc)

within : (look : Look) (tags : List Tag) (c : RawContent) (made : Content Name) → content_named look c ≡ Ok made → local_cause tags c ≡ None → check_named tags made ≡ Ok tt
within look tags c made names e = ap (λ r. check_tags tags >>= (λ done. r)) (checked-same look c made names) ∙ none-local (check_parts tags c) e

limited : (look : Look) (r : RawOp) (a : Action) (c : Option RawContent) (o : Op) → HasContent a r.kind c → op_by look r a c ≡ Ok o → IsWithinLimits o
limited look r action.Create None o has e = absurd has
limited look r action.Create (Some c) o has e =
    let from = created-from look r c o e in
    subst IsWithinLimits from.is (within look r.tags c from.made from.names from.within)
limited look r action.Modify None o has e = absurd has
limited look r action.Modify (Some c) o has e =
    let from = modified-from look r c o e in
    subst IsWithinLimits from.is (within look r.tags c from.made from.names from.within)
limited look r (action.Delete if_unused) c o has e =
    let from = deleted-from look r if_unused o e in
    subst IsWithinLimits from.is tt

pub op-limits : (look : Look) (r : RawOp) (o : Op) → IsRawOp r → op_of look r ≡ Ok o → IsWithinLimits o
op-limits look r o is e = limited look r r.action r.content o is.content e
