-- In operations that were read each name of a created element stands after its creation.
use Rattle.std.proofs.Common.{◌≡◌, ℕ, ◌^◌, ◌<◌, true, List, [], ◌∷◌, take, map, Option, Some, None, ℤ, pos, negsuc, Result, Ok, sym, ap, ◌∙◌, subst, arith, true≢false, slice_get}
use Rattle.std.specs.Prelude.{All, MatchOption, ⊤}
use Rattle.std.proofs.lemmas.Int.{ints}
use Rattle.std.proofs.lemmas.List.Elements.{All-nil, All-cons, All-head, All-tail}
use Rattle.std.proofs.lemmas.Bool.{and_parts}
use Rattle.osm_base.specs.Key.{kind_eq}
use Rattle.osm_base.specs.declared.keys.Kind.{Kind}
use Rattle.osm_base.specs.declared.keys.Kind.TheVariants.{Node, Way, Relation}
use Rattle.osm_base.proofs.KeyOrder.{kind_eq-same}
use Rattle.osm_element.specs.declared.contents.Content.{Content}
use Rattle.osm_element.specs.declared.contents.Content.TheVariants as content
use Rattle.osm_element.specs.declared.contents.RawContent.{RawContent}
use Rattle.osm_element.specs.declared.contents.RawContent.TheVariants as raw
use Rattle.osm_element.specs.declared.contents.Member.{Member}
use Rattle.osm_change.specs.Outcome.{each, cons_ok}
use Rattle.osm_change.specs.Change.{kind_of, named, named_member, names_listed, names_given, created_kind, IsNamedBefore}
use Rattle.osm_change.specs.Build.{Look, is_create, creates, created_at, name_of, member_with, member_named, content_named, op_by, operations_after, IsReference, IsRawContent, HasContent, IsRawOp}
use Rattle.osm_change.proofs.Built.{bind-ok, cons-ok, created-from, modified-from, deleted-from, built-at, built-of, position-at, taken, raw-at, new-parts}
use Rattle.osm_change.specs.declared.raw.Action.{Action}
use Rattle.osm_change.specs.declared.raw.Action.TheVariants as action
use Rattle.osm_change.specs.declared.raw.RawOp.{RawOp}
use Rattle.osm_change.specs.declared.operations.Name.{Name}
use Rattle.osm_change.specs.declared.operations.Referent.TheVariants.{Old, New}
use Rattle.osm_change.specs.declared.operations.Named.{Named}
use Rattle.osm_change.specs.declared.operations.Op.{Op}

-- what holds of what each item gives
each-all : {A B E : Type 0} (f : A → Result B E) (P : A → Type 0) (Q : Named → Type 0) (g : B → Named) → ((x : A) (y : B) → P x → f x ≡ Ok y → Q (g y)) → (xs : List A) (ys : List B) → All P xs → each f xs ≡ Ok ys → All Q (map g ys)
each-all f P Q g h [] ys all e = let none : [] ≡ ys = cc in subst (λ ys. All Q (map g ys)) none (All-nil Q)
each-all f P Q g h (x ∷ xs) ys all e =
    let step = bind-ok (f x) (λ y. cons_ok y (each f xs)) ys e in
    let more = cons-ok step.0 (each f xs) ys step.2 in
    let rest = each-all f P Q g h xs more.0 (All-tail P x xs all) more.1 in
    subst (λ ys. All Q (map g ys)) (sym more.2) (All-cons Q (g step.0) (map g more.0) (h x step.0 (All-head P x xs all) step.1) rest)

-- each name of an operation that was read has what the names of references have
module _ (look : Look) (Q : Named → Type 0) (each-name : (kind : Kind) (id : ℤ) (name : Name) → IsReference id → name_of look kind id ≡ Ok name → Q (named kind name)) where
  listed : (kind : Kind) (c : RawContent) (made : Content Name) → IsRawContent kind c → content_named look c ≡ Ok made → (kind_of made ≡ kind) × All Q (names_listed made)
  listed Node (raw.Node lat7 lon7) made is e =
      let same : content.Node (record { lat7 = lat7; lon7 = lon7 }) ≡ made = cc in
      (ap kind_of (sym same), subst (λ made. All Q (names_listed made)) same (All-nil Q))
  listed Node (raw.Way nodes) made is e = absurd is
  listed Node (raw.Relation members) made is e = absurd is
  listed Way (raw.Node lat7 lon7) made is e = absurd is
  listed Way (raw.Way nodes) made is e =
      let step = bind-ok (each (name_of look Node) nodes) (λ names. Ok (content.Way names)) made e in
      let same : content.Way step.0 ≡ made = let last = step.2 in cc in
      let all = each-all (name_of look Node) IsReference Q (named Node) (λ id name ref ok. each-name Node id name ref ok) nodes step.0 is step.1 in
      (ap kind_of (sym same), subst (λ made. All Q (names_listed made)) same all)
  listed Way (raw.Relation members) made is e = absurd is
  listed Relation (raw.Node lat7 lon7) made is e = absurd is
  listed Relation (raw.Way nodes) made is e = absurd is
  listed Relation (raw.Relation members) made is e =
      let step = bind-ok (each (member_named look) members) (λ named. Ok (content.Relation named)) made e in
      let same : content.Relation step.0 ≡ made = let last = step.2 in cc in
      let all = each-all (member_named look) (λ m. IsReference m.name) Q named_member one members step.0 is step.1 in
      (ap kind_of (sym same), subst (λ made. All Q (names_listed made)) same all)
    where
      one : (m : Member ℤ) (made : Member Name) → IsReference m.name → member_named look m ≡ Ok made → Q (named_member made)
      one m made ref ok =
          let step = bind-ok (name_of look m.kind m.name) (λ name. Ok (member_with m name)) made ok in
          let same : member_with m step.0 ≡ made = let last = step.2 in cc in
          subst (λ made. Q (named_member made)) same (each-name m.kind m.name step.0 ref step.1)

  pub given : (r : RawOp) (a : Action) (c : Option RawContent) (o : Op) → IsReference r.id → HasContent a r.kind c → op_by look r a c ≡ Ok o → All Q (names_given o)
  given r action.Create None o ref has e = absurd has
  given r action.Create (Some c) o ref has e =
      let from = created-from look r c o e in
      let all = listed r.kind c from.made has from.names in
      subst (λ o. All Q (names_given o)) from.is all.1
  given r action.Modify None o ref has e = absurd has
  given r action.Modify (Some c) o ref has e =
      let from = modified-from look r c o e in
      let all = listed r.kind c from.made has from.names in
      let own : Q (named (kind_of from.made) from.name) = subst (λ kind. Q (named kind from.name)) (sym all.0) (each-name r.kind r.id from.name ref from.own) in
      subst (λ o. All Q (names_given o)) from.is (All-cons Q (named (kind_of from.made) from.name) (names_listed from.made) own all.1)
  given r (action.Delete if_unused) c o ref has e =
      let from = deleted-from look r if_unused o e in
      subst (λ o. All Q (names_given o)) from.is (All-cons Q (named r.kind from.name) [] (each-name r.kind r.id from.name ref from.own) (All-nil Q))

any-name : (look : Look) (kind : Kind) (id : ℤ) (name : Name) → IsReference id → name_of look kind id ≡ Ok name → ⊤
any-name look kind id name ref ok = tt

-- a create makes an element of its kind
pub makes : (look : Look) (r : RawOp) (a : Action) (c : Option RawContent) (o : Op) → HasContent a r.kind c → op_by look r a c ≡ Ok o → is_create a ≡ true → created_kind o ≡ Some r.kind
makes look r action.Create None o has e create = absurd has
makes look r action.Create (Some c) o has e create =
    let from = created-from look r c o e in
    let all = listed look (λ _. ⊤) (any-name look) r.kind c from.made has from.names in
    ap created_kind (sym from.is) ∙ ap Some all.0
makes look r action.Modify c o has e create = absurd (true≢false (sym create))
makes look r (action.Delete if_unused) c o has e create = absurd (true≢false (sym create))

module _ (whole : List RawOp) (ops : List Op) (raw : All IsRawOp whole) (built : operations_after [] whole ≡ Ok ops) (n : ℕ) where
  new-before : (kind : Kind) (id : ℤ) (p : ℕ) → created_at (take n whole) kind id ≡ Some p → IsNamedBefore ops n (named kind (New p))
  new-before kind id p found =
      let at = position-at (creates kind id) (take n whole) p found in
      let there = taken whole n p at.0 at.1 in
      let r = at.0 in
      let tests = and_parts (is_create r.action) _ at.2 in
      let more = and_parts (kind_eq r.kind kind) _ tests.1 in
      let same = kind_eq-same r.kind kind more.0 in
      let o = built-of [] whole ops built p r there.1 in
      let has = (raw-at whole p r raw there.1).content in
      let made = makes (created_at (take p whole)) r r.action r.content o.0 has o.2 tests.0 in
      let P : Option Op → Type 0 = λ o. MatchOption o ⊥ (λ o. created_kind o ≡ Some kind) in
      (there.0, subst P (sym o.1) (made ∙ ap Some same))

  name-before : (kind : Kind) (id : ℤ) (name : Name) → IsReference id → name_of (created_at (take n whole)) kind id ≡ Ok name → IsNamedBefore ops n (named kind name)
  name-before kind (pos id) name ref e =
      let same : Old id ≡ name = cc in
      let high = ref.high in
      let small : id < 2 ^ 63 = omega (arith, ints) in
      subst (λ name. IsNamedBefore ops n (named kind name)) same small
  name-before kind (negsuc k) name ref e =
      let p = new-parts (created_at (take n whole) kind (negsuc k)) name e in
      subst (λ name. IsNamedBefore ops n (named kind name)) p.2 (new-before kind (negsuc k) p.0 p.1)

  pub named-before : (o : Op) → slice_get ops n ≡ Some o → All (IsNamedBefore ops n) (names_given o)
  named-before o at =
      let b = built-at [] whole ops built n o at in
      let r = b.0 in
      let is = raw-at whole n r raw b.1 in
      given (created_at (take n whole)) (IsNamedBefore ops n) name-before r r.action r.content o is.id is.content b.2
