-- The references of an accepted operation are visible.
use Rattle.std.proofs.Common.{◌≡◌, Bool, true, false, cond, ◌||◌, List, [], ◌∷◌, map, Some, None, Ok, Err, refl, sym, ap, ◌∙◌, ⊎_elim}
use Rattle.std.specs.Prelude.{Option, find, slice_get, option_and_then, ◌==◌, if◌then◌else◌}
use Rattle.std.specs.Option.{option_map_or}
use Rattle.std.proofs.lemmas.Bool.{cases_Bool, false≢true, not-false}
use Rattle.osm_base.specs.Key.{kind_eq, key_eq, lists_key}
use Rattle.osm_base.specs.declared.keys.Kind.{Kind}
use Rattle.osm_base.specs.declared.keys.Kind.TheVariants as kind
use Rattle.osm_base.specs.declared.keys.Key.{Key}
use Rattle.osm_base.proofs.KeyOrder.{kind_eq-same, key_eq-same}
use Rattle.osm_element.specs.Elements.{key, count, is_visible, refs, key_of_member}
use Rattle.osm_element.specs.declared.contents.Content.{Content}
use Rattle.osm_element.specs.declared.contents.Content.TheVariants.{Node, Way, Relation}
use Rattle.osm_element.specs.declared.contents.Member.{Member}
use Rattle.osm_change.specs.Change.{names_listed, named, named_member}
use Rattle.osm_change.specs.Keys.{id_of}
use Rattle.osm_change.specs.declared.operations.Name.{Name}
use Rattle.osm_change.specs.declared.operations.Referent.TheVariants.{Old, New}
use Rattle.osm_change.specs.declared.operations.Named.{Named}
use Rattle.osm_change.specs.declared.refusals.Refusal.{Refusal}
use Rattle.osm_model.specs.declared.uploads.Progress.{Progress}
use Rattle.osm_model.specs.Upload.{Upload}
use Rattle.osm_model.specs.Names.{of_kind, known_key, with_ids, member_with_id}
use Rattle.osm_model.specs.Operation.{is_missing, missing, references_visible}

-- the key that a name stands for
abbrev key_named : List Key → Named → Key
key_named ks r = key r.kind (id_of ks r.name)

new-known :
    (g : Progress) (k : Kind) (o : Option Key)
    → option_map_or (is_visible g.elements) (option_and_then (of_kind k) o) false ≡ true
    → is_visible g.elements (key k (option_map_or (λ x. x.id) o 0)) ≡ true
new-known g k None seen = cc
new-known g k (Some x) seen =
    ⊎_elim
    (λ t. ap (λ (kind : Kind). is_visible g.elements (key kind x.id)) (sym (kind_eq-same x.kind k t))
    ∙ sym (ap (λ (b : Bool). option_map_or (is_visible g.elements) (if b then Some x else None) false) t)
    ∙ seen)
    (λ f. absurd (false≢true (sym (ap (λ (b : Bool). option_map_or (is_visible g.elements) (if b then Some x else None) false) f) ∙ seen)))
    (cases_Bool (kind_eq x.kind k))

known-visible :
    (u : Upload) (g : Progress) (k : Kind) (name : Name)
    → is_missing u g (record { kind = k; name = name }) ≡ false
    → is_visible g.elements (key k (id_of g.keys name)) ≡ true
known-visible u g k (Old id) there =
    let seen = not-false (option_map_or (is_visible g.elements) (known_key u g k (Old id)) false) there in
    ⊎_elim
    (λ t. absurd (false≢true
    (sym (ap (λ (b : Bool). option_map_or (is_visible g.elements) (if b then None else Some (key k id)) false) t) ∙ seen)))
    (λ f. sym (ap (λ (b : Bool). option_map_or (is_visible g.elements) (if b then None else Some (key k id)) false) f) ∙ seen)
    (cases_Bool (count u.before (key k id) == 0))
known-visible u g k (New place) there =
    new-known g k (slice_get g.keys place) (not-false (option_map_or (is_visible g.elements) (known_key u g k (New place)) false) there)

named-visible :
    (u : Upload) (g : Progress) (rs : List Named) (b : Key)
    → find (is_missing u g) rs ≡ None
    → lists_key (map (key_named g.keys) rs) b ≡ true
    → is_visible g.elements b ≡ true
named-visible u g [] b none listed = cc
named-visible u g (r ∷ rs) b none listed =
    ⊎_elim
    (λ t. absurd (some-none r (sym (ap (λ (x : Bool). cond x (Some r) (find (is_missing u g) rs)) t) ∙ none)))
    (λ f. ⊎_elim
    (λ t. sym (ap (is_visible g.elements) (key_eq-same (key_named g.keys r) b t)) ∙ known-visible u g r.kind r.name f)
    (λ n. named-visible u g rs b
    (sym (ap (λ (x : Bool). cond x (Some r) (find (is_missing u g) rs)) f) ∙ none)
    (sym (ap (λ (x : Bool). x || lists_key (map (key_named g.keys) rs) b) n) ∙ listed))
    (cases_Bool (key_eq (key_named g.keys r) b)))
    (cases_Bool (is_missing u g r))
  where
    some-none : (r : Named) → ◌≡◌ {A = Option Named} (Some r) None → ⊥
    some-none r e = cc

refs-nodes :
    (ks : List Key) (nodes : List Name)
    → map (key kind.Node) (map (id_of ks) nodes) ≡ map (key_named ks) (map (named kind.Node) nodes)
refs-nodes ks [] = refl
refs-nodes ks (n ∷ ns) = ap (λ (rest : List Key). key kind.Node (id_of ks n) ∷ rest) (refs-nodes ks ns)

refs-members :
    (ks : List Key) (ms : List (Member Name))
    → map key_of_member (map (member_with_id ks) ms) ≡ map (key_named ks) (map named_member ms)
refs-members ks [] = refl
refs-members ks (m ∷ ms) = ap (λ (rest : List Key). key m.kind (id_of ks m.name) ∷ rest) (refs-members ks ms)

refs-with_ids : (ks : List Key) (content : Content Name) → refs (with_ids ks content) ≡ map (key_named ks) (names_listed content)
refs-with_ids ks (Node at) = refl
refs-with_ids ks (Way nodes) = refs-nodes ks nodes
refs-with_ids ks (Relation members) = refs-members ks members

passed-none :
    (o : Option Named) (f : Named → Refusal) (a : Unit {0})
    → option_map_or (λ r. Err (f r)) o (Ok tt) ≡ Ok a
    → o ≡ None
passed-none None f a e = refl
passed-none (Some r) f a e = cc

-- what a new content lists is visible, once its references were tested
pub references-visible :
    (u : Upload) (g : Progress) (content : Content Name) (a : Unit {0}) (b : Key)
    → references_visible u g content ≡ Ok a
    → lists_key (refs (with_ids g.keys content)) b ≡ true
    → is_visible g.elements b ≡ true
references-visible u g content a b passed listed =
    named-visible u g (names_listed content) b
    (passed-none (find (is_missing u g) (names_listed content)) (missing u g) a passed)
    (sym (ap (λ (ks : List Key). lists_key ks b) (refs-with_ids g.keys content)) ∙ listed)
