-- The keys of all elements: those whose ids were given.
use Rattle.std.proofs.Common.{◌≡◌, ℕ, zero, suc, ◌+◌, Bool, true, false, ◌&&◌, ◌||◌, ◌++◌, length, refl, ap, ◌∙◌, arith}
use Rattle.std.specs.Prelude.{◌==◌, nat_lt}
use Rattle.std.proofs.lemmas.Bool.Decides.{nat_tests}
use Rattle.osm_base.specs.Key.{kind_eq, key_eq, lists_key}
use Rattle.osm_base.specs.declared.keys.Kind.{Kind}
use Rattle.osm_base.specs.declared.keys.Kind.TheVariants.{Node, Way, Relation}
use Rattle.osm_base.specs.declared.keys.Key.{Key}
use Rattle.osm_base.proofs.KeyLists.{lists-append, lists-push}
use Rattle.osm_element.specs.Elements.{key, keys_to, keys, next_id}
use Rattle.osm_element.specs.declared.elements.Elements.{Elements}

abbrev given : ℕ → ℕ → Bool
given n id = nat_lt 0 id && nat_lt id (n + 1)

lists-keys_to : (kind : Kind) (n : ℕ) (x : Key) → lists_key (keys_to kind n) x ≡ kind_eq kind x.kind && given n x.id
lists-keys_to kind zero x = none (kind_eq kind x.kind) x.id
  where
    none : (e : Bool) (id : ℕ) → false ≡ e && given 0 id
    none e id = grind (arith, nat_tests)
lists-keys_to kind (suc n) x =
    lists-push (keys_to kind n) (key kind (suc n)) x
    ∙ ap (λ (b : Bool). b || key_eq (key kind (suc n)) x) (lists-keys_to kind n x)
    ∙ one_more (kind_eq kind x.kind) n x.id
  where
    one_more : (e : Bool) (n id : ℕ) → (e && given n id) || (e && (suc n == id)) ≡ e && given (suc n) id
    one_more true n id = grind (arith, nat_tests)
    one_more false n id = refl

pub keys_given : (E : Elements) (x : Key) → lists_key (keys E) x ≡ nat_lt 0 x.id && nat_lt x.id (next_id E x.kind)
keys_given E x =
    lists-append (keys_to Node (length E.nodes)) (keys_to Way (length E.ways) ++ keys_to Relation (length E.relations)) x
    ∙ ap (λ (b : Bool). lists_key (keys_to Node (length E.nodes)) x || b) (lists-append (keys_to Way (length E.ways)) (keys_to Relation (length E.relations)) x)
    ∙ ap (λ (b : Bool). b || (lists_key (keys_to Way (length E.ways)) x || lists_key (keys_to Relation (length E.relations)) x)) (lists-keys_to Node (length E.nodes) x)
    ∙ ap (λ (b : Bool). (kind_eq Node x.kind && given (length E.nodes) x.id) || (b || lists_key (keys_to Relation (length E.relations)) x)) (lists-keys_to Way (length E.ways) x)
    ∙ ap (λ (b : Bool). (kind_eq Node x.kind && given (length E.nodes) x.id) || ((kind_eq Way x.kind && given (length E.ways) x.id) || b)) (lists-keys_to Relation (length E.relations) x)
    ∙ by_kind x.kind x.id
  where
    or-false : (b : Bool) → b || false ≡ b
    or-false true = refl
    or-false false = refl

    by_kind : (kind : Kind) (id : ℕ) → (kind_eq Node kind && given (length E.nodes) id) || ((kind_eq Way kind && given (length E.ways) id) || (kind_eq Relation kind && given (length E.relations) id)) ≡ nat_lt 0 id && nat_lt id (next_id E kind)
    by_kind Node id = or-false (given (length E.nodes) id)
    by_kind Way id = or-false (given (length E.ways) id)
    by_kind Relation id = refl
