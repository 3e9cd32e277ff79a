-- What was shown, by kind.
use Rattle.std.proofs.Common.{◌≡◌, Bool, true, false, ◌&&◌, ⊎_elim, List, [], length, append-nil, refl, sym, ap, ◌∙◌, subst}
use Rattle.std.specs.Prelude.{filter}
use Rattle.std.proofs.lemmas.Bool.{false≢true, cases_Bool}
use Rattle.osm_base.specs.Key.{kind_eq, lists_key, IsRising}
use Rattle.osm_base.specs.declared.keys.Key.{Key}
use Rattle.osm_base.specs.declared.keys.Kind.{Kind}
use Rattle.osm_base.specs.declared.keys.Kind.TheVariants.{Node, Way, Relation}
use Rattle.osm_base.proofs.KeyLists.{lists-filter, rising-filter, rising-same}
use Rattle.osm_base.proofs.KeyOrder.{kind_eq-same}
use Rattle.osm_element.specs.Elements.{histories, keys_to, count, is_visible}
use Rattle.osm_element.specs.declared.elements.Elements.{Elements}
use Rattle.osm_element.proofs.Used.{rising-keys, keys_to-has, keys_to-only}
use Rattle.osm_model.specs.Past.{is_last_shown}
use Rattle.osm_model.specs.PastMap.{keys_of}
use Rattle.osm_model.specs.Reads.{is_shown}
use Rattle.osm_model.proofs.Gathered.{visible-given}

first : (p q : Bool) → p && q ≡ true → p ≡ true
first true q h = refl
first false q h = cc

pub shown-visible : (E : Elements) (x : Key) → is_last_shown E x ≡ true → is_visible E x ≡ true
shown-visible E x shown = first (is_visible E x) (is_shown E x false (count E x)) shown

-- what is shown has a key of its kind
pub kind-listed : (E : Elements) (kind : Kind) (x : Key) → is_last_shown E x ≡ true → lists_key (keys_of E kind) x ≡ kind_eq x.kind kind
kind-listed E kind x shown = ⊎_elim (λ t. there (kind_eq-same x.kind kind t) ∙ sym t) (λ f. other (lists_key (keys_of E kind) x) refl f ∙ sym f) (cases_Bool (kind_eq x.kind kind))
  where
    there : x.kind ≡ kind → lists_key (keys_of E kind) x ≡ true
    there same =
        let given = visible-given E x (shown-visible E x shown) in
        subst (λ (k : Kind). lists_key (keys_to k (length (histories E k))) x ≡ true) same (keys_to-has x.kind (length (histories E x.kind)) x.id given.0 given.1)

    itself : (k : Kind) → kind_eq k k ≡ true
    itself Node = refl
    itself Way = refl
    itself Relation = refl

    other : (b : Bool) → lists_key (keys_of E kind) x ≡ b → kind_eq x.kind kind ≡ false → b ≡ false
    other false listed f = refl
    other true listed f =
        let same : x.kind ≡ kind = (keys_to-only kind (length (histories E kind)) x listed).0 in
        absurd (false≢true (sym f ∙ ap (λ (k : Kind). kind_eq k kind) same ∙ itself kind))

rising-keys_of : (E : Elements) (kind : Kind) → IsRising (keys_of E kind)
rising-keys_of E Node =
    subst (λ (ks : List Key). IsRising ks) (append-nil (keys_to Node (length E.nodes))) (rising-keys (record { nodes = E.nodes; ways = []; relations = [] }))
rising-keys_of E Way =
    subst (λ (ks : List Key). IsRising ks) (append-nil (keys_to Way (length E.ways))) (rising-keys (record { nodes = []; ways = E.ways; relations = [] }))
rising-keys_of E Relation = rising-keys (record { nodes = []; ways = []; relations = E.relations })

-- a list in order that has all that passes and is shown, filtered
pub kind-filter-are :
    (E : Elements) (kind : Kind) (q : Key → Bool) (near : List Key)
    → IsRising near
    → ((x : Key) → is_last_shown E x ≡ true → q x ≡ true → lists_key near x ≡ kind_eq x.kind kind)
    → filter (λ k. is_last_shown E k && q k) near ≡ filter (λ k. is_last_shown E k && q k) (keys_of E kind)
kind-filter-are E kind q near up has =
    rising-same (filter p near) (filter p (keys_of E kind)) (rising-filter near p up) (rising-filter (keys_of E kind) p (rising-keys_of E kind))
    (λ x. lists-filter near p x ∙ along x (is_last_shown E x) (q x) refl refl ∙ sym (lists-filter (keys_of E kind) p x))
  where
    p : Key → Bool
    p k = is_last_shown E k && q k

    and-false : (b c : Bool) → b && false ≡ c && false
    and-false true true = refl
    and-false true false = refl
    and-false false true = refl
    and-false false false = refl

    along : (x : Key) (s b : Bool) → is_last_shown E x ≡ s → q x ≡ b → lists_key near x && (s && b) ≡ lists_key (keys_of E kind) x && (s && b)
    along x true true shown passes = ap (λ (c : Bool). c && true) (has x shown passes ∙ sym (kind-listed E kind x shown))
    along x true false shown passes = and-false (lists_key near x) (lists_key (keys_of E kind) x)
    along x false b shown passes = and-false (lists_key near x) (lists_key (keys_of E kind) x)
