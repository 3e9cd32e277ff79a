-- A key more among keys by their kinds.
use Rattle.std.proofs.Common.{◌≡◌, Bool, true, false, ◌||◌, List, ◌++◌, refl, sym, ap, ◌∙◌}
use Rattle.osm_base.specs.Key.{key_eq, lists_key}
use Rattle.osm_base.specs.declared.keys.Key.{Key}
use Rattle.osm_base.proofs.KeyLists.{lists-append}

-- a key more, in whatever order
abbrev Adds : Key → List Key → List Key → Type 0
Adds a old new = (k : Key) → lists_key new k ≡ lists_key old k || key_eq a k

lists-four : (n w r o : List Key) (k : Key) → lists_key (((n ++ w) ++ r) ++ o) k ≡ ((lists_key n k || lists_key w k) || lists_key r k) || lists_key o k
lists-four n w r o k =
    lists-append ((n ++ w) ++ r) o k
    ∙ ap (λ (b : Bool). b || lists_key o k) (lists-append (n ++ w) r k ∙ ap (λ (b : Bool). b || lists_key r k) (lists-append n w k))

nodes-last : (n w r o : Bool) → ((n || w) || r) || o ≡ w || (r || (n || o))
nodes-last true true r o = refl
nodes-last true false true o = refl
nodes-last true false false o = refl
nodes-last false true r o = refl
nodes-last false false r o = refl

ways-last : (n w r o : Bool) → ((n || w) || r) || o ≡ n || (r || (w || o))
ways-last true w r o = refl
ways-last false true true o = refl
ways-last false true false o = refl
ways-last false false r o = refl

relations-last : (n w r o : Bool) → ((n || w) || r) || o ≡ n || (w || (r || o))
relations-last true w r o = refl
relations-last false true r o = refl
relations-last false false r o = refl

beside : (p q was a now : Bool) → now ≡ was || a → p || (q || now) ≡ (p || (q || was)) || a
beside true q was a now added = refl
beside false true was a now added = refl
beside false false was a now added = added

joined : (a : Key) (x y x2 y2 : List Key) (k : Key) → Adds a (x ++ y) (x2 ++ y2) → (lists_key x2 k || lists_key y2 k) ≡ (lists_key x k || lists_key y k) || key_eq a k
joined a x y x2 y2 k adds = sym (lists-append x2 y2 k) ∙ adds k ∙ ap (λ (b : Bool). b || key_eq a k) (lists-append x y k)

pub in_nodes : (a : Key) (n w r o n2 o2 : List Key) → Adds a (n ++ o) (n2 ++ o2) → Adds a (((n ++ w) ++ r) ++ o) (((n2 ++ w) ++ r) ++ o2)
in_nodes a n w r o n2 o2 adds = λ k.
    lists-four n2 w r o2 k
    ∙ nodes-last (lists_key n2 k) (lists_key w k) (lists_key r k) (lists_key o2 k)
    ∙ beside (lists_key w k) (lists_key r k) (lists_key n k || lists_key o k) (key_eq a k) (lists_key n2 k || lists_key o2 k) (joined a n o n2 o2 k adds)
    ∙ ap (λ (b : Bool). b || key_eq a k) (sym (lists-four n w r o k ∙ nodes-last (lists_key n k) (lists_key w k) (lists_key r k) (lists_key o k)))

pub in_ways : (a : Key) (n w r o w2 o2 : List Key) → Adds a (w ++ o) (w2 ++ o2) → Adds a (((n ++ w) ++ r) ++ o) (((n ++ w2) ++ r) ++ o2)
in_ways a n w r o w2 o2 adds = λ k.
    lists-four n w2 r o2 k
    ∙ ways-last (lists_key n k) (lists_key w2 k) (lists_key r k) (lists_key o2 k)
    ∙ beside (lists_key n k) (lists_key r k) (lists_key w k || lists_key o k) (key_eq a k) (lists_key w2 k || lists_key o2 k) (joined a w o w2 o2 k adds)
    ∙ ap (λ (b : Bool). b || key_eq a k) (sym (lists-four n w r o k ∙ ways-last (lists_key n k) (lists_key w k) (lists_key r k) (lists_key o k)))

pub in_relations : (a : Key) (n w r o r2 o2 : List Key) → Adds a (r ++ o) (r2 ++ o2) → Adds a (((n ++ w) ++ r) ++ o) (((n ++ w) ++ r2) ++ o2)
in_relations a n w r o r2 o2 adds = λ k.
    lists-four n w r2 o2 k
    ∙ relations-last (lists_key n k) (lists_key w k) (lists_key r2 k) (lists_key o2 k)
    ∙ beside (lists_key n k) (lists_key w k) (lists_key r k || lists_key o k) (key_eq a k) (lists_key r2 k || lists_key o2 k) (joined a r o r2 o2 k adds)
    ∙ ap (λ (b : Bool). b || key_eq a k) (sym (lists-four n w r o k ∙ relations-last (lists_key n k) (lists_key w k) (lists_key r k) (lists_key o k)))
