-- The least of the users, found kind by kind and id by id.
use Rattle.std.proofs.Common.{◌≡◌, ℕ, zero, suc, ◌+◌, ◌<◌, Bool, true, false, cond, ⊎_elim, List, [], ◌∷◌, ◌++◌, length, Some, None, refl, sym, ap, ◌∙◌, arith}
use Rattle.std.specs.Prelude.{filter, slice_get}
use Rattle.std.proofs.lemmas.Bool.{cases_lt}
use Rattle.std.proofs.lemmas.List.Elements.{filter-append}
use Rattle.osm_base.specs.declared.keys.Kind.{Kind}
use Rattle.osm_base.specs.declared.keys.Kind.TheVariants.{Node, Way, Relation}
use Rattle.osm_base.specs.declared.keys.Key.{Key}
use Rattle.osm_element.specs.declared.elements.Elements.{Elements}
use Rattle.osm_element.specs.Elements.{key, keys_to, uses, users, first_user}

first-append : {X : Type 0} (xs ys : List X) (x : X) → slice_get xs 0 ≡ Some x → slice_get (xs ++ ys) 0 ≡ Some x
first-append [] ys x first = cc
first-append (y ∷ xs) ys x first = first

-- one id more that doesn't pass
pub none_more :
    (p : Key → Bool) (kind : Kind) (n : ℕ)
    → filter p (keys_to kind n) ≡ []
    → p (key kind (n + 1)) ≡ false
    → filter p (keys_to kind (n + 1)) ≡ []
none_more p kind n none fails =
    let more : n + 1 ≡ suc n = omega arith in
    ap (λ (m : ℕ). filter p (keys_to kind m)) more
    ∙ filter-append p (keys_to kind n) (key kind (suc n) ∷ [])
    ∙ ap (λ (ks : List Key). ks ++ filter p (key kind (suc n) ∷ [])) none
    ∙ ap (λ (b : Bool). cond b (key kind (suc n) ∷ []) []) (ap (λ (m : ℕ). p (key kind m)) (sym more) ∙ fails)

-- the first that passes comes first
pub first_found :
    (p : Key → Bool) (kind : Kind) (place n : ℕ)
    → filter p (keys_to kind place) ≡ []
    → p (key kind (place + 1)) ≡ true
    → place < n
    → slice_get (filter p (keys_to kind n)) 0 ≡ Some (key kind (place + 1))
first_found p kind place zero none holds below = absurd (omega (arith, below))
first_found p kind place (suc n) none holds below =
    ap (λ (ks : List Key). slice_get ks 0) (filter-append p (keys_to kind n) (key kind (suc n) ∷ []))
    ∙ ⊎_elim
    (λ early. first-append (filter p (keys_to kind n)) (filter p (key kind (suc n) ∷ [])) (key kind (place + 1)) (first_found p kind place n none holds early))
    (λ late. let here : place ≡ n = omega (arith, below, late) in
    let same : place + 1 ≡ suc n = omega (arith, here) in
    ap (λ (ks : List Key). slice_get (ks ++ filter p (key kind (suc n) ∷ [])) 0) (sym (ap (λ (m : ℕ). filter p (keys_to kind m)) here) ∙ none)
    ∙ ap (λ (b : Bool). slice_get (cond b (key kind (suc n) ∷ []) []) 0) (sym (ap (λ (m : ℕ). p (key kind m)) same) ∙ holds)
    ∙ ap (λ (m : ℕ). Some (key kind m)) (sym same))
    (cases_lt place n)

first-skip : {X : Type 0} (xs ys : List X) → slice_get xs 0 ≡ None → slice_get (xs ++ ys) 0 ≡ slice_get ys 0
first-skip [] ys none = refl
first-skip (x ∷ xs) ys none = cc

-- the users of one kind
abbrev users_of : Elements → Key → Kind → ℕ → List Key
users_of E b kind n = filter (λ a. uses E a b) (keys_to kind n)

users-split : (E : Elements) (b : Key) → users E b ≡ users_of E b Node (length E.nodes) ++ (users_of E b Way (length E.ways) ++ users_of E b Relation (length E.relations))
users-split E b =
    filter-append (λ (a : Key). uses E a b) (keys_to Node (length E.nodes)) (keys_to Way (length E.ways) ++ keys_to Relation (length E.relations))
    ∙ ap (λ (ks : List Key). users_of E b Node (length E.nodes) ++ ks) (filter-append (λ (a : Key). uses E a b) (keys_to Way (length E.ways)) (keys_to Relation (length E.relations)))

pub first_is_node :
    (E : Elements) (b u : Key)
    → slice_get (users_of E b Node (length E.nodes)) 0 ≡ Some u
    → Some u ≡ first_user E b
first_is_node E b u node =
    sym (ap (λ (ks : List Key). slice_get ks 0) (users-split E b) ∙ first-append (users_of E b Node (length E.nodes)) (users_of E b Way (length E.ways) ++ users_of E b Relation (length E.relations)) u node)

pub first_is_way :
    (E : Elements) (b u : Key)
    → slice_get (users_of E b Node (length E.nodes)) 0 ≡ None
    → slice_get (users_of E b Way (length E.ways)) 0 ≡ Some u
    → Some u ≡ first_user E b
first_is_way E b u node way =
    sym (ap (λ (ks : List Key). slice_get ks 0) (users-split E b)
    ∙ first-skip (users_of E b Node (length E.nodes)) (users_of E b Way (length E.ways) ++ users_of E b Relation (length E.relations)) node
    ∙ first-append (users_of E b Way (length E.ways)) (users_of E b Relation (length E.relations)) u way)

pub first_is_relation :
    (E : Elements) (b : Key)
    → slice_get (users_of E b Node (length E.nodes)) 0 ≡ None
    → slice_get (users_of E b Way (length E.ways)) 0 ≡ None
    → slice_get (users_of E b Relation (length E.relations)) 0 ≡ first_user E b
first_is_relation E b node way =
    sym (ap (λ (ks : List Key). slice_get ks 0) (users-split E b)
    ∙ first-skip (users_of E b Node (length E.nodes)) (users_of E b Way (length E.ways) ++ users_of E b Relation (length E.relations)) node
    ∙ first-skip (users_of E b Way (length E.ways)) (users_of E b Relation (length E.relations)) way)
