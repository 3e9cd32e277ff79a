-- The users of an element that are of one kind.
use Rattle.std.proofs.Common.{◌≡◌, ℕ, zero, suc, Bool, true, false, cond, List, [], ◌∷◌, ◌++◌, length, append-nil, refl, ap, ◌∙◌}
use Rattle.std.specs.Prelude.{filter}
use Rattle.std.proofs.lemmas.List.Elements.{filter-append}
use Rattle.osm_base.specs.Key.{kind_eq}
use Rattle.osm_base.specs.declared.keys.Kind.{Kind}
use Rattle.osm_base.specs.declared.keys.Kind.TheVariants.{Node, Way, Relation}
use Rattle.osm_base.specs.declared.keys.Key.{Key}
use Rattle.osm_element.specs.Elements.{key, keys_to, histories, uses, users}
use Rattle.osm_element.specs.declared.elements.Elements.{Elements}

abbrev is_of : Kind → Key → Bool
is_of kind a = kind_eq a.kind kind

-- the keys of one kind that pass, of another kind or of the same
kept : (kind other : Kind) (p : Key → Bool) (e : Bool) → kind_eq other kind ≡ e → (n : ℕ) → filter (is_of kind) (filter p (keys_to other n)) ≡ cond e (filter p (keys_to other n)) []
kept kind other p true is zero = refl
kept kind other p false is zero = refl
kept kind other p e is (suc n) =
    ap (filter (is_of kind)) (filter-append p (keys_to other n) (key other (suc n) ∷ []))
    ∙ filter-append (is_of kind) (filter p (keys_to other n)) (filter p (key other (suc n) ∷ []))
    ∙ ap (λ (ks : List Key). ks ++ filter (is_of kind) (filter p (key other (suc n) ∷ []))) (kept kind other p e is n)
    ∙ last e is (p (key other (suc n)))
    ∙ ap (λ (ks : List Key). cond e ks []) (Rattle.std.proofs.Common.sym (filter-append p (keys_to other n) (key other (suc n) ∷ [])))
  where
    last : (e : Bool) → kind_eq other kind ≡ e → (b : Bool) → cond e (filter p (keys_to other n)) [] ++ filter (is_of kind) (cond b (key other (suc n) ∷ []) []) ≡ cond e (filter p (keys_to other n) ++ cond b (key other (suc n) ∷ []) []) []
    last true is true = ap (λ (k : Bool). filter p (keys_to other n) ++ cond k (key other (suc n) ∷ []) []) is
    last true is false = refl
    last false is true = ap (λ (k : Bool). cond k (key other (suc n) ∷ []) []) is
    last false is false = refl

pub users_of_one :
    (E : Elements) (kind : Kind) (k : Key)
    → filter (is_of kind) (users E k) ≡ filter (λ a. uses E a k) (keys_to kind (length (histories E kind)))
users_of_one E kind k =
    ap (filter (is_of kind)) (filter-append p ns (ws ++ rs) ∙ ap (λ (ks : List Key). filter p ns ++ ks) (filter-append p ws rs))
    ∙ filter-append (is_of kind) (filter p ns) (filter p ws ++ filter p rs)
    ∙ ap (λ (ks : List Key). filter (is_of kind) (filter p ns) ++ ks) (filter-append (is_of kind) (filter p ws) (filter p rs))
    ∙ by_kind kind
  where
    p : Key → Bool
    p a = uses E a k

    ns : List Key
    ns = keys_to Node (length E.nodes)

    ws : List Key
    ws = keys_to Way (length E.ways)

    rs : List Key
    rs = keys_to Relation (length E.relations)

    parts : (kind : Kind) (a b c : List Key) → filter (is_of kind) (filter p ns) ≡ a → filter (is_of kind) (filter p ws) ≡ b → filter (is_of kind) (filter p rs) ≡ c → filter (is_of kind) (filter p ns) ++ (filter (is_of kind) (filter p ws) ++ filter (is_of kind) (filter p rs)) ≡ a ++ (b ++ c)
    parts kind a b c x y z =
        ap (λ (ks : List Key). ks ++ (filter (is_of kind) (filter p ws) ++ filter (is_of kind) (filter p rs))) x
        ∙ ap (λ (ks : List Key). a ++ (ks ++ filter (is_of kind) (filter p rs))) y
        ∙ ap (λ (ks : List Key). a ++ (b ++ ks)) z

    by_kind : (kind : Kind) → filter (is_of kind) (filter p ns) ++ (filter (is_of kind) (filter p ws) ++ filter (is_of kind) (filter p rs)) ≡ filter p (keys_to kind (length (histories E kind)))
    by_kind Node = parts Node (filter p ns) [] [] (kept Node Node p true refl (length E.nodes)) (kept Node Way p false refl (length E.ways)) (kept Node Relation p false refl (length E.relations)) ∙ append-nil (filter p ns)
    by_kind Way = parts Way [] (filter p ws) [] (kept Way Node p false refl (length E.nodes)) (kept Way Way p true refl (length E.ways)) (kept Way Relation p false refl (length E.relations)) ∙ append-nil (filter p ws)
    by_kind Relation = parts Relation [] [] (filter p rs) (kept Relation Node p false refl (length E.nodes)) (kept Relation Way p false refl (length E.ways)) (kept Relation Relation p true refl (length E.relations))
