-- What an operation's content lists, and what is laid by for operations one after the other.
use Rattle.std.proofs.Common.{◌≡◌, ℕ, ◌+◌, ◌<◌, ◌≤◌, List, [], ◌∷◌, ◌++◌, length, length-append, append_assoc, take, map, get_or, refl, sym, ap, ◌∙◌, subst, arith}
use Rattle.std.specs.Prelude.{if◌then◌else◌, fold}
use Rattle.std.proofs.lemmas.List.{take_more, length-take-le}
use Rattle.std.proofs.lemmas.List.Sums.{fold_more}
use Rattle.osm_base.specs.Key.{key_eq}
use Rattle.osm_base.specs.Place.{Position}
use Rattle.osm_base.specs.declared.keys.Kind.TheVariants as kind
use Rattle.osm_base.specs.declared.keys.Key.{Key}
use Rattle.osm_element.specs.Elements.{key, key_of_member}
use Rattle.osm_element.specs.declared.contents.Member.{Member}
use Rattle.osm_element.specs.declared.elements.Elements.{Elements}
use Rattle.osm_change.specs.Keys.{ids_after, id_of}
use Rattle.osm_change.specs.declared.operations.FirstIds.{FirstIds}
use Rattle.osm_change.specs.declared.operations.Name.{Name}
use Rattle.osm_change.specs.declared.operations.Op.{Op}
use Rattle.osm_model.specs.Names.{member_with_id}
use Rattle.history_store.specs.Store.{free}
use Rattle.reverse_refs.specs.Users.{free_in}
use Rattle.tile_grid.specs.Grid.{free_at}
use Rattle.indexed_map.specs.Indexed.{Stand, times_new}
use Rattle.indexed_map.specs.Placed.{enters}
use Rattle.osm_world.specs.Beds.{first_ids, place_of_op, IsBedOf, AreBedsOf, made, begun, entered}
use Rattle.osm_world.specs.declared.beds.Bed.{Bed}

pub nodes_named : (ks : List Key) (names : List Name) → map (λ name. key kind.Node (id_of ks name)) names ≡ map (key kind.Node) (map (id_of ks) names)
nodes_named ks [] = refl
nodes_named ks (n ∷ ns) = ap (λ (l : List Key). key kind.Node (id_of ks n) ∷ l) (nodes_named ks ns)

pub members_named : (ks : List Key) (ms : List (Member Name)) → map (λ m. key m.kind (id_of ks m.name)) ms ≡ map key_of_member (map (member_with_id ks) ms)
members_named ks [] = refl
members_named ks (m ∷ ms) = ap (λ (l : List Key). key m.kind (id_of ks m.name) ∷ l) (members_named ks ms)

-- -- one bed after the other

abbrev pub ids_after_all : FirstIds → List Op → FirstIds
ids_after_all ids ops = fold ids_after ids ops

abbrev pub keys_of : List Bed → List Key
keys_of bs = map (λ b. b.key) bs

pub beds_more :
    (ks : List Key) (ids : FirstIds) (ops : List Op) (bs : List Bed) (o : Op) (b : Bed)
    → length bs ≡ length ops
    → AreBedsOf ks ids ops bs
    → IsBedOf (ks ++ keys_of bs) (ids_after_all ids ops) o b
    → AreBedsOf ks ids (ops ++ o ∷ []) (bs ++ b ∷ [])
beds_more ks ids [] [] o b long so_far bed = (subst (λ (l : List Key). IsBedOf l ids o b) (append-nil ks) bed, tt)
  where
    append-nil : (l : List Key) → l ++ [] ≡ l
    append-nil [] = refl
    append-nil (x ∷ xs) = ap (λ (l : List Key). x ∷ l) (append-nil xs)
beds_more ks ids [] (c ∷ bs) o b long so_far bed = absurd (omega (arith, long))
beds_more ks ids (p ∷ ops) [] o b long so_far bed = absurd (omega (arith, long))
beds_more ks ids (p ∷ ops) (c ∷ bs) o b long so_far bed = (
  so_far.0,
  beds_more (ks ++ c.key ∷ []) (ids_after ids p) ops bs o b (omega (arith, long)) so_far.1
      (subst (λ (l : List Key). IsBedOf l (ids_after_all ids (p ∷ ops)) o b) (sym (append_assoc ks (c.key ∷ []) (keys_of bs))) bed),
)

pub made_more : (bs : List Bed) (b : Bed) (k : Key) → made (bs ++ b ∷ []) k ≡ made bs k + (if key_eq k b.key then 1 else 0)
made_more [] b k = omega arith
made_more (c ∷ bs) b k = let h = made_more bs b k in omega (arith, h)

pub begun_more : (E : Elements) (bs : List Bed) (b : Bed) (x : Key) → begun E (bs ++ b ∷ []) x ≡ begun E bs x + times_new E b.key b.listed x
begun_more E [] b x = omega arith
begun_more E (c ∷ bs) b x = let h = begun_more E bs b x in omega (arith, h)

-- what was laid by for the operations before a place, and what is promised for it
pub record IsPlanned (E : Elements) (w : Stand) (ids : FirstIds) (ks : List Key) (bs : List Bed) (ops : List Op) (i : ℕ) : Type 0 where
  pub same : w.elements ≡ E
  pub ids_are : ids ≡ ids_after_all (first_ids E) (take i ops)
  pub keys : ks ≡ keys_of bs
  pub long : length bs ≡ i
  pub beds : AreBedsOf [] (first_ids E) (take i ops) bs
  pub versions : (k : Key) → made bs k ≤ free w.versions k
  pub users : (b : Key) → begun E bs b ≤ free_in w.users b
  pub cells : (p : Position) → entered (take i ops) p ≤ free_at w.cells p

entered_more : (ops : List Op) (o : Op) (p : Position) → entered (ops ++ o ∷ []) p ≡ entered ops p + (if enters p (place_of_op o) then 1 else 0)
entered_more [] o p = omega arith
entered_more (x ∷ ops) o p = let h = entered_more ops o p in omega (arith, h)

pub planned_more :
    (E : Elements) (w v : Stand) (ids next : FirstIds) (ks more : List Key) (bs all : List Bed) (ops : List Op) (i : ℕ) (o : Op) (b : Bed)
    → i < length ops
    → o ≡ get_or ops i o
    → IsPlanned E w ids ks bs ops i
    → v.elements ≡ w.elements
    → next ≡ ids_after ids o
    → more ≡ ks ++ b.key ∷ []
    → all ≡ bs ++ b ∷ []
    → IsBedOf ks ids o b
    → ((k : Key) → free v.versions k ≡ free w.versions k + (if key_eq k b.key then 1 else 0))
    → ((x : Key) → free_in v.users x ≡ free_in w.users x + times_new w.elements b.key b.listed x)
    → ((p : Position) → free_at v.cells p ≡ free_at w.cells p + (if enters p (place_of_op o) then 1 else 0))
    → IsPlanned E v next more all ops (i + 1)
planned_more E w v ids next ks more bs all ops i o b within here p same_is next_is more_is all_is bed versions users cells =
    let cut : take (i + 1) ops ≡ take i ops ++ o ∷ [] = take_more ops i o within ∙ ap (λ (x : Op). take i ops ++ x ∷ []) (sym here) in
    let short : length bs ≡ length (take i ops) = p.long ∙ sym (length-take-le i ops (omega arith)) in
    let own : IsBedOf ([] ++ keys_of bs) (ids_after_all (first_ids E) (take i ops)) o b
    = subst (λ (l : List Key). IsBedOf l (ids_after_all (first_ids E) (take i ops)) o b) p.keys (subst (λ (n : FirstIds). IsBedOf ks n o b) p.ids_are bed) in
    let fits : List Op → List Bed → Type 0 = λ os cs. AreBedsOf [] (first_ids E) os cs in
    record {
      same = same_is ∙ p.same;
      ids_are = next_is
          ∙ ap (λ (n : FirstIds). ids_after n o) p.ids_are
          ∙ ap (λ (x : Op). ids_after (ids_after_all (first_ids E) (take i ops)) x) here
          ∙ sym (fold_more ids_after (first_ids E) ops i o within);
      keys = more_is ∙ ap (λ (l : List Key). l ++ b.key ∷ []) p.keys ∙ sym (ap keys_of all_is ∙ keys-more bs);
      long = ap length all_is ∙ length-append bs (b ∷ []) ∙ ap (λ (n : ℕ). n + 1) p.long;
      beds = subst (λ (cs : List Bed). fits (take (i + 1) ops) cs) (sym all_is) (subst (λ (os : List Op). fits os (bs ++ b ∷ [])) (sym cut) (beds_more [] (first_ids E) (take i ops) bs o b short p.beds own));
      versions = λ k. let more : made all k ≡ made bs k + (if key_eq k b.key then 1 else 0) = ap (λ (cs : List Bed). made cs k) all_is ∙ made_more bs b k in omega (arith, more, versions k, p.versions k);
      users = λ x.
          let more : begun E all x ≡ begun E bs x + times_new E b.key b.listed x = ap (λ (cs : List Bed). begun E cs x) all_is ∙ begun_more E bs b x in
          let same_new : times_new w.elements b.key b.listed x ≡ times_new E b.key b.listed x = ap (λ (F : Elements). times_new F b.key b.listed x) p.same in
          omega (arith, more, same_new, users x, p.users x);
      cells = λ q. let more : entered (take (i + 1) ops) q ≡ entered (take i ops) q + (if enters q (place_of_op o) then 1 else 0) = ap (λ (os : List Op). entered os q) cut ∙ entered_more (take i ops) o q in omega (arith, more, cells q, p.cells q);
    }
  where
    keys-more : (cs : List Bed) → keys_of (cs ++ b ∷ []) ≡ keys_of cs ++ b.key ∷ []
    keys-more [] = refl
    keys-more (c ∷ cs) = ap (λ (l : List Key). c.key ∷ l) (keys-more cs)
