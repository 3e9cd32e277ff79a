-- An upload is under way: what was laid by serves what is left of it.
use Rattle.std.proofs.Common.{◌≡◌, ℕ, ◌+◌, ◌-◌, ◌<◌, ◌≤◌, Bool, true, false, refl, List, [], ◌∷◌, ◌++◌, length, drop, sym, ap, ◌∙◌, subst, arith, None}
use Rattle.std.specs.Prelude.{Option, if◌then◌else◌}
use Rattle.std.specs.Option.{ForSome}
use Rattle.std.proofs.lemmas.Bool.{eq-eqb, and_from, false≢true}
use Rattle.osm_base.specs.Key.{key_eq}
use Rattle.osm_base.specs.Place.{Area, Position}
use Rattle.osm_base.specs.Row.{Row}
use Rattle.osm_base.specs.declared.keys.Key.{Key}
use Rattle.osm_base.proofs.KeyOrder.{key_eq-refl}
use Rattle.osm_element.specs.Elements.{push_version}
use Rattle.osm_element.specs.declared.elements.Elements.{Elements}
use Rattle.osm_change.specs.declared.operations.Op.{Op}
use Rattle.changeset_core.specs.Changeset.{join_areas, touched_area}
use Rattle.changeset_core.specs.Kept.{Kept}
use Rattle.changeset_core.specs.declared.records.ChangesetRecord.{ChangesetRecord}
use Rattle.osm_model.specs.declared.uploads.Progress.{Progress}
use Rattle.history_store.specs.Store.{free}
use Rattle.reverse_refs.specs.Users.{free_in}
use Rattle.tile_grid.specs.Cell.{cell_of}
use Rattle.tile_grid.specs.Grid.{free_at, same_cell}
use Rattle.indexed_map.specs.Ever.{has_used}
use Rattle.indexed_map.specs.Indexed.{Stand, HasRoom, times_listed, times_new}
use Rattle.indexed_map.specs.Placed.{enters}
use Rattle.osm_world.specs.Beds.{first_ids, content_of_op, place_of_op, makes, version_of_op, AreBedsOf, made, begun, entered}
use Rattle.osm_world.specs.World.{Runs}
use Rattle.osm_world.specs.declared.beds.Bed.{Bed}
use Rattle.osm_world.proofs.Operations.{IsReached}
use Rattle.osm_world.proofs.Going.{IsGoing, begins, ready, goes_on, beds_next, entered_by}

abbrev pub Accepted : Elements → ℕ → ℕ → List Op → Type 0
Accepted E c t all = (final : Progress) × Runs E c t all final

abbrev pub Goes : Elements → ChangesetRecord → ℕ → ℕ → List Op → Elements → ChangesetRecord → Option Area → List Op → List Key → Type 0
Goes E r c t all F s area ops keys = (final : Progress) → Runs E c t all final → IsGoing E r c t all final F s area ops keys

pub record IsMidway (E : Elements) (r : ChangesetRecord) (c t : ℕ) (all : List Op) (w : Stand) (kept : Kept) (area : Option Area) (row : Row Key) (bs : List Bed) (rest : List Op) : Type 0 where
  pub beds : AreBedsOf row.items (first_ids w.elements) rest bs
  pub keys : length rest ≤ row.free
  pub versions : (k : Key) → made bs k ≤ free w.versions k
  pub users : (b : Key) → begun w.elements bs b ≤ free_in w.users b
  pub cells : (p : Position) → entered rest p ≤ free_at w.cells p
  pub work : length rest ≤ kept.free
  pub going : Goes E r c t all w.elements kept.kept area rest row.items

pub first :
    (c t : ℕ) (w : Stand) (kept : Kept) (keys : Row Key) (beds : List Bed) (all rest : List Op)
    → rest ≡ all
    → keys.items ≡ []
    → AreBedsOf [] (first_ids w.elements) all beds
    → length all ≤ keys.free
    → ((k : Key) → made beds k ≤ free w.versions k)
    → ((b : Key) → begun w.elements beds b ≤ free_in w.users b)
    → ((p : Position) → entered all p ≤ free_at w.cells p)
    → length all ≤ kept.free
    → IsMidway w.elements kept.kept c t all w kept None keys (drop (length keys.items) beds) rest
first c t w kept keys beds all rest same none fit places versions users cells work =
    let P : List Op → Type 0 = λ ops. IsMidway w.elements kept.kept c t all w kept None keys (drop (length keys.items) beds) ops in
    let Q : List Key → Type 0 = λ ks. IsMidway w.elements kept.kept c t all w kept None (record { items = ks; free = keys.free }) (drop (length ks) beds) all in
    subst P (sym same) (subst Q (sym none) (record {
      beds = fit;
      keys = places;
      versions = versions;
      users = users;
      cells = cells;
      work = work;
      going = λ final runs. begins w.elements kept.kept c t all final runs;
    }))

-- the element of the next operation
pub ready_for :
    (E : Elements) (r : ChangesetRecord) (c t : ℕ) (F : Elements) (s : ChangesetRecord) (area : Option Area) (all : List Op) (o : Op) (ops rest : List Op) (b : Bed) (bs beds : List Bed) (keys : List Key)
    → Accepted E c t all
    → rest ≡ o ∷ ops
    → beds ≡ b ∷ bs
    → AreBedsOf keys (first_ids F) rest beds
    → Goes E r c t all F s area rest keys
    → IsReached F b.key
ready_for E r c t F s area all o ops rest b bs beds keys accepted here bed fit going =
    let P : List Op → Type 0 = λ rest. AreBedsOf keys (first_ids F) rest (b ∷ bs) in
    let Q : List Bed → Type 0 = λ beds. AreBedsOf keys (first_ids F) rest beds in
    let G : List Op → Type 0 = λ rest. IsGoing E r c t all accepted.0 F s area rest keys in
    ready E r c t all accepted.0 F s area o ops keys b
    (subst G here (going accepted.0 accepted.1))
    (subst P here (subst Q bed fit)).0

-- the cell of the next operation's node
cell_for : (w : Stand) (o : Op) (ops : List Op) → ((p : Position) → entered (o ∷ ops) p ≤ free_at w.cells p) → ForSome (place_of_op o) (λ p. 0 < free_at w.cells p)
cell_for w o ops cells p is =
    let here : enters p (place_of_op o) ≡ true = ap (enters p) is ∙ own p in
    let some : ◌≡◌ {A = ℕ} (if enters p (place_of_op o) then 1 else 0) 1 = ap {B = ℕ} (λ (b : Bool). if b then 1 else 0) here in
    omega (arith, cells p, some)
  where
    own : (p : Position) → same_cell p p ≡ true
    own p = and_from _ _ (eq-eqb (cell_of p).row (cell_of p).row refl) (eq-eqb (cell_of p).column (cell_of p).column refl)

pub room_for :
    (w : Stand) (b : Bed) (bs beds : List Bed) (o : Op) (ops rest : List Op)
    → rest ≡ o ∷ ops
    → beds ≡ b ∷ bs
    → ((k : Key) → made beds k ≤ free w.versions k)
    → ((x : Key) → begun w.elements beds x ≤ free_in w.users x)
    → ((p : Position) → entered rest p ≤ free_at w.cells p)
    → HasRoom w b.key b.listed (place_of_op o)
room_for w b bs beds o ops rest here bed versions users cells = record {
  version = let own : made beds b.key ≡ 1 + made bs b.key
      = ap (λ (l : List Bed). made l b.key) bed ∙ ap (λ (p : Bool). (if p then 1 else 0) + made bs b.key) (key_eq-refl b.key) in
      omega (arith, own, versions b.key);
  users = λ x. let own : begun w.elements beds x ≡ times_new w.elements b.key b.listed x + begun w.elements bs x = ap (λ (l : List Bed). begun w.elements l x) bed in omega (arith, own, users x);
  cell = cell_for w o ops (subst (λ (l : List Op). (p : Position) → entered l p ≤ free_at w.cells p) here cells);
}

-- what was used is used still by some version, so what is begun grows less
begun_less : (E F : Elements) (bs : List Bed) (x : Key) → ((a b : Key) → has_used E a b ≡ true → has_used F a b ≡ true) → begun F bs x ≤ begun E bs x
begun_less E F [] x ever = omega arith
begun_less E F (b ∷ bs) x ever =
    let less : times_new F b.key b.listed x ≤ times_new E b.key b.listed x = new_less (has_used E b.key x) (has_used F b.key x) (times_listed b.listed x) (ever b.key x) in
    let later : begun F bs x ≤ begun E bs x = begun_less E F bs x ever in
    omega (arith, less, later)
  where
    new_less : (p q : Bool) (n : ℕ) → (p ≡ true → q ≡ true) → (if q then 0 else n) ≤ (if p then 0 else n)
    new_less p true n still = omega arith
    new_less true false n still = absurd (false≢true (still refl))
    new_less false false n still = omega arith

-- after the next operation
pub next :
    (E : Elements) (r : ChangesetRecord) (c t : ℕ) (all : List Op) (w v : Stand) (kept entered_in : Kept) (area wide touched : Option Area) (keys more : Row Key) (b : Bed) (bs : List Bed) (o : Op) (ops : List Op)
    → Accepted E c t all
    → IsMidway E r c t all w kept area keys (b ∷ bs) (o ∷ ops)
    → more ≡ record { items = keys.items ++ b.key ∷ []; free = keys.free - 1 }
    → v.elements ≡ (if makes w.elements b.key o then push_version w.elements b.key (version_of_op c t keys.items o) else w.elements)
    → entered_in.kept ≡ entered_by (makes w.elements b.key o) w.elements b.key kept.kept
    → touched ≡ (if makes w.elements b.key o then touched_area w.elements b.key (content_of_op keys.items o) else None)
    → wide ≡ join_areas area touched
    → ((k : Key) → free w.versions k ≤ free v.versions k + (if key_eq k b.key then 1 else 0))
    → ((x : Key) → free_in w.users x ≤ free_in v.users x + times_new w.elements b.key b.listed x)
    → ((p : Position) → free_at w.cells p ≤ free_at v.cells p + (if enters p (place_of_op o) then 1 else 0))
    → ((x y : Key) → has_used w.elements x y ≡ true → has_used v.elements x y ≡ true)
    → kept.free ≤ entered_in.free + 1
    → IsMidway E r c t all v entered_in wide more bs ops
next E r c t all w v kept entered_in area wide touched keys more b bs o ops accepted mid pushed elements entered_is touches widened versions users cells ever work =
    let on = λ (final : Progress) (runs : Runs E c t all final). goes_on E r c t all final w.elements v.elements kept.kept entered_in.kept area wide touched o ops keys.items b (mid.going final runs) mid.beds.0 elements entered_is touches widened in
    let N : Row Key → Type 0 = λ more. IsMidway E r c t all v entered_in wide more bs ops in
    subst N (sym pushed) (record {
      beds = beds_next keys.items w.elements v.elements o ops b bs mid.beds (on accepted.0 accepted.1).ids;
      keys = omega (arith, mid.keys);
      versions = λ k. omega (arith, mid.versions k, versions k);
      users = λ x. omega (arith, mid.users x, users x, begun_less w.elements v.elements bs x ever);
      cells = λ p. omega (arith, mid.cells p, cells p);
      work = omega (arith, mid.work, work);
      going = λ final runs. (on final runs).going;
    })
