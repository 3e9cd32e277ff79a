-- What an accepted upload leaves in its changeset.
use Rattle.std.proofs.Common.{◌≡◌, ℕ, zero, suc, ⊎_elim, ◌+◌, ◌-◌, ◌<◌, ◌≤◌, Bool, true, false, append-nil, refl, List, [], ◌∷◌, ◌++◌, length, length-append, None, Some, sym, ap, ◌∙◌, arith}
use Rattle.std.specs.Prelude.{Option, slice_get, slice_set, slice_index, nat_lt, not, ◌==◌, if◌then◌else◌}
use Rattle.std.specs.Option.{option_map_or}
use Rattle.std.proofs.lemmas.Bool.{cases_lt}
use Rattle.std.proofs.lemmas.Bool.Decides.{nat_tests}
use Rattle.osm_base.specs.Place.{Area}
use Rattle.osm_element.specs.declared.elements.Elements.{Elements}
use Rattle.changeset_core.specs.Changeset.{join_areas, worked_by}
use Rattle.changeset_core.specs.Kept.{Kept}
use Rattle.changeset_core.specs.declared.records.ChangesetRecord.{ChangesetRecord}
use Rattle.changeset_core.specs.declared.records.Work.{Work}
use Rattle.osm_model.specs.Fold.{uploaded, works}
use Rattle.osm_model.specs.State.{HasChangeset, changeset, with_record}
use Rattle.osm_model.specs.declared.states.State.{State}
use Rattle.osm_model.specs.declared.uploads.Progress.{Progress}
use Rattle.osm_world.specs.Records.{records, ids, AreNumbered}
use Rattle.osm_world.specs.World.{IsDone}
use Rattle.osm_world.proofs.Replaced.{IsPut, index-told, length-told, put-is, told}

-- its id
pub id_is : (ks : List Kept) (c : ℕ) (k : Kept) → AreNumbered ks → 0 < c → c ≤ length ks → slice_get ks (c - 1) ≡ Some k → k.id ≡ c
id_is ks c k numbered counted within at =
    let place : c - 1 < length ks = omega (arith, counted, within) in
    let one : slice_index (ids ks) (c - 1) ≡ c - 1 + 1 = numbered (c - 1) place in
    let own : slice_index (ids ks) (c - 1) ≡ k.id = index-told (λ (x : Kept). x.id) ks (c - 1) k at in
    omega (arith, one, own, counted)

-- there are as many changesets as records
pub there_in : (ks : List Kept) (c : ℕ) → c ≤ length (records ks) → c ≤ length ks
there_in ks c within = omega (arith, length-told (λ (x : Kept). x.kept) ks)

-- the numbers stay where the ids do
pub numbered_same : (old new : List Kept) → ids new ≡ ids old → AreNumbered old → AreNumbered new
numbered_same old new same numbered i within =
    let long : length new ≡ length old = sym (length-told (λ (x : Kept). x.id) new) ∙ ap length same ∙ length-told (λ (x : Kept). x.id) old in
    let below : i < length old = omega (arith, within, long) in
    ap (λ (l : List ℕ). slice_index l i) same ∙ numbered i below

-- one more at the end has the next number
pub numbered_push : (ks : List Kept) (k : Kept) → k.id ≡ length ks + 1 → AreNumbered ks → AreNumbered (ks ++ k ∷ [])
numbered_push ks k next numbered i within =
    let long : length (ks ++ k ∷ []) ≡ length ks + 1 = length-append ks (k ∷ []) in
    ⊎_elim
    (λ early. before ks i early ∙ numbered i early)
    (λ late. let end : i ≡ length ks = omega (arith, late, within, long) in
    ap (λ (n : ℕ). slice_index (ids (ks ++ k ∷ [])) n) end ∙ last ks ∙ next ∙ ap (λ (n : ℕ). n + 1) (sym end))
    (cases_lt i (length ks))
  where
    before : (ks : List Kept) (i : ℕ) → i < length ks → slice_index (ids (ks ++ k ∷ [])) i ≡ slice_index (ids ks) i
    before [] i early = absurd (omega (arith, early))
    before (x ∷ xs) zero early = refl
    before (x ∷ xs) (suc i) early = before xs i (omega (arith, early))

    last : (ks : List Kept) → slice_index (ids (ks ++ k ∷ [])) (length ks) ≡ k.id
    last [] = refl
    last (x ∷ xs) = last xs

-- the record with the work, the box and the activity of an upload
pub worked_is :
    (r s now : ChangesetRecord) (ws : List Work) (area touched : Option Area) (t : ℕ)
    → s ≡ record r { did = r.did ++ ws }
    → now ≡ record s { activity = (if nat_lt (length r.did) (length s.did) then t else s.activity); touched = join_areas s.touched area }
    → touched ≡ area
    → now ≡ worked_by r ws touched t
worked_is r s now ws area touched t entered finished same =
    finished
    ∙ ap (λ (x : ChangesetRecord). record x { activity = (if nat_lt (length r.did) (length x.did) then t else x.activity); touched = join_areas x.touched area }) entered
    ∙ ap (λ (b : Bool). record r { activity = (if b then t else r.activity); touched = join_areas r.touched area; did = r.did ++ ws }) (more ws)
    ∙ ap (λ (n : ℕ). record r { activity = n; touched = join_areas r.touched area; did = r.did ++ ws }) (turned (length ws == 0))
    ∙ ap (λ (a : Option Area). worked_by r ws a t) (sym same)
  where
    more : (ws : List Work) → nat_lt (length r.did) (length (r.did ++ ws)) ≡ not (length ws == 0)
    more [] = let same : length (r.did ++ []) ≡ length r.did = ap length (append-nil r.did) in grind (arith, nat_tests, same)
    more (w ∷ ws) = let long : length (r.did ++ w ∷ ws) ≡ length r.did + length (w ∷ ws) = length-append r.did (w ∷ ws) in grind (arith, nat_tests, long)

    turned : (b : Bool) → (if not b then t else r.activity) ≡ (if b then r.activity else t)
    turned true = refl
    turned false = refl

-- the state, with the record in its place
pub uploaded_is :
    (P : State) (t c : ℕ) (F : Elements) (ks new : List Kept) (k now : Kept) (s : ChangesetRecord) (area : Option Area) (final : Progress)
    → P.changesets ≡ records ks
    → HasChangeset P c
    → IsPut ks (c - 1) k now new
    → IsDone F k.kept s area final
    → now.kept ≡ record s { activity = (if nat_lt (length k.kept.did) (length s.did) then t else s.activity); touched = join_areas s.touched area }
    → record P { elements = F; changesets = records new } ≡ uploaded P t c final
uploaded_is P t c F ks new k now s area final listed there put done finished =
    let worked : now.kept ≡ worked_by k.kept (works final.keys final.done) final.touched t
    = worked_is k.kept s now.kept (works final.keys final.done) area final.touched t done.entered finished done.touched in
    let set : records new ≡ slice_set P.changesets (c - 1) (worked_by k.kept (works final.keys final.done) final.touched t)
    = put-is (λ (x : Kept). x.kept) ks (c - 1) k now new put ∙ ap (slice_set (records ks) (c - 1)) worked ∙ ap (λ (rs : List ChangesetRecord). slice_set rs (c - 1) (worked_by k.kept (works final.keys final.done) final.touched t)) (sym listed) in
    let known : changeset P c ≡ Some k.kept
    = along (c == 0) refl (ap (λ (rs : List ChangesetRecord). slice_get rs (c - 1)) listed ∙ told (λ (x : Kept). x.kept) ks (c - 1) k put.at) in
    ap (λ (rs : List ChangesetRecord). record P { elements = F; changesets = rs }) set
    ∙ ap (λ (E : Elements). record P { elements = E; changesets = slice_set P.changesets (c - 1) (worked_by k.kept (works final.keys final.done) final.touched t) }) (sym done.elements)
    ∙ ap (λ (o : Option ChangesetRecord). record (option_map_or (λ r. with_record P c (worked_by r (works final.keys final.done) final.touched t)) o P) { elements = final.elements }) (sym known)
  where
    contrary : (n : ℕ) → 0 < n → (n == 0) ≡ true → ⊥
    contrary n some none = grind (arith, nat_tests)

    along : (b : Bool) → (c == 0) ≡ b → slice_get P.changesets (c - 1) ≡ Some k.kept → (if b then None else slice_get P.changesets (c - 1)) ≡ Some k.kept
    along true is e = absurd (contrary c there.0 is)
    along false is e = e
