-- An accepted upload after some of its operations.
use Rattle.std.proofs.Common.{◌≡◌, ℕ, ◌+◌, Bool, true, false, List, [], ◌∷◌, ◌++◌, length, length-append, append-nil, append_assoc, Some, None, Ok, refl, sym, ap, ◌∙◌, subst, arith}
use Rattle.std.specs.Prelude.{Option, if◌then◌else◌}
use Rattle.osm_base.specs.Place.{Area}
use Rattle.osm_base.specs.declared.keys.Key.{Key}
use Rattle.osm_element.specs.Elements.{count, push_version}
use Rattle.osm_element.specs.declared.elements.Elements.{Elements}
use Rattle.osm_change.specs.declared.operations.FirstIds.{FirstIds}
use Rattle.osm_change.specs.declared.operations.Op.{Op}
use Rattle.osm_change.specs.declared.operations.OpDone.{OpDone}
use Rattle.osm_change.specs.declared.operations.OpDone.TheVariants.{Applied, Skipped}
use Rattle.changeset_core.specs.Changeset.{join_areas, touched_area}
use Rattle.changeset_core.specs.declared.records.ChangesetRecord.{ChangesetRecord}
use Rattle.changeset_core.specs.declared.records.Work.{Work}
use Rattle.osm_change.specs.Keys.{ids_after}
use Rattle.osm_model.specs.declared.uploads.Progress.{Progress}
use Rattle.osm_model.specs.Fold.{task, work_of, works}
use Rattle.osm_model.specs.Operation.{applied, skipped, operate, operate_all}
use Rattle.osm_world.specs.Beds.{first_ids, content_of_op, tags_of_op, makes, version_of_op, IsBedOf, AreBedsOf}
use Rattle.osm_world.specs.World.{Runs, IsDone}
use Rattle.osm_world.specs.declared.beds.Bed.{Bed}
use Rattle.osm_world.proofs.Operations.{bind-Ok, stepped, Ok-same, step-is, IsReached, IsUnder, reached, ids-operate, under-operate}

abbrev pub come_to : Elements → List Key → List OpDone → Option Area → Progress
come_to E keys done area = record { elements = E; keys = keys; done = done; touched = area }

-- from the elements E0 and the changeset's record r: the elements, the record and the box are now
-- E, s and area, these operations are left, and those before them were of these elements
pub record IsGoing (E0 : Elements) (r : ChangesetRecord) (c t : ℕ) (all : List Op) (final : Progress) (E : Elements) (s : ChangesetRecord) (area : Option Area) (ops : List Op) (keys : List Key) : Type 0 where
  pub done : List OpDone
  pub even : length keys ≡ length done
  pub entered : s ≡ record r { did = r.did ++ works keys done }
  pub under : IsUnder (task E0 c t all) (come_to E keys done area)
  pub through : operate_all (task E0 c t all) (come_to E keys done area) ops ≡ Ok final

pub begins :
    (E : Elements) (r : ChangesetRecord) (c t : ℕ) (ops : List Op) (final : Progress)
    → Runs E c t ops final
    → IsGoing E r c t ops final E r None ops []
begins E r c t ops final runs = record {
  done = [];
  even = refl;
  entered = ap (λ (ws : List Work). record r { did = ws }) (sym (append-nil r.did));
  under = record {
    grown = λ kind. omega arith;
    given = λ place k at. cc;
  };
  through = runs;
}

pub ends :
    (E0 : Elements) (r : ChangesetRecord) (c t : ℕ) (all : List Op) (final : Progress) (E : Elements) (s : ChangesetRecord) (area : Option Area) (keys : List Key)
    → IsGoing E0 r c t all final E s area [] keys
    → IsDone E r s area final
ends E0 r c t all final E s area keys going =
    let same : come_to E keys going.done area ≡ final = Ok-same (come_to E keys going.done area) final going.through in
    record {
      elements = ap (λ (g : Progress). g.elements) (sym same);
      entered = going.entered ∙ ap (λ (g : Progress). record r { did = r.did ++ works g.keys g.done }) same;
      touched = ap (λ (g : Progress). g.touched) (sym same);
    }

-- the element of the next operation can get a version
pub ready :
    (E0 : Elements) (r : ChangesetRecord) (c t : ℕ) (all : List Op) (final : Progress) (E : Elements) (s : ChangesetRecord) (area : Option Area) (o : Op) (ops : List Op) (keys : List Key) (b : Bed)
    → IsGoing E0 r c t all final E s area (o ∷ ops) keys
    → IsBedOf keys (first_ids E) o b
    → IsReached E b.key
ready E0 r c t all final E s area o ops keys b going bed =
    let u = task E0 c t all in
    let G = come_to E keys going.done area in
    let step = bind-Ok (operate u G o) (λ (next : Progress). operate_all u next ops) final going.through in
    subst (λ (k : Key). IsReached E k) (sym bed.key) (reached u G o step.0 going.under step.1)

-- what an operation did
abbrev pub done-is : Bool → Elements → Key → OpDone
done-is made E k = if made then Applied (count E k + 1) else Skipped (count E k)

join-none : (a : Option Area) → join_areas a None ≡ a
join-none None = refl
join-none (Some a) = refl

stepped-is :
    (E0 : Elements) (c t : ℕ) (all : List Op) (E : Elements) (keys : List Key) (done : List OpDone) (area : Option Area) (k : Key) (o : Op) (b : Bool)
    → (if b then applied (task E0 c t all) (come_to E keys done area) k (content_of_op keys o) (tags_of_op o) else skipped (come_to E keys done area) k)
    ≡ come_to (if b then push_version E k (version_of_op c t keys o) else E) (keys ++ k ∷ []) (done ++ done-is b E k ∷ []) (join_areas area (if b then touched_area E k (content_of_op keys o) else None))
stepped-is E0 c t all E keys done area k o true = refl
stepped-is E0 c t all E keys done area k o false =
    ap (λ (a : Option Area). come_to E (keys ++ k ∷ []) (done ++ Skipped (count E k) ∷ []) a) (sym (join-none area))

works-push : (ks : List Key) (ds : List OpDone) (k : Key) (d : OpDone) → length ks ≡ length ds → works (ks ++ k ∷ []) (ds ++ d ∷ []) ≡ works ks ds ++ work_of k d
works-push [] [] k d even = append-nil (work_of k d)
works-push [] (y ∷ ds) k d even = absurd (omega (arith, even))
works-push (x ∷ ks) [] k d even = absurd (omega (arith, even))
works-push (x ∷ ks) (y ∷ ds) k d even =
    ap (λ (ws : List Work). work_of x y ++ ws) (works-push ks ds k d (omega (arith, even)))
    ∙ sym (append_assoc (work_of x y) (works ks ds) (work_of k d))

abbrev pub entered_by : Bool → Elements → Key → ChangesetRecord → ChangesetRecord
entered_by made E k s = if made then record s { did = s.did ++ record { key = k; version = count E k + 1 } ∷ [] } else s

entered-more :
    (r s : ChangesetRecord) (E : Elements) (keys : List Key) (done : List OpDone) (k : Key) (b : Bool)
    → length keys ≡ length done
    → s ≡ record r { did = r.did ++ works keys done }
    → entered_by b E k s ≡ record r { did = r.did ++ works (keys ++ k ∷ []) (done ++ done-is b E k ∷ []) }
entered-more r s E keys done k true even was =
    let w : Work = record { key = k; version = count E k + 1 } in
    ap (λ (x : ChangesetRecord). record x { did = x.did ++ w ∷ [] }) was
    ∙ ap (λ (ws : List Work). record r { did = ws }) (append_assoc r.did (works keys done) (w ∷ []))
    ∙ ap (λ (ws : List Work). record r { did = r.did ++ ws }) (sym (works-push keys done k (Applied (count E k + 1)) even))
entered-more r s E keys done k false even was =
    was ∙ ap (λ (ws : List Work). record r { did = r.did ++ ws }) (sym (works-push keys done k (Skipped (count E k)) even ∙ append-nil (works keys done)))

pub record GoesOn (E0 : Elements) (r : ChangesetRecord) (c t : ℕ) (all : List Op) (final : Progress) (E F : Elements) (s : ChangesetRecord) (area : Option Area) (o : Op) (ops : List Op) (keys : List Key) : Type 0 where
  pub going : IsGoing E0 r c t all final F s area ops keys
  pub ids : first_ids F ≡ ids_after (first_ids E) o

pub goes_on :
    (E0 : Elements) (r : ChangesetRecord) (c t : ℕ) (all : List Op) (final : Progress) (E F : Elements) (s next : ChangesetRecord) (area wide touched : Option Area) (o : Op) (ops : List Op) (keys : List Key) (b : Bed)
    → IsGoing E0 r c t all final E s area (o ∷ ops) keys
    → IsBedOf keys (first_ids E) o b
    → F ≡ (if makes E b.key o then push_version E b.key (version_of_op c t keys o) else E)
    → next ≡ entered_by (makes E b.key o) E b.key s
    → touched ≡ (if makes E b.key o then touched_area E b.key (content_of_op keys o) else None)
    → wide ≡ join_areas area touched
    → GoesOn E0 r c t all final E F next wide o ops (keys ++ b.key ∷ [])
goes_on E0 r c t all final E F s next area wide touched o ops keys b going bed elements entered touches widened =
    let u = task E0 c t all in
    let G = come_to E keys going.done area in
    let step = bind-Ok (operate u G o) (λ (next : Progress). operate_all u next ops) final going.through in
    let made = makes E b.key o in
    let done = going.done ++ done-is made E b.key ∷ [] in
    let same : step.0 ≡ come_to F (keys ++ b.key ∷ []) done wide
    = step-is u G o step.0 step.1
    ∙ ap (λ (k : Key). stepped u G k o) (sym bed.key)
    ∙ stepped-is E0 c t all E keys going.done area b.key o made
    ∙ ap (λ (H : Elements). come_to H (keys ++ b.key ∷ []) done (join_areas area (if made then touched_area E b.key (content_of_op keys o) else None))) (sym elements)
    ∙ ap (λ (a : Option Area). come_to F (keys ++ b.key ∷ []) done (join_areas area a)) (sym touches)
    ∙ ap (λ (a : Option Area). come_to F (keys ++ b.key ∷ []) done a) (sym widened) in
    record {
      going = record {
        done = done;
        even = omega (arith, length-append keys (b.key ∷ []), length-append going.done (done-is made E b.key ∷ []), going.even);
        entered = entered ∙ entered-more r s E keys going.done b.key made going.even going.entered;
        under = subst (λ (g : Progress). IsUnder u g) same (under-operate u G o step.0 going.under step.1);
        through = ap (λ (g : Progress). operate_all u g ops) (sym same) ∙ step.2;
      };
      ids = ap (λ (g : Progress). first_ids g.elements) (sym same) ∙ ids-operate u G o step.0 going.under step.1;
    }

-- the beds of what is left
pub beds_next :
    (keys : List Key) (E F : Elements) (o : Op) (ops : List Op) (b : Bed) (bs : List Bed)
    → AreBedsOf keys (first_ids E) (o ∷ ops) (b ∷ bs)
    → first_ids F ≡ ids_after (first_ids E) o
    → AreBedsOf (keys ++ b.key ∷ []) (first_ids F) ops bs
beds_next keys E F o ops b bs beds ids = subst (λ (n : FirstIds). AreBedsOf (keys ++ b.key ∷ []) n ops bs) (sym ids) beds.1
