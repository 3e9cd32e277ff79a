-- What every accepted command keeps of the map.
use Rattle.std.proofs.Common.{◌≡◌, ℕ, zero, suc, ◌+◌, ◌-◌, ◌<◌, ◌≤◌, Bool, true, false, List, [], ◌∷◌, length, Some, None, Ok, Err, refl, sym, ap, subst, length-append, arith}
use Rattle.std.specs.Prelude.{Option, Result, All, is_some, not, slice_get, ◌==◌, if◌then◌else◌}
use Rattle.std.specs.Option.{option_map_or, ForSome}
use Rattle.std.proofs.lemmas.List.{length-set}
use Rattle.std.proofs.lemmas.Bool.Decides.{nat_tests}
use Rattle.std.proofs.lemmas.List.Elements.{All-nil, All-head, All-tail, All-append, All-push, All-set, All-weaker}
use Rattle.std.proofs.lemmas.Option.{slice_get_within}
use Rattle.osm_base.specs.Outcome.{◌>>=◌, refuse_if}
use Rattle.osm_base.specs.Place.{Area}
use Rattle.osm_base.specs.declared.keys.Key.{Key}
use Rattle.osm_base.specs.declared.people.User.{User}
use Rattle.osm_element.specs.Elements.{count, version, EachVersion}
use Rattle.osm_element.specs.Later.{IsLater, Keeps}
use Rattle.osm_element.specs.Tags.{Tag}
use Rattle.osm_element.specs.declared.elements.Elements.{Elements}
use Rattle.osm_element.proofs.EachVersion.{each-map, each-mark}
use Rattle.osm_element.proofs.Later.{keeps-refl, keeps-mark, given-there}
use Rattle.osm_change.specs.Rows.{rows}
use Rattle.osm_change.specs.declared.answers.Answer.TheVariants as answer
use Rattle.osm_change.specs.declared.operations.Op.{Op}
use Rattle.osm_change.specs.declared.refusals.Refusal.{Refusal}
use Rattle.osm_change.specs.declared.refusals.Refusal.TheVariants as refused
use Rattle.osm_change.specs.declared.refusals.Said.TheVariants.{Id}
use Rattle.changeset_core.specs.Changeset.{is_open, closes, retagged, ended_at, worked_by}
use Rattle.changeset_core.specs.Timely.{IsTimelyMoment, IsTimelyRecord}
use Rattle.changeset_core.specs.declared.records.ChangesetRecord.{ChangesetRecord}
use Rattle.changeset_core.specs.declared.records.Work.{Work}
use Rattle.osm_model.specs.declared.states.State.{State}
use Rattle.osm_model.specs.declared.commands.Command.{Command}
use Rattle.osm_model.specs.declared.commands.Command.TheVariants as command
use Rattle.osm_model.specs.declared.uploads.Progress.{Progress}
use Rattle.osm_model.specs.Attributed.{IsVersion, DidVersions, IsAttributed}
use Rattle.osm_model.specs.Changeset.{new_changeset, changeset_row, own_record}
use Rattle.osm_model.specs.State.{HasChangeset, changeset, own_changeset, with_record, with_changeset, with_tags, with_end}
use Rattle.osm_model.specs.Timely.{HasTimelyStamp}
use Rattle.osm_model.specs.Fold.{works, upload, uploaded}
use Rattle.osm_model.specs.Act.{Effect, judge, create_changeset, single_number, make_redaction, known_version, known_redaction, old_version, marked}
use Rattle.osm_model.proofs.Steps.{bind-Ok, Ok-same}
use Rattle.osm_model.proofs.Versions.{works-later}
use Rattle.osm_model.proofs.Underway.{upload-folded, upload-underway}

-- what an accepted command at a stamp keeps
pub record Advances (t : ℕ) (P Q : State) : Type 0 where
  pub kept : Keeps P.elements Q.elements
  pub more : length P.changesets ≤ length Q.changesets
  pub changesets : IsTimelyMoment t → All IsTimelyRecord P.changesets → All IsTimelyRecord Q.changesets
  pub versions : IsTimelyMoment t → EachVersion HasTimelyStamp P.elements → EachVersion HasTimelyStamp Q.elements
  pub attributed : IsAttributed P → IsAttributed Q

advances-refl : (t : ℕ) (P : State) → Advances t P P
advances-refl t P = record {
  kept = keeps-refl P.elements;
  more = omega arith;
  changesets = λ at all. all;
  versions = λ at each. each;
  attributed = λ was. was;
}

-- ---- the record of a changeset

-- what holds of each record holds of one that is found
found_in : (R : ChangesetRecord → Type 0) (rs : List ChangesetRecord) (i : ℕ) (r : ChangesetRecord) → All R rs → slice_get rs i ≡ Some r → R r
found_in R [] i r all found = cc
found_in R (x ∷ rs) zero r all found = let same : x ≡ r = cc in subst R same (All-head R x rs all)
found_in R (x ∷ rs) (suc i) r all found = found_in R rs i r (All-tail R x rs all) found

pub changeset-all : (R : ChangesetRecord → Type 0) (P : State) (c : ℕ) (r : ChangesetRecord) → All R P.changesets → changeset P c ≡ Some r → R r
changeset-all R P c r all found = along (c == 0) found
  where
    along : (b : Bool) → (if b then None else slice_get P.changesets (c - 1)) ≡ Some r → R r
    along true e = cc
    along false e = found_in R P.changesets (c - 1) r all e

-- a changeset whose record is found is there
changeset-there : (P : State) (c : ℕ) (r : ChangesetRecord) → changeset P c ≡ Some r → HasChangeset P c
changeset-there P c r found = along (c == 0) refl found
  where
    positive : (n : ℕ) → false ≡ (n == 0) → 0 < n
    positive n h = grind (arith, nat_tests)

    along : (b : Bool) → b ≡ (c == 0) → (if b then None else slice_get P.changesets (c - 1)) ≡ Some r → HasChangeset P c
    along true none e = cc
    along false there e =
        let counted = positive c there in
        let below = slice_get_within P.changesets (c - 1) r e in
        (counted, omega (arith, counted, below))

-- the record that the user may work on is that of the changeset
pub own-found : (P : State) (user : User) (t c : ℕ) (r : ChangesetRecord) → own_changeset P user t c ≡ Ok r → changeset P c ≡ Some r
own-found P user t c r own = along (changeset P c) own
  where
    same : (b q : Bool) (x r : ChangesetRecord) (first second : Refusal)
        → (if b then (if q then Ok x else Err first) else Err second) ≡ Ok r
        → x ≡ r
    same true true x r first second e = Ok-same x r e
    same true false x r first second e = cc
    same false q x r first second e = cc

    along : (o : Option ChangesetRecord) → option_map_or (own_record user t c) o (Err (refused.NoChangeset c)) ≡ Ok r → o ≡ Some r
    along None e = cc
    along (Some x) e = ap (λ (y : ChangesetRecord). Some y) (same (x.owner.id == user.id) (is_open x t) x r (refused.Closed c (closes x)) (refused.NotOwner c x.owner.id) e)

some_timely : (t : ℕ) → IsTimelyMoment t → ForSome (Some t) IsTimelyMoment
some_timely t at x same = let e : t ≡ x = cc in subst (λ (y : ℕ). IsTimelyMoment y) e at

worked_timely :
    (r : ChangesetRecord) (ws : List Work) (area : Option Area) (t : ℕ)
    → IsTimelyMoment t
    → IsTimelyRecord r
    → IsTimelyRecord (worked_by r ws area t)
worked_timely r ws area t at was = record { created = was.created; activity = along (length ws == 0); ended = was.ended }
  where
    along : (b : Bool) → IsTimelyMoment (if b then r.activity else t)
    along true = was.activity
    along false = at

-- ---- whose changeset a version is

-- as many changesets or more
has_more : (P Q : State) (c : ℕ) → length P.changesets ≤ length Q.changesets → HasChangeset P c → HasChangeset Q c
has_more P Q c more has = (has.0, omega (arith, has.1, more))

-- versions stay there
did-later : (E F : Elements) (rs : List ChangesetRecord) → IsLater E F → All (DidVersions E) rs → All (DidVersions F) rs
did-later E F rs later did = All-weaker (DidVersions E) (DidVersions F) (λ r was. works-later E F r.did later was) rs did

-- ---- edits

-- one record changed, and the elements
advances-record :
    (t : ℕ) (P : State) (c : ℕ) (r s : ChangesetRecord) (E : Elements)
    → changeset P c ≡ Some r
    → Keeps P.elements E
    → (IsTimelyMoment t → IsTimelyRecord r → IsTimelyRecord s)
    → (IsTimelyMoment t → EachVersion HasTimelyStamp P.elements → EachVersion HasTimelyStamp E)
    → (EachVersion (λ v. HasChangeset P v.changeset) P.elements → EachVersion (λ v. HasChangeset P v.changeset) E)
    → (DidVersions E r → DidVersions E s)
    → Advances t P (record (with_record P c s) { elements = E })
advances-record t P c r s E found kept timely stamps made did =
    let Q : State = record (with_record P c s) { elements = E } in
    let same : length Q.changesets ≡ length P.changesets = length-set P.changesets (c - 1) s in
    let more : length P.changesets ≤ length Q.changesets = omega (arith, same) in
    record {
      kept = kept;
      more = more;
      changesets = λ at all. All-set IsTimelyRecord P.changesets (c - 1) s (timely at (changeset-all IsTimelyRecord P c r all found)) all;
      versions = stamps;
      attributed = λ was. let now = did-later P.elements E P.changesets kept.later was.changesets in
          record {
            versions = each-map (λ v. HasChangeset P v.changeset) (λ v. HasChangeset Q v.changeset) E (λ v has. has_more P Q v.changeset more has) (made was.versions);
            changesets = All-set (DidVersions E) P.changesets (c - 1) s (did (changeset-all (DidVersions E) P c r now found)) now;
          };
    }

advances-changed :
    (t : ℕ) (P : State) (c : ℕ) (change : ChangesetRecord → ChangesetRecord)
    → ((r : ChangesetRecord) → IsTimelyMoment t → IsTimelyRecord r → IsTimelyRecord (change r))
    → ((r : ChangesetRecord) → DidVersions P.elements r → DidVersions P.elements (change r))
    → Advances t P (option_map_or (λ r. with_record P c (change r)) (changeset P c) P)
advances-changed t P c change timely did = along (changeset P c) refl
  where
    along : (o : Option ChangesetRecord) → changeset P c ≡ o → Advances t P (option_map_or (λ r. with_record P c (change r)) o P)
    along None found = advances-refl t P
    along (Some r) found = advances-record t P c r (change r) P.elements found (keeps-refl P.elements) (timely r) (λ at each. each) (λ each. each) (did r)

advances-tags : (t : ℕ) (P : State) (c : ℕ) (tags : List Tag) → Advances t P (with_tags P c tags t)
advances-tags t P c tags =
    advances-changed t P c (λ (r : ChangesetRecord). retagged r tags t)
    (λ r at was. record { created = was.created; activity = at; ended = was.ended })
    (λ r was. was)

advances-end : (t : ℕ) (P : State) (c : ℕ) → Advances t P (with_end P c t)
advances-end t P c =
    advances-changed t P c (λ (r : ChangesetRecord). ended_at r t)
    (λ r at was. record { created = was.created; activity = was.activity; ended = some_timely t at })
    (λ r was. was)

advances-created : (t : ℕ) (P : State) (user : User) (tags : List Tag) (large_from : Option ℕ) → Advances t P (with_changeset P (new_changeset user t tags large_from))
advances-created t P user tags large_from =
    let r : ChangesetRecord = new_changeset user t tags large_from in
    let Q : State = with_changeset P r in
    let grown : length Q.changesets ≡ length P.changesets + 1 = length-append P.changesets (r ∷ []) in
    let more : length P.changesets ≤ length Q.changesets = omega (arith, grown) in
    record {
      kept = keeps-refl P.elements;
      more = more;
      changesets = λ at all. All-push IsTimelyRecord P.changesets r all (record { created = at; activity = at; ended = λ x none. cc });
      versions = λ at each. each;
      attributed = λ was. record {
        versions = each-map (λ v. HasChangeset P v.changeset) (λ v. HasChangeset Q v.changeset) P.elements (λ v has. has_more P Q v.changeset more has) was.versions;
        changesets = All-push (DidVersions P.elements) P.changesets r was.changesets (All-nil (IsVersion P.elements));
      };
    }

advances-redaction : (t : ℕ) (P : State) (title : List ℕ) → Advances t P (make_redaction P title).state
advances-redaction t P title = record {
  kept = keeps-refl P.elements;
  more = omega arith;
  changesets = λ at all. all;
  versions = λ at each. each;
  attributed = λ was. record { versions = was.versions; changesets = was.changesets };
}

passed : (b : Bool) (r : Refusal) (a : Unit {0}) → refuse_if b r ≡ Ok a → b ≡ false
passed true r a e = cc
passed false r a e = refl

-- a version that is known is of an element that is there
advances-mark :
    (t : ℕ) (P : State) (k : Key) (n : ℕ) (m : Option ℕ) (a : Unit {0})
    → known_version P k n ≡ Ok a
    → Advances t P (marked P k n m).state
advances-mark t P k n m a known =
    let E = P.elements in
    let there = bind-Ok
    (refuse_if (count E k == 0) (refused.NoElement (Id k.id) None k.kind))
    (λ (there : Unit {0}). refuse_if (not (is_some (version E k n))) (refused.NoSuchVersion (Id k.id) k.kind n))
    a
    known
    in
    let given = given-there E k (passed (count E k == 0) (refused.NoElement (Id k.id) None k.kind) there.0 there.1) in
    let kept = keeps-mark E k n m given.0 given.1 in
    record {
      kept = kept;
      more = omega arith;
      changesets = λ at all. all;
      versions = λ at each. each-mark HasTimelyStamp E k n m given.0 given.1 (λ v was. was) each;
      attributed = λ was. record {
        versions = each-mark (λ v. HasChangeset P v.changeset) E k n m given.0 given.1 (λ v has. has) was.versions;
        changesets = did-later E (marked P k n m).state.elements P.changesets kept.later was.changesets;
      };
    }

advances-upload :
    (P : State) (user : User) (t c : ℕ) (ops : List Op) (g : Progress)
    → upload P user t c ops ≡ Ok g
    → Advances t P (uploaded P t c g)
advances-upload P user t c ops g passed =
    let fold = upload-folded P user t c ops g passed in
    let r : ChangesetRecord = fold.kept in
    let found : changeset P c ≡ Some r = own-found P user t c r fold.own in
    let there : HasChangeset P c = changeset-there P c r found in
    let ws : List Work = works g.keys g.done in
    let on = upload-underway (λ v. HasChangeset P v.changeset) P user t c ops g (λ content tags. there) passed in
    let now : Advances t P (record (with_record P c (worked_by r ws g.touched t)) { elements = g.elements }) =
    advances-record t P c r (worked_by r ws g.touched t) g.elements found
    (record { later = on.later; consistent = on.consistent; begun = on.begun })
    (λ at was. worked_timely r ws g.touched t at was)
    (λ at each. (upload-underway HasTimelyStamp P user t c ops g (λ content tags. at) passed).versions each)
    on.versions
    (λ did. All-append (IsVersion g.elements) r.did ws did on.there)
    in
    subst
    (λ (o : Option ChangesetRecord). Advances t P (record (option_map_or (λ r. with_record P c (worked_by r ws g.touched t)) o P) { elements = g.elements }))
    (sym found)
    now

-- ---- a command

by-effect :
    (t : ℕ) (P : State) (a done : Effect)
    → ◌≡◌ {A = Result Effect Refusal} (Ok a) (Ok done)
    → Advances t P a.state
    → Advances t P done.state
by-effect t P a done same advances = subst (λ (x : Effect). Advances t P x.state) (Ok-same a done same) advances

pub judge-advances :
    (P : State) (user : User) (t : ℕ) (c : Command) (done : Effect)
    → judge P user t c ≡ Ok done
    → Advances t P done.state
judge-advances P user t (command.CreateChangeset tags large_from) done same =
    by-effect t P (create_changeset P user t tags large_from) done same (advances-created t P user tags large_from)
judge-advances P user t (command.Retag c tags) done same =
    let own = bind-Ok
    (own_changeset P user t c)
    (λ (r : ChangesetRecord). Ok (record { state = with_tags P c tags t; answer = answer.Changeset (changeset_row c (retagged r tags t) t) }))
    done
    same
    in
    by-effect t P (record { state = with_tags P c tags t; answer = answer.Changeset (changeset_row c (retagged own.0 tags t) t) }) done own.2 (advances-tags t P c tags)
judge-advances P user t (command.CloseChangeset c) done same =
    let own = bind-Ok
    (own_changeset P user t c)
    (λ (r : ChangesetRecord). Ok (record { state = with_end P c t; answer = answer.Nothing }))
    done
    same
    in
    by-effect t P (record { state = with_end P c t; answer = answer.Nothing }) done own.2 (advances-end t P c)
judge-advances P user t (command.Upload c ops) done same =
    let up = bind-Ok
    (upload P user t c ops)
    (λ (g : Progress). Ok (record { state = uploaded P t c g; answer = answer.Diff (rows ops g.keys g.done) }))
    done
    same
    in
    by-effect t P (record { state = uploaded P t c up.0; answer = answer.Diff (rows ops up.0.keys up.0.done) }) done up.2 (advances-upload P user t c ops up.0 up.1)
judge-advances P user t (command.Single c ops) done same =
    let up = bind-Ok
    (upload P user t c ops)
    (λ (g : Progress). Ok (record { state = uploaded P t c g; answer = answer.Number (single_number ops g.keys g.done) }))
    done
    same
    in
    by-effect t P (record { state = uploaded P t c up.0; answer = answer.Number (single_number ops up.0.keys up.0.done) }) done up.2 (advances-upload P user t c ops up.0 up.1)
judge-advances P user t (command.MakeRedaction title) done same = by-effect t P (make_redaction P title) done same (advances-redaction t P title)
judge-advances P user t (command.Redact k n redaction) done same =
    let there = bind-Ok
    (known_version P k n)
    (λ (there : Unit {0}). known_redaction P redaction >>= λ (known : Unit {0}). old_version P k n >>= λ (old : Unit {0}). Ok (marked P k n (Some redaction)))
    done
    same
    in
    let known = bind-Ok (known_redaction P redaction) (λ (known : Unit {0}). old_version P k n >>= λ (old : Unit {0}). Ok (marked P k n (Some redaction))) done there.2 in
    let old = bind-Ok (old_version P k n) (λ (old : Unit {0}). Ok (marked P k n (Some redaction))) done known.2 in
    by-effect t P (marked P k n (Some redaction)) done old.2 (advances-mark t P k n (Some redaction) there.0 there.1)
judge-advances P user t (command.Unredact k n) done same =
    let there = bind-Ok (known_version P k n) (λ (there : Unit {0}). Ok (marked P k n None)) done same in
    by-effect t P (marked P k n None) done there.2 (advances-mark t P k n None there.0 there.1)
