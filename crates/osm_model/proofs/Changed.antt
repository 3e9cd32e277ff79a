-- What every accepted command keeps of the elements: all that each new version and each mark keeps.
use Rattle.std.proofs.Common.{◌≡◌, ℕ, ◌<◌, ◌≤◌, Bool, true, false, List, [], ◌∷◌, length, Option, Some, None, Ok, Err, refl, subst}
use Rattle.std.specs.Prelude.{Result, is_some, not, ◌==◌}
use Rattle.std.specs.Option.{option_map_or}
use Rattle.osm_base.specs.Outcome.{◌>>=◌, refuse_if}
use Rattle.osm_base.specs.Stamp.{stamp_after}
use Rattle.osm_base.specs.declared.keys.Key.{Key}
use Rattle.osm_base.specs.declared.people.User.{User}
use Rattle.osm_element.specs.Elements.{histories, count, version, push_version, mark}
use Rattle.osm_element.specs.declared.elements.Elements.{Elements}
use Rattle.osm_element.specs.Version.{Version}
use Rattle.osm_element.proofs.Later.{given-there}
use Rattle.osm_change.specs.Change.{kind_of}
use Rattle.osm_change.specs.Rows.{rows}
use Rattle.osm_change.specs.declared.answers.Answer.TheVariants as answer
use Rattle.osm_change.specs.declared.operations.Op.{Op}
use Rattle.osm_change.specs.declared.refusals.Refusal.{Refusal}
use Rattle.osm_change.specs.declared.refusals.Refusal.TheVariants as refused
use Rattle.osm_change.specs.declared.refusals.Said.TheVariants.{Id}
use Rattle.changeset_core.specs.Changeset.{retagged, ended_at}
use Rattle.changeset_core.specs.declared.records.ChangesetRecord.{ChangesetRecord}
use Rattle.osm_model.specs.declared.states.State.{State}
use Rattle.osm_model.specs.declared.commands.Command.{Command}
use Rattle.osm_model.specs.declared.commands.Command.TheVariants as command
use Rattle.osm_model.specs.declared.commands.Entry.{Entry}
use Rattle.osm_model.specs.declared.uploads.Progress.{Progress}
use Rattle.osm_model.specs.Changeset.{changeset_row}
use Rattle.osm_model.specs.State.{changeset, own_changeset, with_record, with_tags, with_end}
use Rattle.osm_model.specs.Upload.{Upload}
use Rattle.osm_model.specs.Names.{with_ids}
use Rattle.osm_model.specs.Operation.{next_key, made_version, operate, operate_all}
use Rattle.osm_model.specs.Fold.{start, task, upload, uploaded}
use Rattle.osm_model.specs.Act.{Effect, judge, settle, create_changeset, single_number, make_redaction, known_version, known_redaction, old_version, marked}
use Rattle.osm_model.specs.Journal.{after}
use Rattle.osm_model.proofs.Steps.{bind-Ok, Ok-same, passed-operate}
use Rattle.osm_model.proofs.Underway.{upload-folded}

-- each version with a stamp, and each mark on a version that is there, keeps it
pub record IsKeptBy (t : ℕ) (R : Elements → Type 0) : Type 0 where
  pub pushes : (E : Elements) (k : Key) (v : Version) → v.stamp ≡ t → R E → R (push_version E k v)
  pub marks : (E : Elements) (k : Key) (n : ℕ) (m : Option ℕ) → 0 < k.id → k.id ≤ length (histories E k.kind) → R E → R (mark E k n m)

-- ---- an upload

operated :
    (R : Elements → Type 0) (u : Upload) (g : Progress) (o : Op) (h : Progress)
    → IsKeptBy u.stamp R
    → R g.elements
    → operate u g o ≡ Ok h
    → R h.elements
operated R u g o h keeps was e = passed-operate u g (λ (p : Progress). R p.elements) o h (record {
  creates = λ content tags a visible. keeps.pushes g.elements (next_key g.elements (kind_of content)) (made_version u (Some (with_ids g.keys content)) tags) refl was;
  modifies = λ name k content tags a named visible. keeps.pushes g.elements k (made_version u (Some (with_ids g.keys content)) tags) refl was;
  deletes = λ kind name k named unused. keeps.pushes g.elements k (made_version u None []) refl was;
  skips = λ kind name k named. was;
}) e

operated_all :
    (R : Elements → Type 0) (u : Upload) (g : Progress) (ops : List Op) (h : Progress)
    → IsKeptBy u.stamp R
    → R g.elements
    → operate_all u g ops ≡ Ok h
    → R h.elements
operated_all R u g [] h keeps was e = subst (λ (p : Progress). R p.elements) (Ok-same g h e) was
operated_all R u g (o ∷ ops) h keeps was e =
    let step = bind-Ok (operate u g o) (λ (next : Progress). operate_all u next ops) h e in
    operated_all R u step.0 ops h keeps (operated R u g o step.0 keeps was step.1) step.2

uploads :
    (R : Elements → Type 0) (P : State) (user : User) (t c : ℕ) (ops : List Op) (g : Progress)
    → IsKeptBy t R
    → R P.elements
    → upload P user t c ops ≡ Ok g
    → R g.elements
uploads R P user t c ops g keeps was passed =
    operated_all R (task P.elements c t ops) (start P.elements) ops g keeps was (upload-folded P user t c ops g passed).folded

-- ---- a changeset's record

records :
    (R : Elements → Type 0) (P : State) (c : ℕ) (change : ChangesetRecord → ChangesetRecord)
    → R P.elements
    → R (option_map_or (λ r. with_record P c (change r)) (changeset P c) P).elements
records R P c change was = along (changeset P c)
  where
    along : (o : Option ChangesetRecord) → R (option_map_or (λ r. with_record P c (change r)) o P).elements
    along None = was
    along (Some r) = was

-- ---- a mark

passed : (b : Bool) (r : Refusal) (a : Unit {0}) → refuse_if b r ≡ Ok a → b ≡ false
passed true r a e = cc
passed false r a e = refl

marking :
    (t : ℕ) (R : Elements → Type 0) (P : State) (k : Key) (n : ℕ) (m : Option ℕ) (a : Unit {0})
    → IsKeptBy t R
    → R P.elements
    → known_version P k n ≡ Ok a
    → R (marked P k n m).state.elements
marking t R P k n m a keeps was known =
    let there = bind-Ok
    (refuse_if (count P.elements k == 0) (refused.NoElement (Id k.id) None k.kind))
    (λ (there : Unit {0}). refuse_if (not (is_some (version P.elements k n))) (refused.NoSuchVersion (Id k.id) k.kind n))
    a
    known
    in
    let given = given-there P.elements k (passed (count P.elements k == 0) (refused.NoElement (Id k.id) None k.kind) there.0 there.1) in
    keeps.marks P.elements k n m given.0 given.1 was

-- ---- a command

by-effect :
    (R : Elements → Type 0) (a done : Effect)
    → ◌≡◌ {A = Result Effect Refusal} (Ok a) (Ok done)
    → R a.state.elements
    → R done.state.elements
by-effect R a done same holds = subst (λ (x : Effect). R x.state.elements) (Ok-same a done same) holds

pub judge-changes :
    (R : Elements → Type 0) (P : State) (user : User) (t : ℕ) (c : Command) (done : Effect)
    → IsKeptBy t R
    → R P.elements
    → judge P user t c ≡ Ok done
    → R done.state.elements
judge-changes R P user t (command.CreateChangeset tags large_from) done keeps was same =
    by-effect R (create_changeset P user t tags large_from) done same was
judge-changes R P user t (command.Retag c tags) done keeps was same =
    let own = bind-Ok
    (own_changeset P user t c)
    (λ (r : ChangesetRecord). Ok (record { state = with_tags P c tags t; answer = answer.Changeset (changeset_row c (retagged r tags t) t) }))
    done
    same
    in
    by-effect R (record { state = with_tags P c tags t; answer = answer.Changeset (changeset_row c (retagged own.0 tags t) t) }) done own.2
    (records R P c (λ (r : ChangesetRecord). retagged r tags t) was)
judge-changes R P user t (command.CloseChangeset c) done keeps was same =
    let own = bind-Ok
    (own_changeset P user t c)
    (λ (r : ChangesetRecord). Ok (record { state = with_end P c t; answer = answer.Nothing }))
    done
    same
    in
    by-effect R (record { state = with_end P c t; answer = answer.Nothing }) done own.2 (records R P c (λ (r : ChangesetRecord). ended_at r t) was)
judge-changes R P user t (command.Upload c ops) done keeps was same =
    let up = bind-Ok
    (upload P user t c ops)
    (λ (g : Progress). Ok (record { state = uploaded P t c g; answer = answer.Diff (rows ops g.keys g.done) }))
    done
    same
    in
    by-effect R (record { state = uploaded P t c up.0; answer = answer.Diff (rows ops up.0.keys up.0.done) }) done up.2
    (uploads R P user t c ops up.0 keeps was up.1)
judge-changes R P user t (command.Single c ops) done keeps was same =
    let up = bind-Ok
    (upload P user t c ops)
    (λ (g : Progress). Ok (record { state = uploaded P t c g; answer = answer.Number (single_number ops g.keys g.done) }))
    done
    same
    in
    by-effect R (record { state = uploaded P t c up.0; answer = answer.Number (single_number ops up.0.keys up.0.done) }) done up.2
    (uploads R P user t c ops up.0 keeps was up.1)
judge-changes R P user t (command.MakeRedaction title) done keeps was same = by-effect R (make_redaction P title) done same was
judge-changes R P user t (command.Redact k n redaction) done keeps was same =
    let there = bind-Ok
    (known_version P k n)
    (λ (there : Unit {0}). known_redaction P redaction >>= λ (known : Unit {0}). old_version P k n >>= λ (old : Unit {0}). Ok (marked P k n (Some redaction)))
    done
    same
    in
    let known = bind-Ok (known_redaction P redaction) (λ (known : Unit {0}). old_version P k n >>= λ (old : Unit {0}). Ok (marked P k n (Some redaction))) done there.2 in
    let old = bind-Ok (old_version P k n) (λ (old : Unit {0}). Ok (marked P k n (Some redaction))) done known.2 in
    by-effect R (marked P k n (Some redaction)) done old.2 (marking t R P k n (Some redaction) there.0 keeps was there.1)
judge-changes R P user t (command.Unredact k n) done keeps was same =
    let there = bind-Ok (known_version P k n) (λ (there : Unit {0}). Ok (marked P k n None)) done same in
    by-effect R (marked P k n None) done there.2 (marking t R P k n None there.0 keeps was there.1)

-- ---- an entry

settled :
    (R : Elements → Type 0) (P : State) (t : ℕ) (judged : Result Effect Refusal)
    → R P.elements
    → ((done : Effect) → judged ≡ Ok done → R done.state.elements)
    → R (settle P t judged).0.elements
settled R P t (Err r) was each = was
settled R P t (Ok done) was each = each done refl

-- taken or not
pub after-changes : (R : Elements → Type 0) (P : State) (e : Entry) → IsKeptBy (stamp_after P.last e.stamp) R → R P.elements → R (after P e).elements
after-changes R P e keeps was =
    let t : ℕ = stamp_after P.last e.stamp in
    settled R P t (judge P e.user t e.command) was (λ done same. judge-changes R P e.user t e.command done keeps was same)
