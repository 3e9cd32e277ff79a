use Rattle.std.proofs.Common.{◌≡◌, ℕ, Ok, List, ap, sym, ◌∙◌, subst, arith}
use Rattle.std.specs.Prelude.{slice_index}
use Rattle.osm_base.specs.Row.{Row}
use Rattle.osm_element.specs.declared.elements.Elements.{Elements}
use Rattle.osm_change.specs.declared.operations.Op.{Op}
use Rattle.changeset_core.specs.declared.records.ChangesetRecord.{ChangesetRecord}
use Rattle.osm_model.specs.Act.{judge}
use Rattle.osm_model.specs.declared.commands.Command.{Command}
use Rattle.osm_model.specs.declared.states.State.{State}
use Rattle.osm_world.specs.World.{stored_state, Runs}
use Rattle.osm_world.proofs.Judging.{open_there, created, retagging, closing, uploading, singling, titled, redacting, unredacting, may_retag, may_close, may_upload, may_single, may_redact, may_unredact}
use Rattle.osm_world.proofs.Uploaded.{numbered_same, there_in}
use Rattle.osm_world.proofs.stores.Stores.carry_out.Goals as goal

pub returns-in-CreateChangeset-clause-done : goal.returns-in-CreateChangeset-clause-done
returns-in-CreateChangeset-clause-done c done e =
    let P : State = stored_state c.args.self.now in
    let J : Command → Type 0 = λ d. judge P c.args.user c.args.at d ≡ Ok done in
    ap (λ (rs : List ChangesetRecord). record P { changesets = rs }) c.add_changeset.ensures.records
    ∙ sym (created P c.args.user c.args.at c.in-CreateChangeset.tags c.in-CreateChangeset.large_from done (subst J c.in-CreateChangeset.is e))

pub set_tags-requires-clause-counted : goal.set_tags-requires-clause-counted
set_tags-requires-clause-counted c =
    (may_retag (stored_state c.args.self.now) c.args.user c.args.at c.args.command c.in-Retag.changeset c.in-Retag.tags c.requires.accepted c.in-Retag.is).1.there.0

pub set_tags-requires-clause-known : goal.set_tags-requires-clause-known
set_tags-requires-clause-known c =
    there_in c.args.self.now.changesets.items c.in-Retag.changeset (may_retag (stored_state c.args.self.now) c.args.user c.args.at c.args.command c.in-Retag.changeset c.in-Retag.tags c.requires.accepted c.in-Retag.is).1.there.1

pub set_tags-requires-clause-is_open : goal.set_tags-requires-clause-is_open
set_tags-requires-clause-is_open c r at =
    let may = (may_retag (stored_state c.args.self.now) c.args.user c.args.at c.args.command c.in-Retag.changeset c.in-Retag.tags c.requires.accepted c.in-Retag.is) in
    open_there (stored_state c.args.self.now) c.args.at c.in-Retag.changeset may.0 r may.1 at

pub returns-in-Retag-clause-done : goal.returns-in-Retag-clause-done
returns-in-Retag-clause-done c done e =
    let P : State = stored_state c.args.self.now in
    let J : Command → Type 0 = λ d. judge P c.args.user c.args.at d ≡ Ok done in
    let change = retagging P c.args.user c.args.at c.in-Retag.changeset c.in-Retag.tags done (subst J c.in-Retag.is e) in
    ap (λ (rs : List ChangesetRecord). record P { changesets = rs }) (c.set_tags.ensures.records change.was change.own.found)
    ∙ sym change.state

pub returns-in-Retag-clause-numbered : goal.returns-in-Retag-clause-numbered
returns-in-Retag-clause-numbered c =
    numbered_same c.args.self.now.changesets.items c.set_tags.new.changesets.items c.set_tags.ensures.ids c.requires.numbered

pub returns-in-Retag-clause-rooms : goal.returns-in-Retag-clause-rooms
returns-in-Retag-clause-rooms c i =
    omega (arith, ap (λ (l : List ℕ). slice_index l i) c.set_tags.ensures.rooms)

pub set_end-requires-clause-counted : goal.set_end-requires-clause-counted
set_end-requires-clause-counted c =
    (may_close (stored_state c.args.self.now) c.args.user c.args.at c.args.command c.in-CloseChangeset.changeset c.requires.accepted c.in-CloseChangeset.is).1.there.0

pub set_end-requires-clause-known : goal.set_end-requires-clause-known
set_end-requires-clause-known c =
    there_in c.args.self.now.changesets.items c.in-CloseChangeset.changeset (may_close (stored_state c.args.self.now) c.args.user c.args.at c.args.command c.in-CloseChangeset.changeset c.requires.accepted c.in-CloseChangeset.is).1.there.1

pub set_end-requires-clause-is_open : goal.set_end-requires-clause-is_open
set_end-requires-clause-is_open c r at =
    let may = (may_close (stored_state c.args.self.now) c.args.user c.args.at c.args.command c.in-CloseChangeset.changeset c.requires.accepted c.in-CloseChangeset.is) in
    open_there (stored_state c.args.self.now) c.args.at c.in-CloseChangeset.changeset may.0 r may.1 at

pub returns-in-CloseChangeset-clause-done : goal.returns-in-CloseChangeset-clause-done
returns-in-CloseChangeset-clause-done c done e =
    let P : State = stored_state c.args.self.now in
    let J : Command → Type 0 = λ d. judge P c.args.user c.args.at d ≡ Ok done in
    let change = closing P c.args.user c.args.at c.in-CloseChangeset.changeset done (subst J c.in-CloseChangeset.is e) in
    ap (λ (rs : List ChangesetRecord). record P { changesets = rs }) (c.set_end.ensures.records change.was change.own.found)
    ∙ sym change.state

pub returns-in-CloseChangeset-clause-numbered : goal.returns-in-CloseChangeset-clause-numbered
returns-in-CloseChangeset-clause-numbered c =
    numbered_same c.args.self.now.changesets.items c.set_end.new.changesets.items c.set_end.ensures.ids c.requires.numbered

pub returns-in-CloseChangeset-clause-rooms : goal.returns-in-CloseChangeset-clause-rooms
returns-in-CloseChangeset-clause-rooms c i =
    omega (arith, ap (λ (l : List ℕ). slice_index l i) c.set_end.ensures.rooms)

pub upload-requires-clause-accepted : goal.upload-requires-clause-accepted
upload-requires-clause-accepted c =
    (may_upload (stored_state c.args.self.now) c.args.user c.args.at c.args.command c.in-Upload.changeset c.in-Upload.change c.into_operations-operations.result c.requires.accepted c.in-Upload.is c.into_operations-operations.ensures.all).runs

pub upload-requires-clause-known : goal.upload-requires-clause-known
upload-requires-clause-known c =
    (may_upload (stored_state c.args.self.now) c.args.user c.args.at c.args.command c.in-Upload.changeset c.in-Upload.change c.into_operations-operations.result c.requires.accepted c.in-Upload.is c.into_operations-operations.ensures.all).there

pub returns-in-Upload-clause-done : goal.returns-in-Upload-clause-done
returns-in-Upload-clause-done c done e =
    let P : State = stored_state c.args.self.now in
    let J : Command → Type 0 = λ d. judge P c.args.user c.args.at d ≡ Ok done in
    let up = uploading P c.args.user c.args.at c.in-Upload.changeset c.in-Upload.change done (subst J c.in-Upload.is e) in
    let R : List Op → Type 0 = λ ops. Runs P.elements c.in-Upload.changeset c.args.at ops up.final in
    c.upload.ensures.done up.final (subst R (sym c.into_operations-operations.ensures.all) up.runs)
    ∙ sym up.state

pub upload-requires-in-Single-clause-accepted : goal.upload-requires-in-Single-clause-accepted
upload-requires-in-Single-clause-accepted c =
    (may_single (stored_state c.args.self.now) c.args.user c.args.at c.args.command c.in-Single.changeset c.in-Single.change c.into_operations-operations-in-Single.result c.requires.accepted c.in-Single.is (c.into_operations-operations-in-Single.ensures.all ∙ c.into_change.ensures.value)).runs

pub upload-requires-in-Single-clause-known : goal.upload-requires-in-Single-clause-known
upload-requires-in-Single-clause-known c =
    (may_single (stored_state c.args.self.now) c.args.user c.args.at c.args.command c.in-Single.changeset c.in-Single.change c.into_operations-operations-in-Single.result c.requires.accepted c.in-Single.is (c.into_operations-operations-in-Single.ensures.all ∙ c.into_change.ensures.value)).there

pub returns-in-Single-clause-done : goal.returns-in-Single-clause-done
returns-in-Single-clause-done c done e =
    let P : State = stored_state c.args.self.now in
    let J : Command → Type 0 = λ d. judge P c.args.user c.args.at d ≡ Ok done in
    let up = singling P c.args.user c.args.at c.in-Single.changeset c.in-Single.change done (subst J c.in-Single.is e) in
    let R : List Op → Type 0 = λ ops. Runs P.elements c.in-Single.changeset c.args.at ops up.final in
    c.upload-in-Single.ensures.done up.final (subst R (sym (c.into_operations-operations-in-Single.ensures.all ∙ c.into_change.ensures.value)) up.runs)
    ∙ sym up.state

pub returns-in-MakeRedaction-clause-done : goal.returns-in-MakeRedaction-clause-done
returns-in-MakeRedaction-clause-done c done e =
    let P : State = stored_state c.args.self.now in
    let J : Command → Type 0 = λ d. judge P c.args.user c.args.at d ≡ Ok done in
    ap (λ (row : Row (List ℕ)). record P { redactions = row.items }) c.make.ensures.made
    ∙ sym (titled P c.args.user c.args.at c.in-MakeRedaction.title done (subst J c.in-MakeRedaction.is e))

pub mark-requires-clause-counted : goal.mark-requires-clause-counted
mark-requires-clause-counted c =
    (may_redact (stored_state c.args.self.now) c.args.user c.args.at c.args.command c.in-Redact.key c.in-Redact.version c.in-Redact.redaction c.requires.accepted c.in-Redact.is).0

pub mark-requires-clause-made : goal.mark-requires-clause-made
mark-requires-clause-made c =
    (may_redact (stored_state c.args.self.now) c.args.user c.args.at c.args.command c.in-Redact.key c.in-Redact.version c.in-Redact.redaction c.requires.accepted c.in-Redact.is).1

pub returns-in-Redact-clause-done : goal.returns-in-Redact-clause-done
returns-in-Redact-clause-done c done e =
    let P : State = stored_state c.args.self.now in
    let J : Command → Type 0 = λ d. judge P c.args.user c.args.at d ≡ Ok done in
    ap (λ (E : Elements). record P { elements = E }) c.mark.ensures
    ∙ sym (redacting P c.args.user c.args.at c.in-Redact.key c.in-Redact.version c.in-Redact.redaction done (subst J c.in-Redact.is e)).state

pub mark-requires-in-Unredact-clause-counted : goal.mark-requires-in-Unredact-clause-counted
mark-requires-in-Unredact-clause-counted c =
    (may_unredact (stored_state c.args.self.now) c.args.user c.args.at c.args.command c.in-Unredact.key c.in-Unredact.version c.requires.accepted c.in-Unredact.is).0

pub mark-requires-in-Unredact-clause-made : goal.mark-requires-in-Unredact-clause-made
mark-requires-in-Unredact-clause-made c =
    (may_unredact (stored_state c.args.self.now) c.args.user c.args.at c.args.command c.in-Unredact.key c.in-Unredact.version c.requires.accepted c.in-Unredact.is).1

pub returns-in-Unredact-clause-done : goal.returns-in-Unredact-clause-done
returns-in-Unredact-clause-done c done e =
    let P : State = stored_state c.args.self.now in
    let J : Command → Type 0 = λ d. judge P c.args.user c.args.at d ≡ Ok done in
    ap (λ (E : Elements). record P { elements = E }) c.mark-in-Unredact.ensures
    ∙ sym (unredacting P c.args.user c.args.at c.in-Unredact.key c.in-Unredact.version done (subst J c.in-Unredact.is e)).state
