-- Whose changeset a version is.
use Rattle.std.specs.Prelude.{All, IsSome}
use Rattle.osm_element.specs.Elements.{version, EachVersion}
use Rattle.osm_element.specs.declared.elements.Elements.{Elements}
use Rattle.changeset_core.specs.declared.records.ChangesetRecord.{ChangesetRecord}
use Rattle.changeset_core.specs.declared.records.Work.{Work}
use Rattle.osm_model.specs.State.{HasChangeset}
use Rattle.osm_model.specs.declared.states.State.{State}

abbrev pub IsVersion : Elements → Work → Type 0
IsVersion E w = IsSome (version E w.key w.version)

abbrev pub DidVersions : Elements → ChangesetRecord → Type 0
DidVersions E r = All (IsVersion E) r.did

-- the changeset of every version is there, and so is every version that a changeset made
pub record IsAttributed (P : State) : Type 0 where
  pub versions : EachVersion (λ v. HasChangeset P v.changeset) P.elements
  pub changesets : All (DidVersions P.elements) P.changesets
