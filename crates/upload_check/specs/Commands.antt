-- The plan of an upload as that of a command.
use Rattle.std.specs.Prelude.{◌≡◌, ⊤, if◌then◌else◌, List}
use Rattle.osm_base.specs.declared.people.User.{User}
use Rattle.osm_change.specs.declared.answers.Answer.{Answer}
use Rattle.osm_change.specs.declared.operations.FirstIds.{FirstIds}
use Rattle.osm_change.specs.declared.operations.OpDone.{OpDone}
use Rattle.osm_later.specs.Plan.{IsPlannedOn, diff_answer, number_answer}
use Rattle.osm_model.specs.Journal.{Later}
use Rattle.osm_model.specs.declared.commands.Command.{Command}
use Rattle.osm_model.specs.declared.commands.Command.TheVariants as command
use Rattle.osm_model.specs.declared.states.State.{State}
use Rattle.upload_check.specs.Asked.{AskedUpload}
use Rattle.upload_check.specs.Planned.{Planned, plan_of}

abbrev pub command_of : AskedUpload → Command
command_of a = if a.single then command.Single a.changeset a.change else command.Upload a.changeset a.change

-- no upload and no single change
abbrev pub IsOther : Command → Type 0
IsOther (command.Upload c ops) = ⊥
IsOther (command.Single c ops) = ⊥
IsOther c = ⊤

-- it is the plan of that user's command, made on that map
pub record IsUploadPlan (P : State) (who : User) (c : Command) (p : Planned) : Type 0 where
  pub user : p.asked.user ≡ who
  pub command : command_of p.asked ≡ c
  pub planned : IsPlannedOn P.elements (plan_of p)

-- it was made on some map, and this one is later
pub record IsForeseen (p : Planned) (now : State) : Type 0 where
  pub begun : State
  pub planned : IsPlannedOn begun.elements (plan_of p)
  pub later : Later begun now

-- the answer to an upload that is accepted, or to a single change
abbrev pub told_upload : FirstIds → AskedUpload → List OpDone → Answer
told_upload first a ds = if a.single then number_answer first a.change ds else diff_answer first a.change ds
