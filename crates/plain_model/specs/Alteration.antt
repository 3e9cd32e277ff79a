-- What an accepted command changes.
use Rattle.std.specs.Prelude.{◌≡◌, ⊤, ◌≤◌, ◌<◌, Result, Ok, Err}
use Rattle.osm_change.specs.declared.answers.Answer.{Answer}
use Rattle.osm_change.specs.declared.refusals.Refusal.{Refusal}
use Rattle.osm_element.specs.Elements.{count}
use Rattle.osm_model.specs.declared.faults.Fault.{Fault}
use Rattle.osm_model.specs.declared.faults.Fault.TheVariants as fault
use Rattle.osm_model.specs.declared.states.State.{State}
use Rattle.plain_model.specs.declared.alterations.Alteration.{Alteration}
use Rattle.plain_model.specs.declared.alterations.Alteration.TheVariants as alteration
use Rattle.osm_model.specs.State.{HasChangeset, with_changeset, with_tags, with_end, with_work, with_redaction, with_mark}
use Rattle.osm_model.specs.Act.{Effect}

-- the state after it, the stamp aside
abbrev pub state_after : State → Alteration → State
state_after P (alteration.AddChangeset made) = with_changeset P made
state_after P (alteration.SetTags c tags t) = with_tags P c tags t
state_after P (alteration.SetEnd c t) = with_end P c t
state_after P (alteration.EnterWork c t E works area) = with_work P c t E works area
state_after P (alteration.AddRedaction title) = with_redaction P title
state_after P (alteration.Mark k n redaction) = with_mark P k n redaction

-- a changeset that is changed is there, and so is a version that gets a mark
abbrev pub CanTake : State → Alteration → Type 0
CanTake P (alteration.AddChangeset made) = ⊤
CanTake P (alteration.SetTags c tags t) = HasChangeset P c
CanTake P (alteration.SetEnd c t) = HasChangeset P c
CanTake P (alteration.EnterWork c t E works area) = HasChangeset P c
CanTake P (alteration.AddRedaction title) = ⊤
CanTake P (alteration.Mark k n redaction) = (0 < n) × (n ≤ count P.elements k)

abbrev pub effect : State → Alteration → Answer → Effect
effect P e answer = record { state = state_after P e; answer = answer }

-- an alteration and an answer are those of the rules, unless memory ran out
abbrev pub StepsTo : State → Result Effect Refusal → Result (Alteration × Answer) Fault → Type 0
StepsTo P expected (Ok done) = (expected ≡ Ok (effect P done.0 done.1)) × CanTake P done.0
StepsTo P expected (Err fault.Memory) = ⊤
StepsTo P expected (Err (fault.Refused r)) = expected ≡ Err r
