-- Plans of commands, and where they differ from the notes.
use Rattle.std.specs.Prelude.{◌≡◌, ⊤, ℕ, length}
use Rattle.std.specs.Option.{option_map_or}
use Rattle.notes_core.specs.Act.{note, subject_of}
use Rattle.notes_core.specs.declared.commands.NoteAsked.{NoteAsked}
use Rattle.notes_core.specs.declared.commands.NoteLook.{NoteLook}
use Rattle.notes_core.specs.declared.commands.NotePlan.{NotePlan}
use Rattle.notes_core.specs.declared.commands.NoteSubject.{NoteSubject}
use Rattle.notes_core.specs.declared.commands.NoteSubject.TheVariants.{New, Known}
use Rattle.notes_core.specs.declared.notes.Notes.{Notes}

-- how many comments a note has: 0 where there is no such note
abbrev pub comments_of : Notes → ℕ → ℕ
comments_of S id = option_map_or (λ n. length n.comments) (note S id) 0

-- a plan that names a note kept the number of comments that the note has
abbrev pub StandsAt : NoteSubject → ℕ → Notes → Type 0
StandsAt (New at) count S = ⊤
StandsAt (Known id) count S = count ≡ comments_of S id

abbrev pub Stands : NotePlan → Notes → Type 0
Stands plan S = StandsAt (subject_of plan.asked.command) plan.count S

-- the plan is of this command, made on these notes
abbrev pub IsPlanned : Notes → NoteAsked → NotePlan → Type 0
IsPlanned S asked plan = (plan.asked ≡ asked) × Stands plan S

-- the plan kept another number than the note has now
pub record Differs (look : NoteLook) (plan : NotePlan) (S : Notes) : Type 0 where
  pub named : subject_of plan.asked.command ≡ Known look.id
  pub planned : look.planned ≡ plan.count
  pub found : look.found ≡ comments_of S look.id
  pub other : look.planned ≡ look.found → ⊥
