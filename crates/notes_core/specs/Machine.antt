-- Notes as a machine.
use Rattle.std.specs.Prelude.{ℕ, List, Option, Some, None, Result, Ok, Err}
use Rattle.osm_base.specs.Stamp.{stamp_after}
use Rattle.machine_law.specs.declared.tags.Settled.{Settled}
use Rattle.machine_law.specs.declared.tags.Tag.{Tag}
use Rattle.machine_law.specs.Rules.{Rules}
use Rattle.notes_core.specs.Act.{Effect, empty, known, judge, after, takes, entry_of}
use Rattle.notes_core.specs.Bound.{AreBounded}
use Rattle.notes_core.specs.Plan.{Stands, IsPlanned, Differs}
use Rattle.notes_core.specs.Search.{found, numbered}
use Rattle.notes_core.specs.Shown.{effect_bytes, one_bytes, found_bytes}
use Rattle.notes_core.specs.declared.commands.NoteAsked.{NoteAsked}
use Rattle.notes_core.specs.declared.commands.NoteEntry.{NoteEntry}
use Rattle.notes_core.specs.declared.commands.NoteLook.{NoteLook}
use Rattle.notes_core.specs.declared.commands.NotePlan.{NotePlan}
use Rattle.notes_core.specs.declared.commands.NoteQuery.{NoteQuery}
use Rattle.notes_core.specs.declared.commands.NoteQuery.TheVariants.{One, Within}
use Rattle.notes_core.specs.declared.notes.NoteRefusal.{NoteRefusal}
use Rattle.notes_core.specs.declared.notes.Notes.{Notes}

-- the entry of a command that is accepted
abbrev pub entry_if : Result Effect NoteRefusal → NoteEntry → Option NoteEntry
entry_if (Ok done) e = Some e
entry_if (Err r) e = None

-- what a caller's command comes to, as that call, at a moment
abbrev pub act_as : Notes → Tag → ℕ → NoteAsked → Settled NoteEntry
act_as S tag moment asked = record {
  answer = effect_bytes (judge S asked.caller (stamp_after S.last moment) asked.command);
  entry = entry_if
      (judge S asked.caller (stamp_after S.last moment) asked.command)
      (entry_of S tag.session tag.call asked.caller moment asked.command);
}

-- what a query is answered, at any moment
abbrev pub reply : Notes → NoteQuery → List ℕ
reply S (One id) = one_bytes id (known S id)
reply S (Within within closed) = found_bytes (numbered S) (found S within closed)

abbrev pub tag_of : NoteEntry → Tag
tag_of e = record { session = e.session; call = e.call }

-- the rules of notes
abbrev pub note_rules : Rules Notes NoteAsked NoteQuery NotePlan NoteEntry NoteLook
note_rules = record {
  start = empty;
  act = act_as;
  after = after;
  takes = takes;
  reply = λ S q moment. reply S q;
  tag_of = tag_of;
  planned = IsPlanned;
  stands = Stands;
  differs = Differs;
  consistent = AreBounded;
}
