use Rattle.std.proofs.Common.{Result, Ok, Err, OnOk, sym, ◌∙◌, subst}
use Rattle.osm_base.specs.declared.memory.Memory.{Memory}
use Rattle.notes_core.specs.World.{HasRoomAt, state_of}
use Rattle.notes_core.specs.declared.commands.NoteSubject.{NoteSubject}
use Rattle.notes_core.proofs.Judged.{taken_within}
use Rattle.notes_core.proofs.worlds.NotesWorld.make_room.Goals as goal

on_ok : {P Q : Type 0} (r : Result (Unit {0}) Memory) → (P → Q) → OnOk r P → OnOk r Q
on_ok (Ok u) f h = f h
on_ok (Err e) f h = tt

pub returns-in-New-clause-ok : goal.returns-in-New-clause-ok
returns-in-New-clause-ok c =
    on_ok c.room_for_note.result (λ room taken. subst (λ (s : NoteSubject). HasRoomAt c.room_for_note.new.self s) (sym c.in-New.is ∙ c.subject.ensures) room) c.room_for_note.ensures.ok

pub returns-in-Known-clause-ok : goal.returns-in-Known-clause-ok
returns-in-Known-clause-ok c =
    on_ok c.room_for_comment.result
    (λ room taken. let within = taken_within (state_of c.args.self.now) c.args.entry.now c.in-Known.id (sym c.subject.ensures ∙ c.in-Known.is) taken in
    subst (λ (s : NoteSubject). HasRoomAt c.room_for_comment.new.self s) (sym c.in-Known.is ∙ c.subject.ensures) (room within.0 within.1))
    c.room_for_comment.ensures.ok
