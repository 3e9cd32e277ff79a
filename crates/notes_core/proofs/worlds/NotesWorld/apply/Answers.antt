use Rattle.std.proofs.Common.{◌-◌, ◌++◌, ◌∷◌, [], sym, ap, ◌∙◌, subst}
use Rattle.std.specs.Prelude.{slice_set}
use Rattle.notes_core.specs.Act.{opened, commented, comment_of, with_note, changed}
use Rattle.notes_core.specs.World.{HasRoomAt, IsTimelyComment, state_of}
use Rattle.notes_core.specs.declared.commands.NoteSubject.{NoteSubject}
use Rattle.notes_core.specs.declared.notes.NoteComment.{NoteComment}
use Rattle.notes_core.proofs.Judged.{notes_with, after-is, on_note, opens, stamp_timely, taken_ok, taken_within}
use Rattle.notes_core.proofs.worlds.NotesWorld.apply.Goals as goal

pub open-requires-clause-room : goal.open-requires-clause-room
open-requires-clause-room c = subst (λ (s : NoteSubject). HasRoomAt c.args.self.now s) (sym c.subject.ensures ∙ c.in-New.is) c.requires.room

pub add-requires-clause-room : goal.add-requires-clause-room
add-requires-clause-room c = subst (λ (s : NoteSubject). HasRoomAt c.args.self.now s) (sym c.subject.ensures ∙ c.in-Known.is) c.requires.room

pub add-requires-clause-counted : goal.add-requires-clause-counted
add-requires-clause-counted c = (taken_within (state_of c.args.self.now) c.args.entry c.in-Known.id (sym c.subject.ensures ∙ c.in-Known.is) c.requires.accepted).0

pub add-requires-clause-known : goal.add-requires-clause-known
add-requires-clause-known c = (taken_within (state_of c.args.self.now) c.args.entry c.in-Known.id (sym c.subject.ensures ∙ c.in-Known.is) c.requires.accepted).1

pub open-requires-clause-timely : goal.open-requires-clause-timely
open-requires-clause-timely c =
    subst (λ (x : NoteComment). IsTimelyComment x) (sym c.comment_from.ensures) (stamp_timely (state_of c.args.self.now) c.args.entry c.requires.accepted c.laws.ensures)

pub add-requires-clause-timely : goal.add-requires-clause-timely
add-requires-clause-timely c =
    subst (λ (x : NoteComment). IsTimelyComment x) (sym c.comment_from-in-Known.ensures) (stamp_timely (state_of c.args.self.now) c.args.entry c.requires.accepted c.laws.ensures)

pub returns-in-New : goal.returns-in-New
returns-in-New c =
    let S = state_of c.args.self.now in
    let e = c.args.entry in
    let first = comment_of e.caller e.stamp e.command in
    let judged = opens S e.caller e.stamp e.command c.in-New.at (sym c.subject.ensures ∙ c.in-New.is) in
    c.open.ensures
    ∙ ap (λ (x : NoteComment). notes_with (S.notes ++ opened c.in-New.at x ∷ []) x.stamp) c.comment_from.ensures
    ∙ sym (after-is S e (with_note S (opened c.in-New.at first)) c.requires.accepted judged)

pub returns-in-Known : goal.returns-in-Known
returns-in-Known c =
    let S = state_of c.args.self.now in
    let e = c.args.entry in
    let on = on_note S e.caller e.stamp e.command c.in-Known.id (sym c.subject.ensures ∙ c.in-Known.is) (taken_ok S e c.requires.accepted) in
    c.add.ensures on.found on.at
    ∙ ap (λ (x : NoteComment). notes_with (slice_set S.notes (c.in-Known.id - 1) (commented on.found x)) x.stamp) c.comment_from-in-Known.ensures
    ∙ sym (after-is S e (changed S c.in-Known.id (commented on.found (comment_of e.caller e.stamp e.command))) c.requires.accepted on.judged)
