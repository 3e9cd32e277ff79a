use Rattle.std.proofs.Common.{◌≡◌, ℕ, List, IfOk, Result, sym, ap, ◌∙◌, subst}
use Rattle.notes_core.specs.Act.{Effect, comment_of, commented, opened}
use Rattle.notes_core.specs.Shown.{effect_bytes, note_bytes}
use Rattle.notes_core.specs.World.{state_of}
use Rattle.notes_core.specs.declared.notes.Note.{Note}
use Rattle.notes_core.specs.declared.notes.NoteRefusal.{NoteRefusal}
use Rattle.notes_core.proofs.Judged.{opens, on_note, note_within, moment_of, same_note}
use Rattle.notes_core.proofs.answers.entry_answer.Goals as goal

pub note_answer-requires-clause-next : goal.note_answer-requires-clause-next
note_answer-requires-clause-next c = moment_of c.args.entry.now c.requires.timely

pub returns-in-New : goal.returns-in-New
returns-in-New c =
    let S = state_of c.args.world.now in
    let e = c.args.entry.now in
    let judged = opens S e.caller e.stamp e.command c.in-New.at (sym c.subject.ensures ∙ c.in-New.is) in
    subst (λ (bytes : List ℕ). IfOk c.note_answer.result (λ b. b ≡ bytes))
    (ap (λ (n : ℕ). note_bytes n (opened c.in-New.at (comment_of e.caller e.stamp e.command))) c.next_number.ensures
    ∙ ap (λ (r : Result Effect NoteRefusal). effect_bytes r) (sym judged))
    c.note_answer.ensures

pub known_note-requires-clause-counted : goal.known_note-requires-clause-counted
known_note-requires-clause-counted c =
    let S = state_of c.args.world.now in
    let e = c.args.entry.now in
    let on = on_note S e.caller e.stamp e.command c.in-Known.id (sym c.subject.ensures ∙ c.in-Known.is) c.requires.accepted in
    (note_within S c.in-Known.id on.found on.at).0

pub known_note-requires-clause-known : goal.known_note-requires-clause-known
known_note-requires-clause-known c =
    let S = state_of c.args.world.now in
    let e = c.args.entry.now in
    let on = on_note S e.caller e.stamp e.command c.in-Known.id (sym c.subject.ensures ∙ c.in-Known.is) c.requires.accepted in
    (note_within S c.in-Known.id on.found on.at).1

pub returns-in-Known : goal.returns-in-Known
returns-in-Known c =
    let S = state_of c.args.world.now in
    let e = c.args.entry.now in
    let on = on_note S e.caller e.stamp e.command c.in-Known.id (sym c.subject.ensures ∙ c.in-Known.is) c.requires.accepted in
    let same = same_note S c.in-Known.id c.known_note.result.now.note on.found c.known_note.ensures on.at in
    subst (λ (bytes : List ℕ). IfOk c.changed_answer.result (λ b. b ≡ bytes))
    (ap (λ (n : Note). note_bytes c.in-Known.id (commented n (comment_of e.caller e.stamp e.command))) same
    ∙ ap (λ (r : Result Effect NoteRefusal). effect_bytes r) (sym on.judged))
    c.changed_answer.ensures
