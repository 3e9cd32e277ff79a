use Rattle.std.proofs.Common.{refl, subst}
use Rattle.http_link.specs.Desk.{counted_reply}
use Rattle.session_desk.specs.Answered.{AtDesk}
use Rattle.notes_core.specs.declared.commands.NoteEntry.{NoteEntry}
use Rattle.notes_desk.specs.Desk.{AllowsNotes}
use Rattle.notes_desk.proofs.desk.NotesDesk.answer_on.Goals as goal

pub returns-clause-allows : goal.returns-clause-allows
returns-clause-allows g c =
    let users = c.self.inside.users.now in
    let it = c.self.inside.session in
    subst
    (λ (at : AtDesk NoteEntry). AllowsNotes at c.args.message.now c.args.moment (counted_reply c.refuse.result) at)
    c.self.view_is
    (record { users = refl; replies = c.refuse.ensures.answers users it c.args.message.now c.args.moment c.in-Err.ensures.gives })
