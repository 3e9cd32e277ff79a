use Rattle.std.proofs.Common.{◌++◌}
use Rattle.notes_kept.proofs.Journals.{unnumbered}
use Rattle.notes_kept.proofs.server.NotesJournalEntryJudgeNoteEntry.keep.Goals as goal

pub returns-then-not-branch-clause-refused : goal.returns-then-not-branch-clause-refused
returns-then-not-branch-clause-refused c told more legal =
    unnumbered (c.args.kept.now ++ c.args.part.items) (c.in_ok-push_all.ensures.refused c.if-not-branch.true) more legal
