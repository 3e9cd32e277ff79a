use Rattle.notes_core.proofs.Judged.{moment_of}
use Rattle.notes_core.proofs.answers.changed_answer.Goals as goal

pub note_answer-requires-clause-next : goal.note_answer-requires-clause-next
note_answer-requires-clause-next c = moment_of c.args.entry.now c.requires
