use Rattle.map_machine.proofs.Journals.{legal_of}
use Rattle.map_machine.proofs.books.book_law.Goals as goal

pub returns : goal.returns
returns c = legal_of c.args.book.now c.journal-entries.ensures.kept
