use Rattle.std.proofs.Common.{List, subst}
use Rattle.osm_model.specs.declared.commands.Entry.{Entry}
use Rattle.osm_model.specs.Journal.{IsLegal}
use Rattle.map_machine.proofs.keeper.BookKeeper.book.Goals as goal

pub returns-clause-legal : goal.returns-clause-legal
returns-clause-legal c = subst (λ (es : List Entry). IsLegal es) c.self.view_is c.book_law.ensures
