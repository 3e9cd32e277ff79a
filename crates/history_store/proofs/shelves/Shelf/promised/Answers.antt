use Rattle.std.proofs.Common.{sym}
use Rattle.history_store.proofs.Rows.{none_free}
use Rattle.history_store.proofs.shelves.Shelf.promised.Goals as goal

pub returns-in-None : goal.returns-in-None
returns-in-None c = sym (none_free c.self.inside.rows c.self.inside.used c.args.place c.args.self.now c.self.view_is (sym c.in-None.ensures))
