use Rattle.std.proofs.Common.{ap, ◌∙◌, not}
use Rattle.user_table.proofs.RowLemmas.{list_any-now}
use Rattle.user_table.proofs.drafts.insert_name.Goals as goal

pub returns-clause-new : goal.returns-clause-new
returns-clause-new c = c.in_ok-insert.ensures.added ∙ ap not (list_any-now c.args.names.now.keys c.args.name.now)
