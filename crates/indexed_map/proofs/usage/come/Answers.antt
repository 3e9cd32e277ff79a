use Rattle.std.proofs.Common.{sym}
use Rattle.indexed_map.proofs.UseSteps.{spent_back, spent_added}
use Rattle.indexed_map.proofs.usage.come.Goals as goal

pub returns-then-had-clause-spent : goal.returns-then-had-clause-spent
returns-then-had-clause-spent c b = spent_back c.args.users.now c.args.pair.user c.args.pair.used b _ (sym c.if-had.ensures) (c.come_back.ensures.room b)

pub returns-else-had-clause-spent : goal.returns-else-had-clause-spent
returns-else-had-clause-spent c b = spent_added c.args.users.now c.args.pair.user c.args.pair.used b _ (c.requires.room (sym c.if-had.ensures)) (sym c.if-had.ensures) (c.add.ensures.room b)
