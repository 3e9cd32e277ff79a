use Rattle.std.proofs.lemmas.Result.{on_ok_weaker}
use Rattle.upload_check.proofs.Older.{puts_first, puts_second}
use Rattle.upload_check.proofs.older_standings.add.Goals as goal

pub returns-then-is_past-clause-set : goal.returns-then-is_past-clause-set
returns-then-is_past-clause-set c =
    on_ok_weaker c.push.result (puts_first c.args.rising.now.items c.args.others.now.entries c.push.new.rising.items c.args.id c.args.standing) c.push.ensures.put

pub returns-else-is_past-clause-set : goal.returns-else-is_past-clause-set
returns-else-is_past-clause-set c =
    on_ok_weaker c.set_other.result (puts_second c.args.rising.now.items c.args.others.now.entries c.set_other.new.others.entries c.args.id c.args.standing c.requires.none) c.set_other.ensures.set
