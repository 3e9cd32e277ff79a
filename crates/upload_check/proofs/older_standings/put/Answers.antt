use Rattle.upload_check.proofs.Older.{put_puts}
use Rattle.upload_check.proofs.older_standings.put.Goals as goal

pub returns-clause-put : goal.returns-clause-put
returns-clause-put c = put_puts c.args.rising.now.items c.args.place c.args.id c.requires.here.standing c.args.standing c.requires.order c.requires.here.here
