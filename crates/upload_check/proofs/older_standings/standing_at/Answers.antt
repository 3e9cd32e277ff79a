use Rattle.upload_check.proofs.Older.{read_place}
use Rattle.upload_check.proofs.older_standings.standing_at.Goals as goal

pub returns-in-Some : goal.returns-in-Some
returns-in-Some c = read_place c.args.rising.now c.in-Some.place c.args.id c.requires c.in-Some.ensures
