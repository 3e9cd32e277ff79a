use Rattle.std.proofs.Common.{◌∙◌}
use Rattle.api_desk.specs.Desk.{entries_of, users_of}
use Rattle.osm_serve.proofs.PlayLemmas.{played_of}
use Rattle.osm_serve.proofs.play.run_over.Goals as goal

pub returns : goal.returns
returns c =
    played_of c.args.seed c.args.sessions c.args.uploads c.args.users.now (users_of c.in_ok-desk.desk) c.new-2.result (entries_of c.in_ok-desk.desk)
    (entries_of c.run_at.new.desk) c.run_at.result c.requires.table c.in_ok-desk.ensures.users c.new-2.ensures
    (c.in_ok-desk.ensures.journal ∙ c.requires.empty) c.run_at.ensures
