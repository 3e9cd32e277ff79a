use Rattle.std.proofs.Common.{◌∙◌}
use Rattle.api_desk.specs.Desk.{entries_of, users_of}
use Rattle.osm_serve.proofs.PlayLemmas.{exported}
use Rattle.osm_serve.proofs.play.journal_over.Goals as goal

pub returns : goal.returns
returns c =
    exported c.args.seed c.args.sessions c.args.uploads c.args.users.now (users_of c.in_ok-desk.desk) c.new-2.result (entries_of c.in_ok-desk.desk)
    (entries_of c.journal_at.new.desk) c.journal_at.result c.requires.table c.in_ok-desk.ensures.users c.new-2.ensures
    (c.in_ok-desk.ensures.journal ∙ c.requires.empty) c.journal_at.ensures
