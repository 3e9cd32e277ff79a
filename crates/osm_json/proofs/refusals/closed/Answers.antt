use Rattle.std.proofs.Common.{codes}
use Rattle.osm_json.specs.Shown.{field, natural, moment}
use Rattle.osm_json.proofs.Tokens.{◌⊕◌, one_sent}
use Rattle.osm_json.proofs.refusals.closed.Goals as goal

pub returns : goal.returns
returns c =
    one_sent (field (codes "changeset") (natural c.args.changeset)) c.in_ok-natural.ensures ⊕ one_sent (field (codes "closed_at") (moment c.args.at)) c.in_ok-moment.ensures
