use Rattle.osm_base.specs.declared.limits.TheConstants.{BODY_LIMIT}
use Rattle.server_frame.proofs.link.link_left_alone.Goals as goal

pub returns : goal.returns
returns c = c.link_left_alone_within.ensures BODY_LIMIT
