use Rattle.server_frame.proofs.OnLink.{unserved_link}
use Rattle.server_frame.proofs.link.link_left_alone_within.Goals as goal

pub returns : goal.returns
returns c body_limit told = unserved_link body_limit told (c.some_reading.ensures body_limit)
