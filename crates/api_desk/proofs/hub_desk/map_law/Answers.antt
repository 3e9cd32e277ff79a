use Rattle.std.proofs.Common.{take}
use Rattle.api_desk.proofs.Fronts.{take_prefix}
use Rattle.api_desk.proofs.hub_desk.map_law.Goals as goal

pub returns-clause-legal : goal.returns-clause-legal
returns-clause-legal g c = c.fronts_are_the_maps.ensures c.args.session.now.front c.law.ensures.known.legal

pub returns-clause-consistent : goal.returns-clause-consistent
returns-clause-consistent g c point =
    (c.law.ensures.consistent (take point c.args.session.now.front) (take_prefix point c.args.session.now.front)).consistent
