use Rattle.osm_serve.proofs.Measuring.{lines_from}
use Rattle.osm_serve.proofs.measure.lines_of.Goals as goal

pub returns : goal.returns
returns c = lines_from c.args.load c.in_ok-played.played c.summary.result c.in_ok-played.ensures c.summary.ensures
