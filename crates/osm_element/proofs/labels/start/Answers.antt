use Rattle.std.proofs.Common.{sym, arith}
use Rattle.osm_element.proofs.Cut.{start_first, start_before}
use Rattle.osm_element.proofs.labels.start.Goals as goal

pub returns-then-index-eq0 : goal.returns-then-index-eq0
returns-then-index-eq0 c = rw c.if-index-eq0.true (sym (start_first 0 c.args.ends.now))

pub returns-else-index-eq0 : goal.returns-else-index-eq0
returns-else-index-eq0 c = sym (start_before 0 c.args.ends.now c.args.index _ c.requires (omega arith))
