use Rattle.std.proofs.Common.{ap, arith}
use Rattle.osm_element.specs.Tags.{byte_count}
use Rattle.osm_element.proofs.Cut.{cut_bytes}
use Rattle.osm_element.proofs.labels.TagList.byte_count.Goals as goal

pub returns : goal.returns
returns c =
    let all = cut_bytes 0 c.self.inside.ends.now c.self.inside.text.now c.self.invariant in
    omega (arith, all, ap byte_count c.self.view_is)
