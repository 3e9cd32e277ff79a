use Rattle.std.proofs.Common.{sym, ap, ◌∙◌, length}
use Rattle.osm_element.proofs.Cut.{cut_count}
use Rattle.osm_element.proofs.labels.TagList.len.Goals as goal

pub returns : goal.returns
returns c = sym (cut_count 0 c.self.inside.ends.now c.self.inside.text.now) ∙ ap length c.self.view_is
