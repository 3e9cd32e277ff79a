use Rattle.std.proofs.Common.{◌<◌, sym, ap, ◌∙◌, length, subst}
use Rattle.osm_element.proofs.Cut.{cut_count}
use Rattle.osm_element.proofs.labels.TagList.pair.Goals as goal

pub pair_at-requires-clause-there : goal.pair_at-requires-clause-there
pair_at-requires-clause-there c =
    subst (λ n. c.args.index < n) (sym (ap length c.self.view_is) ∙ cut_count 0 c.self.inside.ends.now c.self.inside.text.now) c.requires
