use Rattle.std.proofs.Common.{Bool, ◌&&◌, rules, ap, ◌∙◌}
use Rattle.std.specs.Prelude.{filter}
use Rattle.std.proofs.lemmas.Fn.{filter_same}
use Rattle.osm_base.specs.declared.keys.Key.{Key}
use Rattle.osm_model.specs.Past.{is_last_shown}
use Rattle.osm_model.specs.PastMap.{is_in}
use Rattle.plain_reads.proofs.past_map.nodes_in.Goals as goal

pub returns : goal.returns
returns c =
    let E = c.args.elements.now in
    let test : Key → Bool = λ k. is_last_shown E k && is_in E c.args.within.now k in
    filter_same _ test _ (λ x b f2 h. search rules) _ _ c.retain.ensures.filtered ∙ ap (filter test) c.in_ok-found.ensures
