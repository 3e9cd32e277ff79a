use Rattle.std.proofs.Common.{rules, ap, ◌∙◌}
use Rattle.std.proofs.lemmas.Fn.{filter_same}
use Rattle.osm_model.specs.Past.{made_by, was_made}
use Rattle.plain_reads.proofs.past.made_by.Goals as goal

pub returns : goal.returns
returns c =
    c.of.ensures
    ∙ filter_same _ (was_made c.args.at) _ (λ x b f2 h. search rules) _ _ c.retain.ensures.filtered
    ∙ ap (made_by c.args.at) (c.into_vec-versions.ensures ∙ c.in_ok-copy.ensures)
