use Rattle.std.proofs.Common.{ℕ, sym, ap, ◌∙◌}
use Rattle.std.specs.Prelude.{Option}
use Rattle.std.specs.List.{list_any}
use Rattle.osm_base.specs.Key.{lists_key}
use Rattle.osm_element.specs.Elements.{key, refs_in}
use Rattle.osm_element.specs.declared.contents.Content.{Content}
use Rattle.plain_reads.proofs.Meets.{none_meets}
use Rattle.plain_reads.proofs.met.lists_one.Goals as goal

pub returns-in-None : goal.returns-in-None
returns-in-None c =
    sym (ap (λ (o : Option (Content ℕ)). list_any (λ n. lists_key (refs_in o) (key c.args.kind n)) c.args.ids.now) (sym c.in-None.ensures) ∙ none_meets c.args.ids.now)
