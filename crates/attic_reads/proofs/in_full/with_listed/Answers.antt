use Rattle.std.proofs.Common.{List, ap, ◌∙◌, map}
use Rattle.std.specs.Prelude.{filter}
use Rattle.osm_base.specs.declared.keys.Key.{Key}
use Rattle.osm_element.specs.declared.elements.Elements.{Elements}
use Rattle.osm_model.specs.Past.{elements_by, is_last_shown}
use Rattle.osm_model.specs.Reads.{current_shown}
use Rattle.attic_reads.proofs.Full.{shown-are}
use Rattle.attic_reads.proofs.in_full.with_listed.Goals as goal

pub returns : goal.returns
returns c =
    let E : Elements = elements_by c.args.at c.args.store.now.elements in
    c.in_ok-found.ensures
    ∙ ap (λ (ks : List Key). map (current_shown E) (filter (is_last_shown E) ks)) c.as_slice.ensures.value
    ∙ ap (map (current_shown E))
    (shown-are E c.args.key c.in_ok-gathered.field-0.items c.keys_sorted_once-rising.result.items c.in_ok-gathered.ensures c.keys_sorted_once-rising.ensures.rising c.keys_sorted_once-rising.ensures.same)
