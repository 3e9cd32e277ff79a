use Rattle.std.proofs.Common.{List, ap, ◌∙◌, map}
use Rattle.osm_base.specs.declared.keys.Key.{Key}
use Rattle.osm_model.specs.Reads.{current_shown}
use Rattle.read_calls.proofs.Visible.{full-is}
use Rattle.read_calls.proofs.in_full.with_listed.Goals as goal

pub returns : goal.returns
returns c =
    let E = c.args.store.now.elements in
    c.in_ok-shown.ensures
    ∙ ap (λ (ks : List Key). map (current_shown E) ks)
    (c.as_slice.ensures.value
    ∙ full-is E c.args.key c.in_ok-gathered.field-0.items c.keys_sorted_once-rising.result.items c.requires.consistent c.requires.visible c.in_ok-gathered.ensures c.keys_sorted_once-rising.ensures.rising c.keys_sorted_once-rising.ensures.same)
