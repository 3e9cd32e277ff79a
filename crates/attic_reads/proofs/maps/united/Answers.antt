use Rattle.std.proofs.Common.{List, ap, ◌∙◌}
use Rattle.osm_base.specs.Key.{lists_key}
use Rattle.osm_base.specs.declared.keys.Key.{Key}
use Rattle.osm_base.proofs.KeyLists.{lists-append}
use Rattle.attic_reads.proofs.maps.united.Goals as goal

pub returns-clause-same : goal.returns-clause-same
returns-clause-same c x =
    c.keys_sorted_once.ensures.same x ∙ ap (λ (ks : List Key). lists_key ks x) c.in_ok-all.ensures ∙ lists-append c.args.keys.items c.args.others.now x
