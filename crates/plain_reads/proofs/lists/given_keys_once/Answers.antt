use Rattle.std.proofs.Common.{rules}
use Rattle.std.proofs.lemmas.Fn.{filter_same}
use Rattle.osm_base.specs.Key.{lists_key}
use Rattle.osm_element.specs.Elements.{keys}
use Rattle.plain_reads.proofs.Once.{given-keys-once}
use Rattle.plain_reads.proofs.lists.given_keys_once.Goals as goal

pub returns : goal.returns
returns c =
    given-keys-once c.args.elements.now c.args.listed.items c.keys_sorted_once-rising.result.items c.retain.new.self.items c.keys_sorted_once-rising.ensures.rising c.keys_sorted_once-rising.ensures.same
    (filter_same _ (lists_key (keys c.args.elements.now)) _ (λ x b f2 h. search rules) _ _ c.retain.ensures.filtered)
