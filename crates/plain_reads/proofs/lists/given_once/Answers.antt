use Rattle.std.proofs.Common.{rules, length}
use Rattle.std.proofs.lemmas.Fn.{filter_same}
use Rattle.osm_element.specs.Elements.{histories}
use Rattle.plain_reads.proofs.Once.{given, given-once}
use Rattle.plain_reads.proofs.lists.given_once.Goals as goal

pub returns : goal.returns
returns c =
    given-once c.rising_ids_are_told.ensures.same c.rising_ids_are_told.ensures.rising (length (histories c.args.elements.now c.args.kind)) c.args.ids.items c.sorted_once-rising.result.items c.retain.new.self.items c.sorted_once-rising.ensures.rising c.sorted_once-rising.ensures.same
    (filter_same _ (given (length (histories c.args.elements.now c.args.kind))) _ (λ x b f2 h. search rules) _ _ c.retain.ensures.filtered)
