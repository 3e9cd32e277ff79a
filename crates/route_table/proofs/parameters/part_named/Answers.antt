use Rattle.std.proofs.Common.{rules, tests}
use Rattle.std.proofs.lemmas.Iterator.Search.{find_from_yields_List}
use Rattle.std.proofs.lemmas.Iterator.Splits.{YieldsList-from_slice_split}
use Rattle.osm_base.specs.Parts.{is_byte}
use Rattle.route_table.specs.Parameters.{ampersand, is_named}
use Rattle.route_table.proofs.parameters.part_named.Goals as goal

pub returns : goal.returns
returns c =
    find_from_yields_List (is_named c.args.name.now) _ _ _ c.find.ensures.ran
    (YieldsList-from_slice_split _ (is_byte ampersand) c.args.query.now c.split.ensures.rest c.split.ensures.done c.split.ensures.closure
    (λ x b q k. search (rules, tests)))
    (λ x b q k. search (rules, tests))
