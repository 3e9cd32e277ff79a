use Rattle.std.proofs.Common.{rules, sym, ◌∙◌}
use Rattle.osm_element.proofs.FirstUser.{first_is_node, first_is_way, first_is_relation}
use Rattle.osm_element.proofs.elements.Elements.first_user.Goals as goal

pub returns-in-Some : goal.returns-in-Some
returns-in-Some c = first_is_node c.args.self.now c.args.key c.in-Some.node (search rules)

pub returns-in-Some-first_of_kind : goal.returns-in-Some-first_of_kind
returns-in-Some-first_of_kind c = first_is_way c.args.self.now c.args.key c.in-Some-first_of_kind.way (search rules) (search rules)

pub returns : goal.returns
returns c = c.first_of_kind-3.ensures
    ∙ first_is_relation c.args.self.now c.args.key (sym c.first_of_kind.ensures ∙ c.in_default.is) (sym c.first_of_kind-2.ensures ∙ c.in_default-first_of_kind.is)
