use Rattle.std.proofs.Common.{List, length, map, None, sym, ap, ◌∙◌}
use Rattle.std.specs.Prelude.{option_and_then}
use Rattle.osm_element.specs.Elements.{position_in, version_in}
use Rattle.osm_element.specs.Version.{Version}
use Rattle.indexed_map.specs.Ever.{last_place}
use Rattle.indexed_map.proofs.EverHeld.{may_come_back, moved_ever, placed_other, stayed_ever}
use Rattle.indexed_map.proofs.Moved.{moved, not_moved, stayed, stood_once}
use Rattle.indexed_map.proofs.moves.move_node.Goals as goal

pub leave-requires : goal.leave-requires
leave-requires c =
    stood_once c.args.store.now.elements c.args.grid.now c.args.key c.current_place-from.result (sym c.if-is.ensures) c.requires.placed (c.current_place-from.ensures ∙ ap (λ (vs : List Version). option_and_then position_in (option_and_then (λ (v : Version). v.content) (version_in vs (length vs)))) c.requires.versions)

pub arrive-requires-clause-left : goal.arrive-requires-clause-left
arrive-requires-clause-left c =
    may_come_back c.args.store.now.elements c.args.grid.now c.leave.new.grid c.args.key c.current_place-from.result c.last_place-last.result c.position-to.result
    (sym c.if-is.ensures)
    c.requires.ever
    (c.last_place-last.ensures ∙ ap (λ (vs : List Version). last_place None (map (λ (v : Version). v.content) vs)) c.requires.versions)
    (stood_once c.args.store.now.elements c.args.grid.now c.args.key c.current_place-from.result (sym c.if-is.ensures) c.requires.placed (c.current_place-from.ensures ∙ ap (λ (vs : List Version). option_and_then position_in (option_and_then (λ (v : Version). v.content) (version_in vs (length vs)))) c.requires.versions))
    c.leave.ensures.nodes
    c.leave.ensures.ever

pub returns-then-not-share_cell-clause-placed : goal.returns-then-not-share_cell-clause-placed
returns-then-not-share_cell-clause-placed c =
    moved c.args.store.now.elements c.args.grid.now c.leave.new.grid c.arrive.new.grid c.args.key c.args.version.now c.current_place-from.result c.position-to.result
    (sym c.if-is.ensures)
    c.requires.counted
    c.requires.follows
    c.requires.placed
    (c.current_place-from.ensures ∙ ap (λ (vs : List Version). option_and_then position_in (option_and_then (λ (v : Version). v.content) (version_in vs (length vs)))) c.requires.versions)
    c.position-to.ensures
    c.leave.ensures.nodes
    c.arrive.ensures.nodes

pub returns-then-not-share_cell-clause-ever : goal.returns-then-not-share_cell-clause-ever
returns-then-not-share_cell-clause-ever c =
    moved_ever c.args.store.now.elements c.args.grid.now c.leave.new.grid c.arrive.new.grid c.args.key c.args.version.now c.last_place-last.result c.position-to.result
    (sym c.if-is.ensures)
    c.requires.counted
    c.requires.follows
    c.requires.ever
    (c.last_place-last.ensures ∙ ap (λ (vs : List Version). last_place None (map (λ (v : Version). v.content) vs)) c.requires.versions)
    c.position-to.ensures
    c.leave.ensures.ever
    c.arrive.ensures.ever

pub returns-else-not-share_cell-clause-placed : goal.returns-else-not-share_cell-clause-placed
returns-else-not-share_cell-clause-placed c =
    stayed c.args.store.now.elements c.args.grid.now c.args.key c.args.version.now c.current_place-from.result c.position-to.result
    c.requires.counted
    c.requires.follows
    c.requires.placed
    (c.current_place-from.ensures ∙ ap (λ (vs : List Version). option_and_then position_in (option_and_then (λ (v : Version). v.content) (version_in vs (length vs)))) c.requires.versions)
    c.position-to.ensures
    (sym c.if-not-share_cell.ensures)

pub returns-else-not-share_cell-clause-ever : goal.returns-else-not-share_cell-clause-ever
returns-else-not-share_cell-clause-ever c =
    stayed_ever c.args.store.now.elements c.args.grid.now c.args.key c.args.version.now c.current_place-from.result c.position-to.result
    (sym c.if-is.ensures)
    c.requires.counted
    c.requires.follows
    c.requires.ever
    (c.current_place-from.ensures ∙ ap (λ (vs : List Version). option_and_then position_in (option_and_then (λ (v : Version). v.content) (version_in vs (length vs)))) c.requires.versions)
    c.position-to.ensures
    (sym c.if-not-share_cell.ensures)

pub returns-else-is-clause-placed : goal.returns-else-is-clause-placed
returns-else-is-clause-placed c =
    not_moved c.args.store.now.elements c.args.grid.now c.args.key c.args.version.now (sym c.if-is.ensures) c.requires.counted c.requires.follows c.requires.placed

pub returns-else-is-clause-ever : goal.returns-else-is-clause-ever
returns-else-is-clause-ever c =
    placed_other c.args.store.now.elements c.args.grid.now c.args.key c.args.version.now (sym c.if-is.ensures) c.requires.counted c.requires.follows c.requires.ever
