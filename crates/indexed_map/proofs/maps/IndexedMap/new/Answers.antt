use Rattle.indexed_map.proofs.Empty.{empty_map}
use Rattle.indexed_map.proofs.maps.IndexedMap.new.Goals as goal

pub invariant_of-result : goal.invariant_of-result
invariant_of-result c =
    empty_map c.new-store.result c.new-users.result c.new-grid.result _
    c.new-store.ensures
    c.new-users.ensures.users
    c.new-users.ensures.past
    c.new-users.ensures.room
    c.new-grid.ensures.nodes
    c.new-grid.ensures.room
    c.new-grid.ensures.ever
