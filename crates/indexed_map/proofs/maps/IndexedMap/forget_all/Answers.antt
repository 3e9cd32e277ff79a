use Rattle.indexed_map.specs.Indexed.{stand}
use Rattle.indexed_map.proofs.Indexing.{emptied}
use Rattle.indexed_map.proofs.maps.IndexedMap.forget_all.Goals as goal

pub invariant_of-self : goal.invariant_of-self
invariant_of-self c =
    (emptied
    (stand c.self.inside.store c.self.inside.users c.self.inside.grid)
    (stand c.forget_versions.new.store c.forget_uses.new.users c.forget_places.new.grid)
    (record { versions = c.self.inside.promised.items; users = c.self.inside.awaited.items; cells = c.self.inside.entered.items })
    _
    c.as_slice.result.now
    c.as_slice-2.result.now
    c.as_slice-3.result.now
    c.self.invariant
    c.as_slice.ensures.value
    c.as_slice-2.ensures.value
    c.as_slice-3.ensures.value
    c.forget_versions.ensures.elements
    c.forget_uses.ensures.users
    c.forget_uses.ensures.past
    c.forget_places.ensures.nodes
    c.forget_versions.ensures.room
    c.forget_uses.ensures.room
    c.forget_places.ensures.room
    c.forget_places.ensures.ever).1
