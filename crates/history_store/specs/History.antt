-- Where the versions of an element stand, as a list with promised room.
use Rattle.std.specs.Prelude.{[], ◌∷◌}
use Rattle.osm_base.specs.Row.{Row}
use Rattle.osm_element.specs.Version.{Version}
use Rattle.history_store.specs.declared.histories.Place.{Place}
use Rattle.history_store.specs.declared.histories.Place.TheVariants.{Empty, Awaited, One, More}

abbrev pub row_of : Place → Row Version
row_of Empty = record { items = []; free = 0 }
row_of Awaited = record { items = []; free = 1 }
row_of (One version) = record { items = version ∷ []; free = 0 }
row_of (More versions) = versions
