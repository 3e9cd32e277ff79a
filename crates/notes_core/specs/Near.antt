-- The notes in the cells that a box touches.
use Rattle.std.specs.Prelude.{ℕ, Bool, false, List, filter, length}
use Rattle.std.specs.Option.{option_map_or}
use Rattle.osm_base.specs.Place.{Area}
use Rattle.rising_lists.specs.Ids.{ids_to}
use Rattle.tile_grid.specs.Cell.{cell_of, touches}
use Rattle.notes_core.specs.Act.{note}
use Rattle.notes_core.specs.declared.notes.Notes.{Notes}

abbrev pub is_near : Notes → Area → ℕ → Bool
is_near S within id = option_map_or (λ n. touches within (cell_of n.at)) (note S id) false

abbrev pub notes_near : Notes → Area → List ℕ
notes_near S within = filter (is_near S within) (ids_to (length S.notes))
