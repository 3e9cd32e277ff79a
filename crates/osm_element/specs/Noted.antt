-- The stamp of a version in its parts.
use Rattle.std.specs.Prelude.{ℕ, ◌+◌, ◌*◌}
use Rattle.osm_element.specs.declared.noted.Noted.{Noted}

abbrev pub stamp_in : Noted → ℕ
stamp_in n = n.high * 0x1_0000_0000 + n.middle * 0x1_0000 + n.low
