-- Some areas of which is told what cells they touch.
use Rattle.std.specs.Prelude.{pos, negsuc}
use Rattle.osm_base.specs.Place.{Area, at_position}

abbrev pub globe : Area
globe = record { left = negsuc 1799999999; bottom = negsuc 899999999; right = pos 1800000000; top = pos 900000000 }

-- one cell's side to the north of the equator, and one to the west of the first meridian
abbrev pub on_an_edge : Area
on_an_edge = at_position (record { lat7 = pos 100000; lon7 = negsuc 99999 })
