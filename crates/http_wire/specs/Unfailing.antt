-- What a source tells of which no read fails.
use Rattle.osm_outside.specs.Memory.{LinkState, told_of}
use Rattle.osm_outside.specs.Told.{Told}

-- what a link in memory tells, but for its faults in reading
abbrev pub unfailing_told : LinkState → Told
unfailing_told state = record (told_of state) { read_faults = 0 }
