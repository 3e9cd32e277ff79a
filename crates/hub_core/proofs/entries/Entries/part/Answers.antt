use Rattle.std.proofs.lemmas.List.{drop-map, take-map}
use Rattle.hub_core.proofs.entries.Entries.part.Goals as goal

pub returns : goal.returns
returns g c = rw (← c.self.view_is, drop-map, take-map, ← c.part_of.ensures) c.unpacked.ensures
