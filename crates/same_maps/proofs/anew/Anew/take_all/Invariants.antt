use Rattle.std.proofs.Common.{◌≡◌, ◌-◌, length}
use Rattle.same_maps.proofs.anew.Anew.take_all.Given as goal

abbrev pub invariant-entries : goal.invariant-entries
invariant-entries l = l.self.entries ≡ l.initial.self.entries

abbrev pub decreases-entries : goal.decreases-entries
decreases-entries l = length l.self.entries - l.self.seen
