use Rattle.std.proofs.Common.{◌≡◌}
use Rattle.same_maps.proofs.anew.Anew.make_rooms.Given as goal

abbrev pub invariant-entries : goal.invariant-entries
invariant-entries l = l.self ≡ l.initial.self
