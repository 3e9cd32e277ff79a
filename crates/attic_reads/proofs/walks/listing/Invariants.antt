use Rattle.std.proofs.Common.{◌≡◌, ◌&&◌, take}
use Rattle.std.specs.Prelude.{filter}
use Rattle.osm_model.specs.Past.{elements_by, is_last_shown}
use Rattle.osm_model.specs.PastMap.{lists_one}
use Rattle.attic_reads.proofs.walks.listing.Given as goal

abbrev pub invariant-loop-user : goal.invariant-loop-user
invariant-loop-user l =
    l.found.items ≡ filter (λ k. is_last_shown (elements_by l.at l.store.elements) k && lists_one (elements_by l.at l.store.elements) l.among k) (take l.user-index l.near)
