use Rattle.std.proofs.Common.{◌≡◌, map, take}
use Rattle.std.specs.Prelude.{filter}
use Rattle.osm_model.specs.ChangesetReads.{is_unmarked}
use Rattle.osm_model.specs.Reads.{shown}
use Rattle.changeset_calls.proofs.works.unmarked.Given as goal

abbrev pub invariant-loop-work : goal.invariant-loop-work
invariant-loop-work l = l.found.items ≡ map (λ w. shown w.key w.version) (filter (is_unmarked l.store.elements) (take l.work-index l.works))
