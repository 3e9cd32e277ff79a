use Rattle.std.proofs.Common.{◌≡◌, map, take}
use Rattle.std.specs.Prelude.{filter}
use Rattle.osm_model.specs.ChangesetReads.{is_unmarked}
use Rattle.osm_model.specs.Reads.{shown}
use Rattle.plain_reads.proofs.changesets.unmarked.Given as goal

abbrev pub invariant-loop-work : goal.invariant-loop-work
invariant-loop-work l = l.found.items ≡ map (λ w. shown w.key w.version) (filter (is_unmarked l.elements) (take l.work-index l.works))
