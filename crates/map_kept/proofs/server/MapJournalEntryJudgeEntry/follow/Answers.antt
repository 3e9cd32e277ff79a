use Rattle.std.proofs.Common.{◌++◌}
use Rattle.osm_world.specs.World.{state_of}
use Rattle.map_machine.specs.Machine.{map_rules, world_of}
use Rattle.snapshot_hub.proofs.Followed.{legal_behind, after_behind, refused_behind}
use Rattle.map_kept.proofs.Journals.{refused}
use Rattle.map_kept.proofs.server.MapJournalEntryJudgeEntry.follow.Goals as goal

pub returns-in-Some : goal.returns-in-Some
returns-in-Some c before followed =
    let came = rw c.in-Some.is at c.in_ok-world.ensures in
    let first = state_of (world_of c.args.world) in (
      legal_behind map_rules before c.args.part.now first followed.0 followed.1 came.0,
      after_behind map_rules before c.args.part.now first (state_of (world_of c.in-Some.world)) followed.1 came.1,
    )

pub returns-in-None : goal.returns-in-None
returns-in-None c before followed told more legal =
    let never = rw c.in-None.is at c.in_ok-world.ensures in
    refused (before ++ c.args.part.now) (refused_behind map_rules before c.args.part.now (state_of (world_of c.args.world)) followed.1 never) more legal
