use Rattle.std.proofs.Common.{◌≡◌, take, None}
use Rattle.std.specs.Prelude.{filter_map}
use Rattle.changeset_core.specs.Changeset.{widen_all}
use Rattle.upload_check.specs.Overlay.{position_now}
use Rattle.upload_check.proofs.sights.View.with_ended.Given as goal

abbrev pub invariant-loop-place : goal.invariant-loop-place
invariant-loop-place l =
    l.both ≡ widen_all (widen_all None (filter_map (position_now l.self) l.begun)) (filter_map (position_now l.self) (take l.place l.ended))
