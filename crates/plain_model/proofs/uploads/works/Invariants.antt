use Rattle.std.proofs.Common.{◌≡◌, take}
use Rattle.osm_model.specs.Fold.{works}
use Rattle.plain_model.proofs.uploads.works.Given as goal

abbrev pub invariant-loop-place : goal.invariant-loop-place
invariant-loop-place l = l.made.items ≡ works (take l.place l.keys) (take l.place l.done)
