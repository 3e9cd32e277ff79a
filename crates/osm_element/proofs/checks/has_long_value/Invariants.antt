use Rattle.std.proofs.Common.{◌≡◌, false, take}
use Rattle.std.specs.List.{list_any}
use Rattle.osm_element.specs.Limits.{is_long}
use Rattle.osm_element.proofs.checks.has_long_value.Given as goal

abbrev pub invariant-loop-index : goal.invariant-loop-index
invariant-loop-index l = list_any (λ tag. is_long tag.1) (take l.index l.tags) ≡ false
