use Rattle.std.proofs.Common.{◌≡◌, false, take}
use Rattle.std.specs.List.{list_any}
use Rattle.osm_element.specs.Limits.{is_bad_key}
use Rattle.osm_element.proofs.checks.has_bad_key.Given as goal

abbrev pub invariant-loop-index : goal.invariant-loop-index
invariant-loop-index l = list_any (λ tag. is_bad_key tag.0) (take l.index l.tags) ≡ false
