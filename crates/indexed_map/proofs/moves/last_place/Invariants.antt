use Rattle.std.proofs.Common.{◌≡◌, ◌≤◌, length, map, take, None}
use Rattle.osm_element.specs.Version.{Version}
use Rattle.indexed_map.specs.Ever.{last_place}
use Rattle.indexed_map.proofs.moves.last_place.Given as goal

abbrev pub invariant-loop-place : goal.invariant-loop-place
invariant-loop-place l = record {
  within : l.place ≤ length l.versions;
  none_later : last_place None (map (λ (v : Version). v.content) (take l.place l.versions)) ≡ last_place None (map (λ (v : Version). v.content) l.versions);
}

abbrev pub decreases-loop-place : goal.decreases-loop-place
decreases-loop-place l = l.place
