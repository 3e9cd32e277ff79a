use Rattle.std.proofs.Common.{◌≡◌, ◌≤◌, ◌-◌, ◌++◌, take, length}
use Rattle.std.specs.Prelude.{filter, filter_map, reverse}
use Rattle.osm_base.specs.declared.limits.TheConstants.{QUERY_LIMIT}
use Rattle.osm_model.specs.ChangesetReads.{passes, passes_at, row_at, query_changesets}
use Rattle.rising_lists.specs.Ids.{ids_to}
use Rattle.osm_world.specs.World.{state_of}
use Rattle.changeset_calls.proofs.filters.newest_rows.Given as goal

-- the rows so far, and those that the older changesets will give
abbrev pub invariant-loop-id : goal.invariant-loop-id
invariant-loop-id l = record {
  few : length l.rows.items ≤ QUERY_LIMIT;
  within : l.id ≤ length (state_of l.world).changesets;
  rows : l.rows.items ++ filter_map (row_at (state_of l.world) l.at) (take (QUERY_LIMIT - length l.rows.items) (filter (passes_at (state_of l.world) (passes l.filters.user l.filters.only_open l.filters.only_closed l.filters.within l.at)) (reverse (ids_to l.id))))
      ≡ query_changesets (state_of l.world) l.at l.filters.user l.filters.only_open l.filters.only_closed l.filters.within;
}

abbrev pub decreases-loop-id : goal.decreases-loop-id
decreases-loop-id l = l.id
