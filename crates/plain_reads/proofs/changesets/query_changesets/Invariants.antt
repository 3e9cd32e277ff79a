use Rattle.std.proofs.Common.{◌≡◌, ◌≤◌, ◌-◌, ◌++◌, take, length}
use Rattle.std.specs.Prelude.{filter, filter_map, reverse}
use Rattle.osm_base.specs.declared.limits.TheConstants.{QUERY_LIMIT}
use Rattle.osm_model.specs.ChangesetReads.{passes, passes_at, row_at, query_changesets}
use Rattle.rising_lists.specs.Ids.{ids_to}
use Rattle.plain_reads.proofs.changesets.query_changesets.Given as goal

-- the rows so far, and those that the older changesets will give
abbrev pub invariant-loop-id : goal.invariant-loop-id
invariant-loop-id l = record {
  few : length l.rows.items ≤ QUERY_LIMIT;
  within : l.id ≤ length l.state.changesets;
  rows : l.rows.items ++ filter_map (row_at l.state l.at) (take (QUERY_LIMIT - length l.rows.items) (filter (passes_at l.state (passes l.filters.user l.filters.only_open l.filters.only_closed l.filters.within l.at)) (reverse (ids_to l.id))))
      ≡ query_changesets l.state l.at l.filters.user l.filters.only_open l.filters.only_closed l.filters.within;
}

abbrev pub decreases-loop-id : goal.decreases-loop-id
decreases-loop-id l = l.id
