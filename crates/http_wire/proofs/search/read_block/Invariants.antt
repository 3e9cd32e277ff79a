use Rattle.std.proofs.Common.{◌-◌, ◌≤◌, ℕ, length}
use Rattle.osm_base.specs.declared.limits.TheConstants.{HEAD_LIMIT}
use Rattle.http_wire.specs.Block.{IsSearched}
use Rattle.http_wire.specs.Wire.{Gathers}
use Rattle.http_wire.proofs.search.read_block.Given as goal

abbrev pub invariant-reads : goal.invariant-reads
invariant-reads g l =
    ((body_limit : ℕ) → Gathers body_limit (g.S.Outside.told l.fn.source) (g.S.Outside.told l.source) l.fn.buffer l.buffer)
    × IsSearched l.buffer l.begin l.searched
    × (l.searched ≤ length l.buffer)

abbrev pub decreases-reads : goal.decreases-reads
decreases-reads g l = HEAD_LIMIT - length l.buffer
