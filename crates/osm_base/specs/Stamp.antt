-- Stamps of commands.
use Rattle.std.specs.Prelude.{ℕ, min, max}
use Rattle.osm_base.specs.declared.limits.TheConstants.{MOMENT_LIMIT}

-- the stamp of what happens at a moment, after something stamped `last`
abbrev pub stamp_after : ℕ → ℕ → ℕ
stamp_after last moment = max (min moment MOMENT_LIMIT) last
