-- Whether a mirror is known to be level, by who was heard and when.
use Rattle.std.specs.Prelude.{ℕ, ◌+◌, Bool, true, false, ◌&&◌, not, nat_le, Option, Some, None}
use Rattle.mirror_desk.specs.Request.{Ask, refuses, forbids, reads, states, takes, levels}

-- for how many seconds nobody who may post may be silent; whether it was said that the mirror is level, and nobody was silent for longer
-- between any two that were heard since; and the moment of the last one who was heard
pub record AtLevel : Type 0 where
  pub limit : Option ℕ
  pub said : Bool
  pub heard : ℕ

-- nothing was said, and nobody heard
abbrev pub unsaid : Option ℕ → AtLevel
unsaid limit = record { limit = limit; said = false; heard = 0 }

-- without a limit it always is; with one it was said, and the moment is no later than so many seconds behind the last one who was heard
abbrev pub is_level_by : Option ℕ → Bool → ℕ → ℕ → Bool
is_level_by None said heard moment = true
is_level_by (Some limit) said heard moment = said && nat_le moment (heard + limit)

abbrev pub is_level : AtLevel → ℕ → Bool
is_level level moment = is_level_by level.limit level.said level.heard moment

-- somebody who may post was heard at that moment; what isn't level by then isn't afterwards
abbrev pub heard_at : AtLevel → ℕ → AtLevel
heard_at level moment = record { limit = level.limit; said = is_level level moment; heard = moment }

-- it was said at that moment
abbrev pub said_at : AtLevel → ℕ → AtLevel
said_at level moment = record { limit = level.limit; said = true; heard = moment }

-- whether reads are told that the mirror isn't known to be level: where they are answered only while it is
abbrev pub holds_back : Bool → AtLevel → ℕ → Bool
holds_back only_level level moment = only_level && not (is_level level moment)

-- what an ask leaves of it, whatever the ask is told
abbrev pub level_after : Ask → AtLevel → ℕ → AtLevel
level_after (refuses r) level moment = level
level_after forbids level moment = level
level_after (reads q) level moment = level
level_after states level moment = level
level_after (takes body) level moment = heard_at level moment
level_after levels level moment = said_at level moment
