-- What a longer journal has of a session's calls.
use Rattle.std.proofs.Common.{◌+◌, ◌≤◌, List, arith}
use mathlib.Core.List.{IsPrefix}
use Rattle.machine_law.specs.Rules.{Rules}
use Rattle.hub_core.specs.Journal.{calls_of}
use Rattle.snapshot_hub.specs.Known.{Known, owed, IsKnown}
use Rattle.snapshot_hub.proofs.Calls.{calls_take, calls_prefix}

module _ {S C Q P E K : Type 0} (rules : Rules S C Q P E K) where
  -- a journal that begins with the front has the session's calls, but for one that it owes
  pub calls_within : (it : Known E) (journal : List E) → IsKnown rules it → IsPrefix it.front journal → it.calls ≤ calls_of rules.tag_of it.number journal + owed it.owes
  calls_within it journal h p = omega (arith, h.enough, calls_take rules.tag_of it.number it.anchor it.front, calls_prefix rules.tag_of it.number it.front journal p)
