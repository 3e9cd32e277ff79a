-- How a hub is closed.
use Rattle.std.specs.Prelude.{◌≡◌, ℕ, List}
use Rattle.std.specs.List.{AllByRecursion}
use mathlib.Core.List.{IsPrefix}
use Rattle.machine_law.specs.Rules.{Rules}
use Rattle.hub_core.specs.Journal.{calls_of}
use Rattle.snapshot_hub.specs.Known.{Known}
use Rattle.snapshot_hub.specs.Closings.{IsFront}

module _ {S C Q P E K : Type 0} (rules : Rules S C Q P E K) where
  -- The list begins with all that the session has seen, and the entries that it has of the session are just its calls.
  pub record HasAllOf (entries : List E) (it : Known E) : Type 0 where
    pub begins : IsPrefix it.front entries
    pub calls : it.calls ≡ calls_of rules.tag_of it.number entries

  -- A hub of so many sessions was closed. Its journal is one list that has all that each of these sessions saw, and just their calls: of
  -- those that were used, and of spare ones.
  pub record HasClosed (count : ℕ) (sessions spare : List (Known E)) : Type 0 where
    pub one : List E
    pub front : IsFront rules count one
    pub each : AllByRecursion (HasAllOf one) sessions
    pub others : AllByRecursion (HasAllOf one) spare
