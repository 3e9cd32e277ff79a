-- Entries that are kept one after another.
use Rattle.std.specs.Prelude.{◌+◌, Bool, true, false, ◌&&◌, ◌==◌, List, [], ◌∷◌, ◌++◌, Result, Ok, Err}
use Rattle.osm_base.specs.Stamp.{stamp_after}
use Rattle.osm_model.specs.Journal.{takes, calls_of, replay}
use Rattle.osm_model.specs.declared.commands.Entry.{Entry}

-- the entry may come next: its command is accepted there at its own stamp, and its call is the next one of its session
abbrev pub may_follow : List Entry → Entry → Bool
may_follow es e = takes (replay es) e && (e.call == calls_of e.session es + 1)

-- what is kept after the answer whether the entry may come next
abbrev pub kept_by : {E : Type 0} → Result Bool E → List Entry → Entry → List Entry
kept_by (Ok true) es e = es ++ e ∷ []
kept_by (Ok false) es e = es
kept_by (Err fault) es e = es

-- it has the next call of its session, and a stamp that the last one allows
abbrev pub is_in_turn : List Entry → Entry → Bool
is_in_turn es e = (e.call == calls_of e.session es + 1) && (stamp_after (replay es).last e.stamp == e.stamp)
