use Rattle.std.proofs.Common.{◌≡◌, take}
use Rattle.osm_model.specs.Journal.{calls_of}
use Rattle.plain_model.proofs.journals.calls_of.Given as goal

-- the entries from here on are of other sessions
abbrev pub invariant-loop-place : goal.invariant-loop-place
invariant-loop-place l = calls_of l.session l.entries ≡ calls_of l.session (take l.place l.entries)
