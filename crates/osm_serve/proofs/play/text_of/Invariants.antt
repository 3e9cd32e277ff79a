use Rattle.std.proofs.Common.{◌≡◌, take}
use Rattle.journal_text.specs.Text.{text_of}
use Rattle.osm_serve.proofs.play.text_of.Given as goal

-- the text of the entries so far
abbrev pub invariant-loop-place : goal.invariant-loop-place
invariant-loop-place l = l.text.items ≡ text_of (take l.place l.entries)
