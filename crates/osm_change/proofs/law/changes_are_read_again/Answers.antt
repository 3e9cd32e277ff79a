use Rattle.osm_change.proofs.Again.{document-raw, document-again}
use Rattle.osm_change.proofs.law.changes_are_read_again.Goals as goal

pub returns : goal.returns
returns c = record { document = document-raw; same = document-again }
