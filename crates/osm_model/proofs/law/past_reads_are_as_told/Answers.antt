use Rattle.std.proofs.Common.{refl}
use Rattle.osm_model.proofs.law.past_reads_are_as_told.Goals as goal

pub returns-clause-legal : goal.returns-clause-legal
returns-clause-legal c = record { taken = refl; numbered = refl }

pub returns-clause-made : goal.returns-clause-made
returns-clause-made c = refl

pub returns-clause-moved : goal.returns-clause-moved
returns-clause-moved c = refl

pub returns-clause-unknown : goal.returns-clause-unknown
returns-clause-unknown c = refl

pub returns-clause-redacted : goal.returns-clause-redacted
returns-clause-redacted c = refl
