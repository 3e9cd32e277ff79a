use Rattle.osm_json.proofs.PlainData.{tokens_again, text_line}
use Rattle.osm_json.proofs.FullData.{text_full}
use Rattle.osm_json.proofs.law.texts_are_read_again.Goals as goal

pub returns-clause-tokens : goal.returns-clause-tokens
returns-clause-tokens c = tokens_again

pub returns-clause-line : goal.returns-clause-line
returns-clause-line c = text_line

pub returns-clause-full : goal.returns-clause-full
returns-clause-full c = text_full
