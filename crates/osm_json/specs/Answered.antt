-- The status and the body of an answer.
use Rattle.std.specs.Prelude.{ℕ, List, []}
use Rattle.serde_json.specs.Data.{Data}
use Rattle.serde_json.specs.Written.{compact_text}
use Rattle.osm_change.specs.declared.answers.Answer.{Answer}
use Rattle.osm_change.specs.declared.answers.Answer.TheVariants as answers
use Rattle.osm_json.specs.Shown.{record_of, natural}
use Rattle.osm_json.specs.Rows.{diff, elements, download, changeset, changesets}
use Rattle.osm_json.specs.Refused.{refusal, refusal_status}

-- ---- the status

abbrev pub status_of : Answer → ℕ
status_of (answers.Refused fault) = refusal_status fault
status_of (answers.Number n) = 200
status_of answers.Nothing = 200
status_of (answers.Diff rows) = 200
status_of (answers.Elements bounds rows) = 200
status_of (answers.Change rows) = 200
status_of (answers.Changeset row) = 200
status_of (answers.Changesets rows) = 200

-- ---- the body

unfoldable pub answer : Answer → Data
answer (answers.Number n) = natural n
answer answers.Nothing = record_of []
answer (answers.Diff rows) = diff rows
answer (answers.Elements bounds rows) = elements bounds rows
answer (answers.Change rows) = download rows
answer (answers.Changeset row) = changeset row
answer (answers.Changesets rows) = changesets rows
answer (answers.Refused fault) = refusal fault

abbrev pub body_of : Answer → List ℕ
body_of a = compact_text (answer a)
