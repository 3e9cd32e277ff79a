use Rattle.json.specs.Reads.{token_of}
use Rattle.json_line.proofs.Found.{is_alone, not_alone}
use Rattle.notes_text.proofs.entries.whole.Goals as goal

pub returns-in-None : goal.returns-in-None
returns-in-None c = is_alone _ _ _ c.in_ok-found.ensures c.in-None.ensures.value.0

pub returns-in-Some : goal.returns-in-Some
returns-in-Some c = not_alone _ _ _ (token_of c.in-Some.field-0) _ c.in_ok-found.ensures c.in-Some.ensures.value
