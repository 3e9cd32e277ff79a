use Rattle.std.proofs.Common.{codes, ◌∙◌}
use Rattle.osm_json.specs.Shown.{field, natural}
use Rattle.osm_json.specs.Rows.{redaction_fields}
use Rattle.osm_json.specs.Added.{field_text}
use Rattle.osm_json.proofs.Growing.{becomes, nothing, redaction_is, one_field}
use Rattle.osm_json.proofs.rows.redaction.Goals as goal

pub returns-in-None : goal.returns-in-None
unfolding redaction_fields field_text
returns-in-None c = rw (← c.in-None.ensures) nothing

pub returns-in_ok-natural-in-Some : goal.returns-in_ok-natural-in-Some
unfolding redaction_fields
returns-in_ok-natural-in-Some c =
    let number = c.in-Some.number in
    rw (← c.in-Some.ensures) (becomes (redaction_is number ∙ one_field (field (codes "redaction") (natural number))) c.in_ok-natural-in-Some.ensures)
