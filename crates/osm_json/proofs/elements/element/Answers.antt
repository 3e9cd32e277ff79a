use Rattle.osm_change.specs.declared.answers.ElementRow.{ElementRow}
use Rattle.osm_json.proofs.Growing.{◌⨾◌, becomes, element_text, redaction_apart}
use Rattle.osm_json.proofs.elements.element.Goals as goal

pub returns : goal.returns
returns c =
    let r : ElementRow = record { key = c.row.inside.key; number = c.row.inside.number; version = record c.row.inside.version.now { tags = c.row.inside.tags }; owner = c.row.inside.owner.now } in
    let changeset = rw c.changeset.ensures at c.in_ok-natural.ensures in
    let origin = rw (c.text.ensures, c.requires, ← c.row.view_is) at c.in_ok-piece.ensures in
    let redaction = becomes (redaction_apart c.row.inside.version.now c.row.inside.tags) c.in_ok-redaction.ensures in
    rw (← c.row.view_is)
    (becomes (element_text r)
    (changeset ⨾ c.in_ok-natural-2.ensures ⨾ c.in_ok-visible.ensures ⨾ redaction ⨾ c.in_ok-visible_tags.ensures ⨾ origin ⨾ c.in_ok-natural-3.ensures ⨾ c.in_ok-ending.ensures))
