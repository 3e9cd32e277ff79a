use Rattle.std.proofs.Common.{List, length, ap, ◌∙◌}
use Rattle.std.specs.Prelude.{option_and_then}
use Rattle.osm_element.specs.Elements.{version_in}
use Rattle.osm_element.specs.Version.{Version}
use Rattle.attic_reads.specs.Attic.{unmarked_content}
use Rattle.attic_reads.proofs.contents.held.Goals as goal

pub returns-in-Some : goal.returns-in-Some
returns-in-Some c =
    c.unmarked_content.ensures
    ∙ ap (option_and_then unmarked_content) (c.in-Some.ensures ∙ ap (λ (vs : List Version). version_in vs (length vs)) c.versions_at.ensures)

pub returns-in-None : goal.returns-in-None
returns-in-None c =
    ap (option_and_then unmarked_content) (c.in-None.ensures ∙ ap (λ (vs : List Version). version_in vs (length vs)) c.versions_at.ensures)
