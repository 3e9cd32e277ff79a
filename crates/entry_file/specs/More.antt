-- The text of a journal goes on with the lines of more entries.
use Rattle.std.specs.Prelude.{◌≡◌, List, ◌++◌}
use Rattle.line_text.proofs.LinesOf.{text-append}
use Rattle.osm_model.specs.declared.commands.Entry.{Entry}
use Rattle.journal_text.specs.Line.{line}
use Rattle.journal_text.specs.Text.{header, lines, text_of}
use Rattle.journal_text.specs.declared.versions.Version.TheVariants.{Two}

pub journal_more : (es more : List Entry) → text_of (es ++ more) ≡ text_of es ++ lines more
journal_more = text-append line (header Two)
