-- Entries that the rules of notes refuse, and entries that are not numbered, are the beginning of nothing legal.
use Rattle.std.proofs.Common.{◌≡◌, true, false, List, [], ◌++◌, sym, ◌∙◌}
use Rattle.std.proofs.lemmas.Bool.{true≢false}
use Rattle.hub_core.specs.Journal.{is_numbered}
use Rattle.hub_core.proofs.Numbers.{numbered_first}
use Rattle.machine_law.specs.Rules.{is_legal}
use Rattle.notes_core.specs.Machine.{note_rules}
use Rattle.notes_core.specs.declared.commands.NoteEntry.{NoteEntry}
use Rattle.notes_text.specs.Text.{IsLegal}

pub refused : (es : List NoteEntry) → ((more : List NoteEntry) → is_legal note_rules (es ++ more) ≡ false) → (more : List NoteEntry) → IsLegal (es ++ more) → ⊥
refused es never more legal = true≢false (sym legal.legal ∙ never more)

pub unnumbered : (es : List NoteEntry) → is_numbered note_rules.tag_of [] es ≡ false → (more : List NoteEntry) → IsLegal (es ++ more) → ⊥
unnumbered es never more legal = true≢false (sym (numbered_first note_rules.tag_of [] es more legal.numbered) ∙ never)
