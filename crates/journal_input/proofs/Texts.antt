-- The text of a journal has no gate, and so what follows it is cut.
use Rattle.std.proofs.Common.{◌≡◌, List, ℕ, [], ◌∷◌, ◌++◌, false, true, refl, sym, ap, ◌∙◌, subst, append_assoc, append-nil}
use Rattle.std.specs.Prelude.{All, ◌==◌}
use Rattle.std.proofs.lemmas.List.Elements.{All-head, All-tail, All-nil, All-cons}
use Rattle.osm_model.specs.declared.commands.Entry.{Entry}
use Rattle.journal_text.specs.Line.{line, IsEntry}
use Rattle.journal_text.specs.Text.{header, lines, text_in}
use Rattle.journal_text.specs.Version.{IsEntryIn}
use Rattle.journal_text.specs.declared.versions.Version.{Version}
use Rattle.journal_text.specs.declared.versions.Version.TheVariants.{One, Two}
use Rattle.journal_input.specs.Gate.{before_gate, before_gate_from}
use Rattle.journal_input.specs.Place.{has_gate_first, Sees}
use Rattle.journal_input.specs.declared.gate.Place.TheVariants.{LineStart, InLine, BehindGate}
use Rattle.line_text.specs.OneLine.{is_one_line}
use Rattle.journal_input.proofs.Gates.{behind_line}
use Rattle.journal_input.proofs.Places.{all_counts, before_closed}

pub all_typed : (version : Version) (es : List Entry) → All (IsEntryIn version) es → All IsEntry es
all_typed version [] are = All-nil IsEntry
all_typed version (e ∷ es) are = All-cons IsEntry e es (All-head (IsEntryIn version) e es are).typed (all_typed version es (All-tail (IsEntryIn version) e es are))

pub header_counts : (version : Version) (more : List ℕ) → before_gate (header version ++ more) ≡ header version ++ before_gate more
header_counts One more = refl
header_counts Two more = refl

-- a line that is no gate counts with the byte 10 behind it
pub line_counts : (bytes more : List ℕ) → has_gate_first bytes ≡ false → is_one_line bytes ≡ true → before_gate (bytes ++ 10 ∷ more) ≡ bytes ++ 10 ∷ before_gate more
line_counts [] more other one = refl
line_counts (b ∷ bs) more other one = behind_line b bs (10 ∷ more) other one

module _ (begins : (e : Entry) → (rest : List ℕ) × (line e ≡ 123 ∷ rest)) (one : (e : Entry) → IsEntry e → is_one_line (line e) ≡ true) where
  pub lines_count : (es : List Entry) (more : List ℕ) → All IsEntry es → before_gate (lines es ++ more) ≡ lines es ++ before_gate more
  lines_count [] more are = refl
  lines_count (e ∷ es) more are =
      ap before_gate (append_assoc (line e) (10 ∷ lines es) more)
      ∙ line_counts (line e) (lines es ++ more) (ap has_gate_first (begins e).1) (one e (All-head IsEntry e es are))
      ∙ ap (λ (l : List ℕ). line e ++ 10 ∷ l) (lines_count es more (All-tail IsEntry e es are))
      ∙ sym (append_assoc (line e) (10 ∷ lines es) (before_gate more))

  pub text_counts : (version : Version) (es : List Entry) → All IsEntry es → Sees LineStart (text_in version es)
  text_counts version es are =
      λ more.
      ap before_gate (append_assoc (header version) (lines es) more)
      ∙ header_counts version (lines es ++ more)
      ∙ ap (λ (l : List ℕ). header version ++ l) (lines_count es more are)
      ∙ sym (append_assoc (header version) (lines es) (before_gate more))

  pub text_alone : (version : Version) (es : List Entry) → All IsEntry es → before_gate (text_in version es) ≡ text_in version es
  text_alone version es are = all_counts true (text_in version es) (text_counts version es are)

  pub text_kept : (version : Version) (es : List Entry) (rest : List ℕ) → All IsEntry es → before_gate (text_in version es ++ 35 ∷ rest) ≡ text_in version es
  text_kept version es rest are = before_closed (text_in version es) rest (text_counts version es are)
