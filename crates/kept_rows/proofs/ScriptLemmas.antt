-- The lines of the script: each is one, and tells what it is.
use Rattle.std.proofs.Common.{◌≡◌, ℕ, true, List, [], ◌∷◌, ◌++◌, drop, not, refl, sym, ap, ◌∙◌, append_assoc}
use Rattle.std.specs.List.{list_all}
use Rattle.std.specs.Prelude.{⊤, All, ◌==◌, if◌then◌else◌}
use Rattle.std.proofs.lemmas.List.Elements.{All-nil, All-cons}
use Rattle.line_text.specs.Lines.{lines_of}
use Rattle.line_text.specs.OneLine.{is_one_line}
use Rattle.kept_rows.specs.Script.{script_line, ended_line, script_lines}
use Rattle.kept_rows.specs.declared.script.ScriptLine.{ScriptLine}
use Rattle.kept_rows.specs.declared.script.ScriptLine.TheVariants.{Number, Array, Object, Empty, Gate}

pub lines_are : (lines : List ScriptLine) → script_lines lines ≡ lines_of script_line lines
lines_are [] = refl
lines_are (line ∷ lines) = append_assoc (script_line line) (10 ∷ []) (script_lines lines) ∙ ap (λ (l : List ℕ). script_line line ++ 10 ∷ l) (lines_are lines)

pub one_line : (line : ScriptLine) → is_one_line (script_line line) ≡ true
one_line Number = refl
one_line Array = refl
one_line Object = refl
one_line Empty = refl
one_line Gate = refl

pub full : (line : ScriptLine) → list_all (λ b. not (b == 0)) (script_line line) ≡ true
full Number = refl
full Array = refl
full Object = refl
full Empty = refl
full Gate = refl

pub begins : (line : ScriptLine) → (rest : List ℕ) × (script_line line ≡ 123 ∷ rest)
begins Number = (drop 1 (script_line Number), refl)
begins Array = (drop 1 (script_line Array), refl)
begins Object = (drop 1 (script_line Object), refl)
begins Empty = (drop 1 (script_line Empty), refl)
begins Gate = (drop 1 (script_line Gate), refl)

pub more : (line : ScriptLine) (lines : List ScriptLine) → script_lines (line ∷ lines) ≡ script_line line ++ 10 ∷ script_lines lines
more line lines = append_assoc (script_line line) (10 ∷ []) (script_lines lines)

pub all_typed : (lines : List ScriptLine) → All (λ _. ⊤) lines
all_typed [] = All-nil (λ _. ⊤)
all_typed (line ∷ lines) = All-cons (λ _. ⊤) line lines tt (all_typed lines)

-- a line by its third byte
abbrev by_letter : List ℕ → ScriptLine
by_letter (x ∷ y ∷ b ∷ bytes) = if b == 97 then Number else if b == 98 then Array else if b == 99 then Object else Gate
by_letter bytes = Empty

tells : (line : ScriptLine) → by_letter (script_line line) ≡ line
tells Number = refl
tells Array = refl
tells Object = refl
tells Empty = refl
tells Gate = refl

pub tell : (line other : ScriptLine) → script_line line ≡ script_line other → line ≡ other
tell line other same = sym (tells line) ∙ ap by_letter same ∙ tells other
