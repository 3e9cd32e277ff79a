-- How the lines of the script are written.
use Rattle.std.specs.Prelude.{◌≡◌, ℕ, List, [], ◌∷◌, ◌++◌, codes}
use Rattle.std.specs.List.{flat_map}
use Rattle.std.proofs.Common.{ap, ◌∙◌, sym, append_assoc}
use Rattle.std.proofs.lemmas.Grind.{flat_map-append}
use Rattle.kept_rows.specs.declared.script.ScriptLine.{ScriptLine}
use Rattle.kept_rows.specs.declared.script.ScriptLine.TheVariants.{Number, Array, Object, Empty, Gate}

-- without the byte 10 that ends it
abbrev pub script_line : ScriptLine → List ℕ
script_line Number = codes "{\"a\":1}"
script_line Array = codes "{\"b\":[]}"
script_line Object = codes "{\"c\":{}}"
script_line Empty = codes "{}"
script_line Gate = codes "{\"d\":\"#\"}"

abbrev pub ended_line : ScriptLine → List ℕ
ended_line line = script_line line ++ 10 ∷ []

abbrev pub script_lines : List ScriptLine → List ℕ
script_lines lines = flat_map ended_line lines

-- the first line, with the byte 10 that ends it
abbrev pub script_header : List ℕ
script_header = codes "osm-journal 2" ++ 10 ∷ []

abbrev pub script_text : List ScriptLine → List ℕ
script_text lines = script_header ++ script_lines lines

pub script_more : (lines others : List ScriptLine) → script_text (lines ++ others) ≡ script_text lines ++ script_lines others
script_more lines others =
    ap (λ (l : List ℕ). script_header ++ l) (flat_map-append ended_line lines others)
    ∙ sym (append_assoc script_header (script_lines lines) (script_lines others))
