use Rattle.std.proofs.Common.{◌≡◌, ◌∙◌, ◌<◌, ◌≤◌, ◌-◌, ap, sym, refl, subst, arith, Bool, false, List, [], ◌∷◌, map, length, None, Option, take, drop, string_bytes}
use Rattle.std.specs.Prelude.{if◌then◌else◌}
use Rattle.std.specs.List.{slice_index_or}
use Rattle.std.proofs.lemmas.List.{take_all}
use Rattle.clap.specs.Words.{Text}
use Rattle.osm_words.specs.Words.{Reading, Gives, named_reading, command_reading}
use Rattle.osm_words.proofs.reading.read_words.Goals as goal

-- without `--`, the reading is the one behind the program's name
unmarked : (marked : Bool) (reading : Option Reading) → false ≡ marked → (if marked then None else reading) ≡ reading
unmarked marked reading is = ap (λ (b : Bool). if b then None else reading) (sym is)

module _ {X : Type 0} (text : X → Text) where
  short : (words : List X) → length words < 2 → named_reading (map text words) ≡ None
  short [] few = refl
  short (program ∷ []) few = refl
  short (program ∷ name ∷ options) few = absurd (omega arith)

  named : (words : List X) (name : X) → 2 ≤ length words → name ≡ slice_index_or words 1 name
      → command_reading (text name) (map text (take (length words - 1) (drop 1 words))) ≡ named_reading (map text words)
  named [] name many is = absurd (omega arith)
  named (program ∷ []) name many is = absurd (omega arith)
  named (program ∷ given ∷ options) name many is =
      ap (λ (words : List X). command_reading (text name) (map text words))
      (take_all (length (program ∷ given ∷ options) - 1) (given ∷ options) (omega arith))
      ∙ ap (λ (word : X). command_reading (text word) (map text (given ∷ options))) is

pub returns-in_default-clause-gives : goal.returns-in_default-clause-gives
returns-in_default-clause-gives c =
    unmarked _ (named_reading (map string_bytes c.args.words.now)) c.if-has_end_mark.ensures
    ∙ short string_bytes c.args.words.now c.in_default.len_below

pub returns-in-len2-up-clause-gives : goal.returns-in-len2-up-clause-gives
returns-in-len2-up-clause-gives c =
    let words = c.args.words.now in
    let rest = map string_bytes (take (length words - 1) (drop 1 words)) in
    let same =
    ap (λ (name : Text). command_reading name rest) c.as_str.ensures.value
    ∙ named string_bytes words c.name-item.result c.in-len2-up.len_at_least c.name-item.is
    ∙ sym (unmarked _ (named_reading (map string_bytes words)) c.if-has_end_mark.ensures) in
    subst (λ (reading : Option Reading). Gives reading c.read_command.result) same c.read_command.ensures.gives
