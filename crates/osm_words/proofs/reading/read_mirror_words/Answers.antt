use Rattle.std.proofs.Common.{◌≡◌, ◌∙◌, ap, sym, map, string_bytes, Bool, false, Option, Some, None}
use Rattle.std.specs.Prelude.{if◌then◌else◌}
use Rattle.std.specs.Option.{ok_or, option_map, option_and_then}
use Rattle.osm_words.specs.declared.words.MirrorWords.{MirrorWords}
use Rattle.osm_words.specs.declared.words.WordsFault.TheVariants.{NoReading}
use Rattle.osm_words.specs.Commands.{found}
use Rattle.osm_words.specs.Words.{GivesMirror, MirrorReading, mirror_of, shown_mirror}
use Rattle.osm_words.proofs.reading.read_mirror_words.Goals as goal

made : (expected : Option MirrorReading) (made_of : Option MirrorWords) → expected ≡ option_map shown_mirror made_of
    → GivesMirror expected (ok_or made_of NoReading)
made expected None same = same
made expected (Some words) same = same

-- without `--`, the reading is that of the options
unmarked : (marked : Bool) (reading : Option MirrorReading) → false ≡ marked → (if marked then None else reading) ≡ reading
unmarked marked reading is = ap (λ (b : Bool). if b then None else reading) (sym is)

pub returns-clause-gives : goal.returns-clause-gives
returns-clause-gives c =
    let words = map string_bytes c.args.words.now in
    rw c.ok_or.ensures.value
    (made _ c.mirror_of.result
    (unmarked _ _ c.if-has_end_mark.ensures
    ∙ ap (λ app. option_and_then mirror_of (found app words)) (sym c.in_ok-mirror.ensures)
    ∙ ap (option_and_then mirror_of) c.in_ok-matches.ensures ∙ sym c.mirror_of.ensures.value))
