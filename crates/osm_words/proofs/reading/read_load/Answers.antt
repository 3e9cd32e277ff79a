use Rattle.std.proofs.Common.{◌≡◌, ◌∙◌, ap, sym, map, string_bytes, Option, Some, None}
use Rattle.std.specs.Option.{ok_or, option_and_then}
use Rattle.osm_words.specs.declared.words.LoadOptions.{LoadOptions}
use Rattle.osm_words.specs.declared.words.WordsFault.TheVariants.{NoReading}
use Rattle.osm_words.specs.Commands.{found}
use Rattle.osm_words.specs.Words.{GivesLoad, load_of}
use Rattle.osm_words.proofs.reading.read_load.Goals as goal

made : (expected made_of : Option LoadOptions) → expected ≡ made_of → GivesLoad expected (ok_or made_of NoReading)
made expected None same = same
made expected (Some load) same = same

pub returns-clause-gives : goal.returns-clause-gives
returns-clause-gives c =
    let words = map string_bytes c.args.words.now in
    rw c.ok_or.ensures.value
    (made _ c.load_of.result
    (ap (λ app. option_and_then load_of (found app words)) (sym c.in_ok-load.ensures)
    ∙ ap (option_and_then load_of) c.in_ok-matches.ensures ∙ sym c.load_of.ensures.value))
