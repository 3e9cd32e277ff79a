use Rattle.std.proofs.Common.{◌≡◌, ◌∙◌, ap, sym, map, string_bytes, Option, Some, None}
use Rattle.std.specs.Option.{ok_or, option_map, option_and_then}
use Rattle.osm_words.specs.declared.words.Words.{Words}
use Rattle.osm_words.specs.declared.words.WordsFault.TheVariants.{NoReading}
use Rattle.osm_words.specs.Commands.{found}
use Rattle.osm_words.specs.Words.{Gives, Reading, serve_of, shown}
use Rattle.osm_words.proofs.reading.read_serve.Goals as goal

made : (expected : Option Reading) (made_of : Option Words) → expected ≡ option_map shown made_of → Gives expected (ok_or made_of NoReading)
made expected None same = same
made expected (Some words) same = same

pub returns-clause-gives : goal.returns-clause-gives
returns-clause-gives c =
    let words = map string_bytes c.args.words.now in
    rw c.ok_or.ensures.value
    (made _ c.serve_of.result
    (ap (λ app. option_and_then serve_of (found app words)) (sym c.in_ok-serve.ensures)
    ∙ ap (option_and_then serve_of) c.in_ok-matches.ensures ∙ sym c.serve_of.ensures.value))
