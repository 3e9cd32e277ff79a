use Rattle.std.proofs.Common.{◌∙◌, rules, tests, codes, string_bytes}
use Rattle.std.specs.Str.{bytes_eq}
use Rattle.std.proofs.lemmas.Iterator.{YieldsList-from_slice}
use Rattle.std.proofs.lemmas.Iterator.Search.{any_from_yields_List}
use Rattle.clap.proofs.WalkLemmas.{list_any-map}
use Rattle.osm_words.proofs.reading.until_input_ends.Goals as goal

pub returns : goal.returns
returns c =
    any_from_yields_List (λ word. bytes_eq (string_bytes word) (codes "--until-input-ends")) _ _ _ c.any.ensures.ran (YieldsList-from_slice c.args.words.now cc)
    (λ x b q k. search (rules, tests))
    ∙ list_any-map (λ word. bytes_eq word (codes "--until-input-ends")) string_bytes c.args.words.now
