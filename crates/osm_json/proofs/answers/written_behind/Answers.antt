use Rattle.std.proofs.Common.{◌∙◌, ◌++◌, List, ℕ, ap}
use Rattle.serde_json.specs.Written.{compact_text}
use Rattle.osm_json.specs.Answered.{answer}
use Rattle.osm_json.proofs.Tokens.{text_behind}
use Rattle.osm_json.proofs.answers.written_behind.Goals as goal

pub returns : goal.returns
returns c =
    c.into_inner.ensures.items
    ∙ text_behind c.new-out.result c.write_answer.new.out (answer c.args.answer.now) c.new-out.ensures.tokens c.in_ok-write_answer.ensures
    ∙ ap (λ (front : List ℕ). front ++ compact_text (answer c.args.answer.now)) c.new-out.ensures.before
