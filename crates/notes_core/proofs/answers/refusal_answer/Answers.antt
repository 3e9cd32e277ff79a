use Rattle.std.proofs.Common.{◌++◌, ◌∷◌, ◌/◌, ◌%◌, List, ℕ, ap, ◌∙◌}
use Rattle.serde_json.specs.Written.{compact_text}
use Rattle.notes_core.specs.Shown.{refusal_data}
use Rattle.notes_core.proofs.Sent.{text_behind}
use Rattle.notes_core.proofs.answers.refusal_answer.Goals as goal

pub returns : goal.returns
returns c =
    c.from_vec.ensures
    ∙ c.into_inner.ensures.items
    ∙ text_behind c.new-out.result c.write_refusal.new.out (refusal_data c.args.refusal.now) c.new-out.ensures.tokens c.in_ok-write_refusal.ensures
    ∙ ap (λ (front : List ℕ). front ++ compact_text (refusal_data c.args.refusal.now)) (c.new-out.ensures.before ∙ c.in_ok-status_bytes.ensures)
    ∙ ap (λ (s : ℕ). (s / 256) ∷ (s % 256) ∷ compact_text (refusal_data c.args.refusal.now)) c.status_of.ensures
