use Rattle.std.proofs.Common.{◌≡◌, Some, None, sym, ap, ◌∙◌}
use Rattle.std.specs.Prelude.{Option}
use Rattle.std.specs.Option.{option_or}
use Rattle.upload_check.specs.Older.{OlderNotes, standing_of}
use Rattle.upload_check.specs.declared.standings.Standing.{Standing}
use Rattle.upload_check.proofs.Older.{standing_of_both}
use Rattle.upload_check.proofs.older_standings.OlderStandings.look.Goals as goal

pub returns-in-Some : goal.returns-in-Some
returns-in-Some c =
    let rising : OlderNotes = c.self.inside.rising.items in
    let others : OlderNotes = c.self.inside.others.entries in
    let first : standing_of rising c.args.id ≡ Some c.in-Some.standing
    = ap (λ (es : OlderNotes). standing_of es c.args.id) (sym c.as_slice.ensures.value) ∙ sym c.standing_at.ensures ∙ c.in-Some.is in
    sym (sym (ap (λ (es : OlderNotes). standing_of es c.args.id) c.self.view_is) ∙ standing_of_both rising others c.args.id ∙ ap (λ (o : Option Standing). option_or o (standing_of others c.args.id)) first)

pub returns-in-None : goal.returns-in-None
returns-in-None c =
    let rising : OlderNotes = c.self.inside.rising.items in
    let others : OlderNotes = c.self.inside.others.entries in
    let first : standing_of rising c.args.id ≡ None
    = ap (λ (es : OlderNotes). standing_of es c.args.id) (sym c.as_slice.ensures.value) ∙ sym c.standing_at.ensures ∙ c.in-None.is in
    c.other_at.ensures
    ∙ sym (sym (ap (λ (es : OlderNotes). standing_of es c.args.id) c.self.view_is) ∙ standing_of_both rising others c.args.id ∙ ap (λ (o : Option Standing). option_or o (standing_of others c.args.id)) first)
