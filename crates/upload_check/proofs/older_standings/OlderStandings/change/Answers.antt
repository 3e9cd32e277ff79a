use Rattle.std.proofs.Common.{Some, sym, ap, ◌∙◌}
use Rattle.std.specs.Prelude.{is_some, if◌then◌else◌, ◌==◌}
use Rattle.upload_check.specs.Older.{OlderNotes, standing_of}
use Rattle.upload_check.proofs.Older.{puts_second, noted_second}
use Rattle.upload_check.proofs.older_standings.OlderStandings.change.Goals as goal

pub change_other-requires : goal.change_other-requires
change_other-requires c =
    noted_second c.self.inside.rising.items c.self.inside.others.entries c.args.id
    (ap (λ (es : OlderNotes). standing_of es c.args.id) (sym c.as_slice.ensures.value) ∙ c.in-None.ensures)
    (ap (λ (es : OlderNotes). is_some (standing_of es c.args.id)) c.self.view_is ∙ c.requires)

pub returns-in-None : goal.returns-in-None
returns-in-None c = λ i.
    puts_second c.self.inside.rising.items c.self.inside.others.entries c.change_other.new.others.entries c.args.id c.args.standing
    (ap (λ (es : OlderNotes). standing_of es c.args.id) (sym c.as_slice.ensures.value) ∙ c.in-None.ensures)
    c.change_other.ensures i
    ∙ ap (λ (es : OlderNotes). if i == c.args.id then Some c.args.standing else standing_of es i) c.self.view_is
