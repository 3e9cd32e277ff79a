use Rattle.std.proofs.Common.{◌++◌, sym, ap, subst, ◌∙◌}
use Rattle.std.proofs.lemmas.Result.{on_ok_weaker}
use Rattle.upload_check.specs.Older.{OlderNotes, standing_of, Puts}
use Rattle.upload_check.proofs.older_standings.OlderStandings.set.Goals as goal

pub add-requires-clause-none : goal.add-requires-clause-none
add-requires-clause-none c = ap (λ (es : OlderNotes). standing_of es c.args.id) (sym c.as_slice.ensures.value) ∙ c.in-None.ensures

pub returns-in-None-clause-set : goal.returns-in-None-clause-set
returns-in-None-clause-set c =
    on_ok_weaker c.add.result
    (λ puts. subst (λ (es : OlderNotes). Puts c.args.id c.args.standing es (c.add.new.rising.items ++ c.add.new.others.entries)) c.self.view_is puts)
    c.add.ensures.set
