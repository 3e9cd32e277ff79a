use Rattle.std.proofs.Common.{[], ◌∷◌, ◌++◌, sym, ap, subst, ◌∙◌}
use Rattle.upload_check.specs.Older.{OlderNotes, Puts}
use Rattle.upload_check.proofs.Older.{push_puts}
use Rattle.upload_check.proofs.older_standings.push.Goals as goal

pub returns-clause-put : goal.returns-clause-put
returns-clause-put c =
    subst (λ (es : OlderNotes). Puts c.args.id c.args.standing c.args.rising.now.items es)
    (sym (c.in_ok-push.ensures.items ∙ ap (λ (es : OlderNotes). es ++ (c.args.id, c.args.standing) ∷ []) c.make_room.ensures))
    (push_puts c.args.rising.now.items c.args.id c.args.standing c.requires.below)
