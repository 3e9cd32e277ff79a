use Rattle.std.proofs.Common.{ap, ◌∙◌}
use Rattle.user_table.specs.Users.{Users}
use Rattle.user_table.specs.Who.{who_at, place_of}
use Rattle.user_table.proofs.RowLemmas.{place_of-keys}
use Rattle.user_table.proofs.tables.UserTable.who_has.Goals as goal

pub returns-in-None : goal.returns-in-None
returns-in-None c =
    ap who_at (c.in-None.ensures.index ∙ place_of-keys c.self.inside.users.entries c.args.token.now
    ∙ ap (λ (users : Users). place_of users.rows c.args.token.now) c.self.view_is)

pub returns-in-Some : goal.returns-in-Some
returns-in-Some c =
    ap who_at (c.in-Some.ensures.index ∙ place_of-keys c.self.inside.users.entries c.args.token.now
    ∙ ap (λ (users : Users). place_of users.rows c.args.token.now) c.self.view_is)
