use Rattle.std.proofs.Common.{List, map, slice_get, sym, ap, ◌∙◌}
use Rattle.osm_base.specs.declared.people.User.{User}
use Rattle.user_table.specs.Users.{Users}
use Rattle.user_table.proofs.RowLemmas.{users_of-rows}
use Rattle.user_table.proofs.tables.UserTable.user.Goals as goal

pub returns : goal.returns
returns c =
    ap (λ (users : Users). slice_get (map (λ row. row.user) users.rows) c.args.place) (sym c.self.view_is)
    ∙ ap (λ (users : List User). slice_get users c.args.place) (users_of-rows c.self.inside.users.entries) ∙ c.index.ensures
