use Rattle.std.proofs.Common.{sym, ap, ◌∙◌, List, Result, Ok}
use Rattle.user_table.specs.Rows.{Row}
use Rattle.user_table.specs.Drafts.{shown, rows_of, users_of}
use Rattle.user_table.specs.Users.{Users}
use Rattle.user_table.specs.declared.faults.UsersFault.{UsersFault}
use Rattle.user_table.proofs.RowLemmas.{told_id, told_name, with_row-double_id, with_row-double_token, with_row-double_name, with_row-new}
use Rattle.user_table.proofs.drafts.Draft.add.Goals as goal

pub returns-then-not-branch-clause-added : goal.returns-then-not-branch-clause-added
returns-then-not-branch-clause-added c =
    let rows = rows_of c.args.self.now.users.entries in
    with_row-double_id c.args.number (users_of c.args.self.now) (shown c.args.listed) c.in_ok-insert_id.field-0
    (told_id c.args.self.now.ids.keys rows c.args.listed.id _ c.requires.ids c.in_ok-insert_id.ensures.new) c.if-not-branch.true

pub returns-then-not-branch-2-clause-added : goal.returns-then-not-branch-2-clause-added
returns-then-not-branch-2-clause-added c =
    let rows = rows_of c.args.self.now.users.entries in
    with_row-double_token c.args.number (users_of c.args.self.now) (shown c.args.listed) c.in_ok-insert_id.field-0
    (told_id c.args.self.now.ids.keys rows c.args.listed.id _ c.requires.ids c.in_ok-insert_id.ensures.new) c.if-not-branch.false
    c.in_ok-insert_user.field-0 c.in_ok-insert_user.ensures.new c.if-not-branch-2.true

pub returns-then-not-branch-3-clause-added : goal.returns-then-not-branch-3-clause-added
returns-then-not-branch-3-clause-added c =
    let rows = rows_of c.args.self.now.users.entries in
    with_row-double_name c.args.number (users_of c.args.self.now) (shown c.args.listed) c.in_ok-insert_id.field-0
    (told_id c.args.self.now.ids.keys rows c.args.listed.id _ c.requires.ids c.in_ok-insert_id.ensures.new) c.if-not-branch.false
    c.in_ok-insert_user.field-0 c.in_ok-insert_user.ensures.new c.if-not-branch-2.false
    c.in_ok-insert_name.field-0 (told_name _ rows c.args.listed.name.now _ c.requires.names c.in_ok-insert_name.ensures.new) c.if-not-branch-3.true

pub returns-clause-added : goal.returns-clause-added
returns-clause-added c =
    let rows = rows_of c.args.self.now.users.entries in
    with_row-new c.args.number (users_of c.args.self.now) (shown c.args.listed) c.in_ok-insert_id.field-0
    (told_id c.args.self.now.ids.keys rows c.args.listed.id _ c.requires.ids c.in_ok-insert_id.ensures.new) c.if-not-branch.false
    c.in_ok-insert_user.field-0 c.in_ok-insert_user.ensures.new c.if-not-branch-2.false
    c.in_ok-insert_name.field-0 (told_name _ rows c.args.listed.name.now _ c.requires.names c.in_ok-insert_name.ensures.new) c.if-not-branch-3.false
    ∙ sym (ap (λ (left : List Row). let made : Result Users UsersFault = Ok (record { rows = left; large_from = c.args.self.now.large_from }) in made) (c.in_ok-insert_user.ensures.added c.if-not-branch-2.false))
