use Rattle.user_table.specs.Drafts.{shown, rows_of}
use Rattle.user_table.proofs.RowLemmas.{user_is_new, user_added}
use Rattle.std.proofs.Common.{ℕ, ap, ◌∙◌, List, ◌++◌, ◌∷◌, []}
use Rattle.user_table.proofs.drafts.insert_user.Goals as goal

pub returns-clause-new : goal.returns-clause-new
returns-clause-new c =
    user_is_new c.args.users.now.entries c.in_ok-token.token (shown c.args.listed) c.in_ok-token.ensures.items
    c.in_ok-before.before c.is_none.result c.in_ok-before.ensures.old c.is_none.ensures

pub returns-clause-added : goal.returns-clause-added
returns-clause-added c = λ holds.
    user_added c.args.users.now c.insert.new.self c.in_ok-token.token (record { id = c.args.listed.id; name = c.in_ok-of.field-0; moderator = c.args.listed.role.moderator; limit = c.args.listed.role.limit }) c.in_ok-before.before c.is_none.result c.in_ok-before.ensures.old c.in_ok-before.ensures.entries c.is_none.ensures holds
    ∙ ap (λ (token : List ℕ). rows_of c.args.users.now.entries ++ record { token = token; user = record { id = c.args.listed.id; name = c.in_ok-of.field-0; moderator = c.args.listed.role.moderator; limit = c.args.listed.role.limit } } ∷ []) c.in_ok-token.ensures.items
    ∙ ap (λ (name : List ℕ). rows_of c.args.users.now.entries ++ record { token = c.args.listed.token.now; user = record { id = c.args.listed.id; name = name; moderator = c.args.listed.role.moderator; limit = c.args.listed.role.limit } } ∷ []) c.in_ok-of.ensures
