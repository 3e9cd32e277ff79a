use Rattle.std.proofs.Common.{codes}
use Rattle.journal_text.specs.Line.{command, user, line_data}
use Rattle.json_line.proofs.Sent.{◌⊕◌, member_sent, record_sent, sent, at_last}
use Rattle.journal_text.proofs.write.entry.Goals as goal

pub returns : goal.returns
unfolding line_data
returns c =
    let first = rw c.seconds.ensures at c.in_ok-members.ensures in
    let fields =
    first ⊕ member_sent (codes "command") (command c.args.entry.now.command) (sent c.in_ok-key.ensures) c.in_ok-command.ensures
    ⊕ c.in_ok-members-2.ensures ⊕ member_sent (codes "user") (user c.args.entry.now.user) (sent c.in_ok-key-2.ensures) c.in_ok-user.ensures in
    at_last c.end_object.result c.end_object.ensures (λ end. record_sent (sent c.in_ok-begin_object.ensures) fields end)
