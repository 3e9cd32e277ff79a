use Rattle.std.proofs.Common.{codes}
use Rattle.notes_text.specs.Line.{user}
use Rattle.json_line.proofs.Sent.{member_sent, sent, then_so}
use Rattle.notes_text.proofs.write.known.Goals as goal

pub returns : goal.returns
returns c = then_so c.user.result c.user.ensures (λ value. member_sent (codes "user") (user c.args.owner.now) (sent c.in_ok-key.ensures) value)
