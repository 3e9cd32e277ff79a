-- A law on what messages are answered by a machine.
use Rattle.http_wire.specs.declared.message.Message.{Message}
use Rattle.machine_law.specs.Rules.{Rules}
use Rattle.session_desk.specs.Rows.{Request}
use Rattle.user_table.specs.Users.{Users}
use Rattle.session_desk.specs.Answered.{RowsStay}
use Rattle.session_desk.proofs.Longer.{row_longer}
use Rattle.desk_parts.specs.Answered.{AnswersMessage}

-- what is answered against entries is so against more
pub answers_stay : {S C Q P E K : Type 0} (rules : Rules S C Q P E K) (request_of : Users → Message → Request C Q) → RowsStay (AnswersMessage rules request_of)
answers_stay rules request_of users session F G before after message moment reply longer within row = record {
  bytes = row.bytes;
  row = row_longer rules F G session before after (request_of users message) moment row.bytes longer within row.row;
  told = row.told;
}
