-- Desks of sessions.
use Rattle.snapshot_hub.specs.Known.{Known}
use Rattle.user_table.specs.Users.{Users}
use Rattle.session_desk.specs.Answered.{AtDesk}

abbrev pub at_desk : {E : Type 0} → Users → Known E → AtDesk E
at_desk users known = record { users = users; known = known }
