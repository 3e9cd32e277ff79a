-- A mirror may go to another thread. The toolchain derives no such fact of it, since the router of its table of routes is a tree of
-- boxed nodes; so it is shown field by field.
use denote.Struct.Declared as S
use denote.Param.Send.{sendable, IsSend}
use denote.Param.SendFields.{FieldsHave, declared_send, as_row_send}
use Rattle.route_table.proofs.Sendable.{routes_send}
use Rattle.journal_follower.proofs.followers.Follower.TheSendSync as OfFollower
use Rattle.mirror_desk.proofs.level.Level.TheSendSync as OfLevel
use Rattle.mirror_serve.specs.contracts.one_mirror.Mirror as Mirror

pub mirror_send : IsSend Mirror.the_row
mirror_send = search (declared_send, as_row_send, OfFollower.the_send, OfLevel.the_send, routes_send, sendable) parts 8 depth 60 fits 20000
