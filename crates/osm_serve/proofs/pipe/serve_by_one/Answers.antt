use Rattle.std.proofs.Common.{rules}
use Rattle.map_machine.specs.Machine.{map_rules}
use Rattle.api_desk.specs.HubDesk.{map_row}
use Rattle.desk_serve.proofs.Joined.{served_at}
use Rattle.osm_serve.proofs.pipe.serve_by_one.Goals as goal

pub returns-clause-served : goal.returns-clause-served
returns-clause-served g c = (
  c.in-Some.session,
  c.serve_link-end.new.desk.known,
  search rules,
  search rules,
  record {
    serves = served_at map_rules map_row c.args.users.now c.in-Some.session c.new-desk.result c.serve_link-end.new.desk _ _ c.serve_link-end.result c.new-desk.ensures c.serve_link-end.ensures.serves;
    tells = c.serve_link-end.ensures.tells;
  },
)
