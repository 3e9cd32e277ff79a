use Rattle.std.proofs.Common.{sym, subst}
use Rattle.osm_base.specs.declared.limits.TheConstants.{SESSION_LIMIT}
use Rattle.map_machine.specs.Machine.{map_rules}
use Rattle.snapshot_hub.specs.Closings.{AreSeated}
use Rattle.map_kept.proofs.server.serve_handed.Goals as goal

pub seats_for-seats-requires-clause-seated : goal.seats_for-seats-requires-clause-seated
seats_for-seats-requires-clause-seated g c = subst (AreSeated map_rules.tag_of SESSION_LIMIT) (sym c.journal.ensures) c.requires.seated

pub serve_kept_ports-requires-clause-own : goal.serve_kept_ports-requires-clause-own
serve_kept_ports-requires-clause-own g c made lives = subst (AreSeated map_rules.tag_of c.seats_for-seats.result.sessions) c.journal.ensures c.seats_for-seats.ensures.seated
