use Rattle.std.proofs.Common.{sym, ◌∙◌}
use Rattle.osm_base.specs.declared.keys.Kind.TheVariants.{Node}
use Rattle.upload_check.proofs.Walks.{at_listed}
use Rattle.upload_check.proofs.shifts.is_at.Goals as goal

pub returns-then-place-keys : goal.returns-then-place-keys
returns-then-place-keys c = λ there. at_listed c.args.keys.now c.args.place (record { kind = Node; id = 0 }) c.args.key c.if-place-keys.true (sym c.is.ensures ∙ there)
