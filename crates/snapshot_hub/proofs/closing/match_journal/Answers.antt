use Rattle.std.proofs.Common.{rules}
use mathlib.Core.List.{IsPrefix}
use Rattle.snapshot_hub.specs.Known.{IsKnown}
use Rattle.snapshot_hub.proofs.Known.{calls_within}
use Rattle.snapshot_hub.proofs.closing.match_journal.Goals as goal

pub returns-clause-calls : goal.returns-clause-calls
returns-clause-calls g c =
    let laws = g.M.Machine.rules in
    let known : IsKnown laws c.args.session.now = rw (← c.session.view_is) c.law.ensures.known in
    let begins : IsPrefix c.args.session.now.front c.args.held.now.journal = search rules in
    calls_within laws c.args.session.now c.args.held.now.journal known begins
