use Rattle.std.proofs.Common.{sym, ap, ◌∙◌}
use Rattle.hub_core.specs.Journal.{calls_of}
use Rattle.snapshot_hub.proofs.held.Held.journal.Goals as goal

pub returns-clause-seated : goal.returns-clause-seated
returns-clause-seated g c session le =
    ap (λ e. calls_of g.M.Machine.rules.tag_of session e.journal) (sym c.self.view_is) ∙ c.self.invariant.1 session le
