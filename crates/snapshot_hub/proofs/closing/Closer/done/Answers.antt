use Rattle.std.proofs.Common.{◌≡◌, sym, ap, ◌∙◌}
use Rattle.hub_core.specs.Journal.{calls_of}
use Rattle.snapshot_hub.proofs.Numbers.{each_once}
use Rattle.snapshot_hub.proofs.closing.Closer.done.Goals as goal

pub returns-clause-once : goal.returns-clause-once
returns-clause-once g c =
    let same : c.self.inside.held.now.journal ≡ c.args.self.now.journal = ap (λ k. k.journal) c.self.view_is in
    rw (← same) (each_once g.M.Machine.rules.tag_of c.self.inside.held.now.journal c.journal.ensures.kept.numbered)

pub returns-clause-seated : goal.returns-clause-seated
returns-clause-seated g c session le =
    ap (λ k. calls_of g.M.Machine.rules.tag_of session k.journal) (sym c.self.view_is) ∙ c.journal.ensures.seated session le
