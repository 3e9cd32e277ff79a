use Rattle.std.proofs.Common.{length, sym, ap, ◌∙◌}
use Rattle.workload.proofs.LeftLemmas.{length_left}
use Rattle.workload.proofs.loads.Load.len.Goals as goal

pub returns : goal.returns
returns c =
    let load = c.self.inside in
    sym (length_left load.sessions load.uploads load.created load.sent load.number) ∙ ap length c.self.view_is
