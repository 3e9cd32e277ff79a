use Rattle.std.proofs.Common.{◌≡◌, ◌<◌, true, ap, sym, get_or, take, length}
use Rattle.std.proofs.lemmas.Option.{get_or_from_slice_get}
use Rattle.std.proofs.lemmas.Result.{IfOk-weaker}
use Rattle.machine_law.specs.Rules.{replay}
use Rattle.hub_core.proofs.Stages.{taken_at}
use Rattle.hub_core.proofs.running.Core.next_entry.Goals as goal

pub returns-clause-taken : goal.returns-clause-taken
returns-clause-taken g c =
    let of_machine = g.M.Machine.rules in
    let inside = c.self.inside in
    let within : inside.published < length inside.book = rw (ap (λ s. s.published) c.self.view_is, ap (λ s. s.journal) c.self.view_is) c.requires in
    rw (← c.self.view_is) (IfOk-weaker c.entry.result _ _
    (λ entry there. taken_at of_machine inside.book inside.published entry c.journal.ensures.kept.legal within (sym (get_or_from_slice_get inside.book inside.published entry entry there)))
    (rw c.journal.ensures.journal at c.entry.ensures))

pub returns-clause-item : goal.returns-clause-item
returns-clause-item g c =
    let inside = c.self.inside in
    rw (← c.self.view_is) (IfOk-weaker c.entry.result _ _
    (λ entry there. sym (get_or_from_slice_get inside.book inside.published entry entry there))
    (rw c.journal.ensures.journal at c.entry.ensures))
