use Rattle.std.proofs.Common.{◌≡◌, ◌+◌, ◌<◌, ◌^◌, ap, sym, subst, get_or, length, arith}
use Rattle.hub_core.proofs.Stages.{replay_more}
use Rattle.hub_core.proofs.running.Core.show_next.Goals as goal

pub overflow_add-self : goal.overflow_add-self
overflow_add-self g c =
    let few : c.self.inside.published + 1 < 2 ^ 64 = subst (λ s. s.published + 1 < 2 ^ 64) (sym c.self.view_is) c.next_entry.ensures.few in
    omega (arith, few)

pub invariant_of-self-2 : goal.invariant_of-self-2
invariant_of-self-2 g c =
    let of_machine = g.M.Machine.rules in
    let inside = c.self.inside in
    let entry = c.in_ok-entry.entry in
    let within : inside.published < length inside.book = rw (ap (λ s. s.published) c.self.view_is, ap (λ s. s.journal) c.self.view_is) c.requires in
    let item = subst (λ s. entry ≡ get_or s.journal s.published entry) (sym c.self.view_is) c.in_ok-entry.ensures.item in
    (rw (c.in_ok-follow.ensures.ok, c.self.invariant.0) (replay_more of_machine inside.book inside.published entry within item), omega (arith, within), c.self.invariant.2)
