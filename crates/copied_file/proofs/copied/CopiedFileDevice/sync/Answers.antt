use Rattle.std.proofs.Common.{IsSome, refl, sym, subst}
use Rattle.copied_file.specs.Copied.{Agrees, synced}
use Rattle.copied_file.proofs.Asking.{agrees_behind}
use Rattle.copied_file.proofs.copied.CopiedFileDevice.sync.Goals as goal

pub invariant_of-self-2 : goal.invariant_of-self-2
invariant_of-self-2 g c =
    subst (Agrees c.sync-kept.new.self c.come_to.new.copy) (sym c.synced-self-inside.ensures)
    (agrees_behind c.self.inside.trace.copied c.self.inside.file c.sync-kept.new.self c.self.inside.copy c.come_to.new.copy c.sync-kept.result c.sync-is_done.result
    (λ done. synced done) (λ old. old) (λ first calls. refl) refl
    c.self.invariant (subst IsSome (sym c.in-Some.is) refl) c.sync-kept.ensures.cause c.sync-kept.ensures.seen
    (λ there. ((c.come_to.ensures.stays there).0, (c.come_to.ensures.stays there).1)) (c.come_to.ensures.goes refl))
