use Rattle.std.proofs.Common.{take, IsSome, refl, sym, subst}
use Rattle.copied_file.specs.Copied.{Agrees, cut}
use Rattle.copied_file.proofs.Asking.{agrees_behind}
use Rattle.copied_file.proofs.copied.CopiedFileDevice.cut.Goals as goal

pub invariant_of-self-2 : goal.invariant_of-self-2
invariant_of-self-2 g c =
    subst (Agrees c.cut-kept.new.self c.come_to.new.copy) (sym c.cut_to-self-inside.ensures)
    (agrees_behind c.self.inside.trace.copied c.self.inside.file c.cut-kept.new.self c.self.inside.copy c.come_to.new.copy c.cut-kept.result c.cut-is_done.result
    (λ done. cut done c.args.len) (λ old. take c.args.len old) (λ first calls. refl) refl
    c.self.invariant (subst IsSome (sym c.in-Some.is) refl) c.cut-kept.ensures.cause c.cut-kept.ensures.cut
    (λ there. ((c.come_to.ensures.stays there).0, (c.come_to.ensures.stays there).1)) (c.come_to.ensures.goes refl))
