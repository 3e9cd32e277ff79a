use Rattle.std.proofs.Common.{◌++◌, replicate, IsSome, refl, sym, subst}
use Rattle.copied_file.specs.Copied.{Agrees, laid}
use Rattle.copied_file.proofs.Asking.{agrees_behind}
use Rattle.copied_file.proofs.copied.CopiedFileDevice.lay_by.Goals as goal

pub invariant_of-self-2 : goal.invariant_of-self-2
invariant_of-self-2 g c =
    subst (Agrees c.lay_by-kept.new.self c.come_to.new.copy) (sym c.laid_by-self-inside.ensures)
    (agrees_behind c.self.inside.trace.copied c.self.inside.file c.lay_by-kept.new.self c.self.inside.copy c.come_to.new.copy c.lay_by-kept.result c.lay_by-is_done.result
    (λ done. laid done c.args.count) (λ old. old ++ replicate c.args.count 0) (λ first calls. refl) refl
    c.self.invariant (subst IsSome (sym c.in-Some.is) refl) c.lay_by-kept.ensures.cause c.lay_by-kept.ensures.laid
    (λ there. ((c.come_to.ensures.stays there).0, (c.come_to.ensures.stays there).1)) (c.come_to.ensures.goes refl))
