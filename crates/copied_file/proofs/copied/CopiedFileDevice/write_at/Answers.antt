use Rattle.std.proofs.Common.{◌+◌, ◌++◌, length, take, drop, IsSome, refl, sym, subst}
use Rattle.copied_file.specs.Copied.{Agrees, written}
use Rattle.copied_file.proofs.Asking.{agrees_behind}
use Rattle.copied_file.proofs.copied.CopiedFileDevice.write_at.Goals as goal

pub invariant_of-self-2 : goal.invariant_of-self-2
invariant_of-self-2 g c =
    subst (Agrees c.write_at-kept.new.self c.come_to.new.copy) (sym c.wrote-self-inside.ensures)
    (agrees_behind c.self.inside.trace.copied c.self.inside.file c.write_at-kept.new.self c.self.inside.copy c.come_to.new.copy c.write_at-kept.result c.write_at-is_done.result
    (λ done. written done c.args.at c.args.bytes.now) (λ old. take c.args.at old ++ c.args.bytes.now ++ drop (c.args.at + length c.args.bytes.now) old) (λ first calls. refl) refl
    c.self.invariant (subst IsSome (sym c.in-Some.is) refl) c.write_at-kept.ensures.cause c.write_at-kept.ensures.written
    (λ there. ((c.come_to.ensures.stays there).0, (c.come_to.ensures.stays there).1)) (c.come_to.ensures.goes refl))
