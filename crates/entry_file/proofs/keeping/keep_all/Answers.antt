use Rattle.std.proofs.Common.{◌≡◌, ◌++◌, false, sym, ◌∙◌, rules}
use Rattle.entry_file.proofs.InTurn.{not_kept}
use Rattle.entry_file.proofs.keeping.keep_all.Goals as goal

pub returns-then-not-kept-clause-refused : goal.returns-then-not-kept-clause-refused
returns-then-not-kept-clause-refused g c told more legal =
    let never : c.in_ok-kept.kept ≡ false = search rules in
    let law = c.legal_journals_grow.ensures in
    let read = g.K.Keeper.kept c.args.keeper.now ++ c.args.read.items in
    not_kept law.follows law.front
    read (g.K.Keeper.kept c.entries.keeper) c.entries.read.items c.pop.new.self.items c.in-Some.entry
    c.entries.invariant c.in-Some.ensures.items (sym c.in_ok-kept.ensures.answer ∙ never) (law.front read more legal)
