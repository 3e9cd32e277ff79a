use Rattle.std.proofs.Common.{◌≡◌, sym, ◌++◌, ◌∷◌, []}
use Rattle.std.proofs.lemmas.List.Sums.{fold_push}
use Rattle.hub_core.proofs.books.Book.append.Goals as goal

pub invariant_of-self-2 : goal.invariant_of-self-2
invariant_of-self-2 g c =
    let rules = g.M.Machine.rules in
    let entry = c.args.entry in
    let journal = c.self.inside.journal in
    let items : c.append.new.self ≡ journal ++ entry ∷ [] = c.in_ok-place.ensures.ok.0 in
    rw (items, c.apply.ensures, c.in_ok-applied.ensures.copy.0, c.ready_copy.ensures.same, c.self.invariant) (sym (fold_push rules.after rules.start journal entry))
