use Rattle.std.proofs.Common.{◌≡◌, refl}
use Rattle.machine_law.specs.Rules.{replay}
use Rattle.hub_core.proofs.books.Book.commit.Goals as goal

pub returns-clause-acts : goal.returns-clause-acts
returns-clause-acts g c made command prefix planned =
    let rules = g.M.Machine.rules in
    let journal = c.args.self.now in
    let acted : c.in_ok-judged.judged.settled ≡ rules.act (replay rules journal) c.args.tag c.args.moment command =
    rw c.self.view_is at (c.in_ok-judged.ensures.acts made command (rw c.self.view_is prefix) planned) in
    rw (← acted) (record { answer_is = refl; entered = c.in_ok-place.ensures.entered; placed = c.in_ok-place.ensures.placed })
