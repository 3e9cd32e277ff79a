use Rattle.std.proofs.Common.{◌&&◌, ℕ, Bool, sym, ap, arith}
use Rattle.std.specs.Prelude.{◌==◌, if◌then◌else◌}
use Rattle.indexed_map.proofs.Together.{none-entered}
use Rattle.indexed_map.proofs.moves.arrive.Goals as goal

pub returns-then-share_cell-clause-ever : goal.returns-then-share_cell-clause-ever
returns-then-share_cell-clause-ever c cell n =
    let ones : Bool → ℕ = λ b. if b then 1 else 0 in
    let none = ap (λ (b : Bool). ones (b && (n == c.args.id))) (none-entered c.args.last c.args.to (sym c.if-share_cell.ensures) cell) in
    omega (arith, none, c.come_back.ensures.ever cell n)
