use Rattle.std.proofs.Common.{sym}
use Rattle.osm_base.proofs.DecimalLemmas.{few-one, few-two, few-three, four, too-many}
use Rattle.osm_base.proofs.decimals.edges_of.Goals as goal

pub returns-in_err-left : goal.returns-in_err-left
returns-in_err-left c = rw c.from_residual.ensures (sym (few-one c.args.text.now (sym c.in_err-left.ensures)))

pub returns-in_err-bottom : goal.returns-in_err-bottom
returns-in_err-bottom c =
    rw c.from_residual-in_err-bottom.ensures
    (sym (few-two c.args.text.now c.in_ok-left.left.now c.in_ok-left.rest.now (sym c.in_ok-left.ensures) (sym c.in_err-bottom.ensures)))

pub returns-in_err-right : goal.returns-in_err-right
returns-in_err-right c =
    rw c.from_residual-in_err-right.ensures
    (sym (few-three c.args.text.now c.in_ok-left.left.now c.in_ok-left.rest.now c.in_ok-bottom.bottom.now c.in_ok-bottom.rest.now
    (sym c.in_ok-left.ensures) (sym c.in_ok-bottom.ensures) (sym c.in_err-right.ensures)))

pub returns-in-None : goal.returns-in-None
returns-in-None c =
    sym (four c.args.text.now c.in_ok-left.left.now c.in_ok-left.rest.now c.in_ok-bottom.bottom.now c.in_ok-bottom.rest.now
    c.in_ok-right.right.now c.in_ok-right.top.now
    (sym c.in_ok-left.ensures) (sym c.in_ok-bottom.ensures) (sym c.in_ok-right.ensures) (sym c.in-None.ensures))

pub returns-in-Some : goal.returns-in-Some
returns-in-Some c =
    sym (too-many c.args.text.now c.in_ok-left.left.now c.in_ok-left.rest.now c.in_ok-bottom.bottom.now c.in_ok-bottom.rest.now
    c.in_ok-right.right.now c.in_ok-right.top.now _ _
    (sym c.in_ok-left.ensures) (sym c.in_ok-bottom.ensures) (sym c.in_ok-right.ensures) (sym c.in-Some.ensures))
