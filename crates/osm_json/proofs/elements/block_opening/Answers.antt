use Rattle.std.proofs.Common.{◌≡◌, nat_eq, false, refl, rules, tests}
use Rattle.json.specs.Print.{escape_byte}
use Rattle.osm_json.proofs.elements.block_opening.Goals as goal

pub returns-then-row-eq1 : goal.returns-then-row-eq1
unfolding escape_byte
returns-then-row-eq1 c = rw (← c.row.view_is, c.if-row-eq1.true) refl

pub returns-in-Some : goal.returns-in-Some
unfolding escape_byte
returns-in-Some c =
    let later : nat_eq c.row.inside.number 1 ≡ false = search (rules, tests) in
    rw (← c.row.view_is, later, ← c.in-Some.ensures) refl

pub returns-in-None : goal.returns-in-None
unfolding escape_byte
returns-in-None c =
    let later : nat_eq c.row.inside.number 1 ≡ false = search (rules, tests) in
    rw (← c.row.view_is, later, ← c.in-None.ensures) refl
