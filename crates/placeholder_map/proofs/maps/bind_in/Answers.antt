use Rattle.std.proofs.Common.{◌≡◌, None, Some, sym, ap, ◌∙◌, arith}
use Rattle.std.specs.Ordering.{int_eq}
use Rattle.std.proofs.lemmas.Int.{to_z-of_z}
use Rattle.indexmap.specs.IndexMap.{get, insert_entry}
use Rattle.placeholder_map.proofs.Inserted.{inserted-new, bound-stays, inserted-back}
use Rattle.placeholder_map.proofs.maps.bind_in.Goals as goal

pub returns-in-None-clause-ok : goal.returns-in-None-clause-ok
returns-in-None-clause-ok c =
    let fits = c.ranges.placeholder in
    let none : get int_eq c.args.bindings.now c.args.placeholder ≡ None = grind (arith, to_z-of_z) in
    let e = simp to_z-of_z at c.in_ok-insert.ensures.entries in
    e ∙ inserted-new c.args.bindings.now c.args.placeholder c.args.place none

pub returns-in_ok-insert-in-Some-clause-ok : goal.returns-in_ok-insert-in-Some-clause-ok
returns-in_ok-insert-in-Some-clause-ok c =
    let fits = c.ranges.placeholder in
    let e = simp to_z-of_z at c.in_ok-insert.ensures.entries in
    let f = simp to_z-of_z at c.in_ok-insert-in-Some.ensures.entries in
    let there : get int_eq c.args.bindings.now c.args.placeholder ≡ Some c.in-Some.earlier = grind (arith, to_z-of_z) in
    let back = inserted-back c.args.bindings.now.entries c.args.placeholder c.args.place c.in-Some.earlier there in
    let stays = bound-stays c.args.bindings.now.entries c.args.placeholder c.args.place c.in-Some.earlier there in
    f ∙ ap (λ es. insert_entry int_eq es c.args.placeholder c.in-Some.earlier) e ∙ back ∙ sym stays
