use Rattle.std.proofs.Common.{get_or, arith, ◌∙◌}
use Rattle.std.specs.Prelude.{◌==◌}
use Rattle.std.proofs.lemmas.Bool.{ne_eqb}
use Rattle.tile_grid.proofs.Counts.{none_pass, any_default}
use Rattle.tile_grid.proofs.tiles.place_from_end.Goals as goal

pub unreachable-requires : goal.unreachable-requires
unreachable-requires c =
    let none = none_pass (λ x. x == c.args.id) c.args.ids.now
    (λ k d h. ne_eqb (get_or c.args.ids.now k d) c.args.id (λ e. c.loop-place.invariant.none_later k (omega (arith, c.loop-place-test.false)) h (any_default c.args.ids.now k 0 d h ∙ e))) in
    omega (arith, none, c.requires)
