use Rattle.std.proofs.Common.{◌≡◌, ℕ, ◌+◌, ◌<◌, length, drop, get_or, arith, ◌∙◌, sym, length-drop}
use Rattle.std.specs.Prelude.{◌==◌}
use Rattle.std.proofs.lemmas.Bool.{ne_eqb}
use Rattle.std.proofs.lemmas.List.{get_or-drop}
use Rattle.std.proofs.lemmas.List.Sums.{sum_by-take-drop}
use Rattle.tile_grid.specs.Tile.{times_in}
use Rattle.tile_grid.proofs.Counts.{one, none_pass, any_default}
use Rattle.tile_grid.proofs.tiles.place_from.Goals as goal

pub unreachable-requires : goal.unreachable-requires
unreachable-requires c =
    let ids = c.args.ids.now in
    let here = c.args.here in
    let inside : (k : ℕ) → k < length (drop here ids) → here + k < length ids = λ k h. omega (arith, h, length-drop here ids) in
    let none : times_in (drop here ids) c.args.id ≡ 0 = none_pass (λ x. x == c.args.id) (drop here ids)
    (λ k d h. ne_eqb (get_or (drop here ids) k d) c.args.id
    (λ e. c.loop-place.invariant (here + k) (omega arith) (omega (arith, inside k h, c.loop-place-test.false))
    (any_default ids (here + k) 0 d (inside k h) ∙ sym (get_or-drop here ids k d) ∙ e))) in
    omega (arith, none, sum_by-take-drop (one (λ x. x == c.args.id)) ids here, c.requires)
