use Rattle.std.proofs.Common.{◌≡◌, ◌+◌, ◌&&◌, List, ◌∙◌, ap, refl, subst, arith}
use Rattle.std.specs.Prelude.{◌==◌, if◌then◌else◌}
use Rattle.tile_grid.specs.Tile.{Held, column_in, find, times_in, IsFoundAt}
use Rattle.tile_grid.proofs.Columns.{each_tile, find-column}
use Rattle.tile_grid.proofs.rows.come_back_in.Goals as goal

pub returns-clause-ids : goal.returns-clause-ids
returns-clause-ids c =
    let ts : List Held = c.args.tiles.now.items in
    let at : IsFoundAt ts c.args.column c.in-Ok.place = let P : List Held → Type 0 = λ l. IsFoundAt l c.args.column c.in-Ok.place in subst P c.as_slice.ensures.value c.in-Ok.ensures in
    let was : c.index_mut.result.now ≡ find ts c.args.column = c.index_mut.ensures.value ∙ at.found c.index_mut.result.now in
    let same : c.come_back.new.self.column ≡ c.args.column = c.come_back.ensures.column ∙ ap column_in was ∙ find-column ts c.args.column in
    λ cell other.
    each_tile ts c.in-Ok.place c.args.column c.come_back.new.self (λ b t u. times_in t.ids other ≡ times_in u.ids other + (if b && (other == c.args.id) then 1 else 0)) c.requires.order at same
    (c.come_back.ensures.ids other ∙ ap (λ (t : Held). times_in t.ids other + (if other == c.args.id then 1 else 0)) was)
    (λ t. omega arith) cell

pub returns-clause-ever : goal.returns-clause-ever
returns-clause-ever c =
    let ts : List Held = c.args.tiles.now.items in
    let at : IsFoundAt ts c.args.column c.in-Ok.place = let P : List Held → Type 0 = λ l. IsFoundAt l c.args.column c.in-Ok.place in subst P c.as_slice.ensures.value c.in-Ok.ensures in
    let was : c.index_mut.result.now ≡ find ts c.args.column = c.index_mut.ensures.value ∙ at.found c.index_mut.result.now in
    let same : c.come_back.new.self.column ≡ c.args.column = c.come_back.ensures.column ∙ ap column_in was ∙ find-column ts c.args.column in
    λ cell other.
    each_tile ts c.in-Ok.place c.args.column c.come_back.new.self (λ b t u. times_in t.ever other ≡ times_in u.ever other) c.requires.order at same
    (c.come_back.ensures.ever other ∙ ap (λ (t : Held). times_in t.ever other) was)
    (λ t. refl) cell

pub returns-clause-free : goal.returns-clause-free
returns-clause-free c =
    let ts : List Held = c.args.tiles.now.items in
    let at : IsFoundAt ts c.args.column c.in-Ok.place = let P : List Held → Type 0 = λ l. IsFoundAt l c.args.column c.in-Ok.place in subst P c.as_slice.ensures.value c.in-Ok.ensures in
    let was : c.index_mut.result.now ≡ find ts c.args.column = c.index_mut.ensures.value ∙ at.found c.index_mut.result.now in
    let same : c.come_back.new.self.column ≡ c.args.column = c.come_back.ensures.column ∙ ap column_in was ∙ find-column ts c.args.column in
    each_tile ts c.in-Ok.place c.args.column c.come_back.new.self (λ b t u. t.free ≡ u.free) c.requires.order at same
    (c.come_back.ensures.free ∙ ap (λ (t : Held). t.free) was)
    (λ t. refl)
