use Rattle.std.proofs.Common.{◌≡◌, ◌+◌, ◌-◌, ℕ, true, ◌∙◌, ap, arith}
use Rattle.std.specs.Prelude.{slice_set, slice_index, ◌==◌}
use Rattle.std.proofs.lemmas.Bool.Decides.{nat_tests}
use Rattle.osm_base.specs.Row.{Row}
use Rattle.changeset_core.specs.Kept.{Kept}
use Rattle.osm_world.specs.Records.{rooms}
use Rattle.osm_world.proofs.Replaced.{IsPut, is_put, put-same, put-index, put-less}
use Rattle.osm_world.proofs.records.forget_work.Goals as goal

pub returns-clause-records : goal.returns-clause-records
returns-clause-records c =
    let put : IsPut c.args.changesets.now.items (c.args.id - 1) c.replace-kept.result c.forget.new.self c.set.new.self.items
    = is_put c.args.changesets.now.items c.set.new.self.items (c.args.id - 1) c.vacant.result c.replace-kept.result c.forget.new.self
    c.replace-kept.ensures.was
    (ap (λ (row : Row Kept). row.items) c.set.ensures ∙ ap (λ (row : Row Kept). slice_set row.items (c.args.id - 1) c.forget.new.self) c.replace-kept.ensures.row) in
    put-same (λ (k : Kept). k.kept) c.args.changesets.now.items (c.args.id - 1) c.replace-kept.result c.forget.new.self c.set.new.self.items put (ap (λ (k : Kept). k.kept) c.forget.ensures)

pub returns-clause-ids : goal.returns-clause-ids
returns-clause-ids c =
    let put : IsPut c.args.changesets.now.items (c.args.id - 1) c.replace-kept.result c.forget.new.self c.set.new.self.items
    = is_put c.args.changesets.now.items c.set.new.self.items (c.args.id - 1) c.vacant.result c.replace-kept.result c.forget.new.self
    c.replace-kept.ensures.was
    (ap (λ (row : Row Kept). row.items) c.set.ensures ∙ ap (λ (row : Row Kept). slice_set row.items (c.args.id - 1) c.forget.new.self) c.replace-kept.ensures.row) in
    put-same (λ (k : Kept). k.id) c.args.changesets.now.items (c.args.id - 1) c.replace-kept.result c.forget.new.self c.set.new.self.items put (ap (λ (k : Kept). k.id) c.forget.ensures)

pub returns-clause-none : goal.returns-clause-none
returns-clause-none c i here =
    let put : IsPut c.args.changesets.now.items (c.args.id - 1) c.replace-kept.result c.forget.new.self c.set.new.self.items
    = is_put c.args.changesets.now.items c.set.new.self.items (c.args.id - 1) c.vacant.result c.replace-kept.result c.forget.new.self
    c.replace-kept.ensures.was
    (ap (λ (row : Row Kept). row.items) c.set.ensures ∙ ap (λ (row : Row Kept). slice_set row.items (c.args.id - 1) c.forget.new.self) c.replace-kept.ensures.row) in
    let at : i ≡ c.args.id - 1 = placed i c.args.id here in
    ap (slice_index (rooms c.set.new.self.items)) at
    ∙ put-index (λ (k : Kept). k.free) c.args.changesets.now.items (c.args.id - 1) c.replace-kept.result c.forget.new.self c.set.new.self.items put
    ∙ ap (λ (k : Kept). k.free) c.forget.ensures
  where
    placed : (i id : ℕ) → (i + 1 == id) ≡ true → i ≡ id - 1
    placed i id here = grind (arith, nat_tests)

pub returns-clause-rooms : goal.returns-clause-rooms
returns-clause-rooms c =
    let put : IsPut c.args.changesets.now.items (c.args.id - 1) c.replace-kept.result c.forget.new.self c.set.new.self.items
    = is_put c.args.changesets.now.items c.set.new.self.items (c.args.id - 1) c.vacant.result c.replace-kept.result c.forget.new.self
    c.replace-kept.ensures.was
    (ap (λ (row : Row Kept). row.items) c.set.ensures ∙ ap (λ (row : Row Kept). slice_set row.items (c.args.id - 1) c.forget.new.self) c.replace-kept.ensures.row) in
    put-less (λ (k : Kept). k.free) c.args.changesets.now.items (c.args.id - 1) c.replace-kept.result c.forget.new.self c.set.new.self.items put
    (omega (arith, ap (λ (k : Kept). k.free) c.forget.ensures))
