use Rattle.std.proofs.Common.{◌≡◌, ◌+◌, ◌-◌, ◌≤◌, ◌<◌, ℕ, Ok, Err, false, ◌∙◌, ap, arith}
use Rattle.std.specs.Prelude.{Result, OnOk, is_ok, if◌then◌else◌, slice_set, slice_index, ◌==◌}
use Rattle.std.proofs.lemmas.Bool.Decides.{nat_tests}
use Rattle.osm_base.specs.Row.{Row}
use Rattle.osm_base.specs.declared.memory.Memory.{Memory}
use Rattle.changeset_core.specs.Kept.{Kept}
use Rattle.osm_world.specs.Records.{rooms}
use Rattle.osm_world.proofs.Replaced.{IsPut, is_put, put-same, put-index, put-others}
use Rattle.osm_world.proofs.records.promise_work.Goals as goal

pub returns-clause-records : goal.returns-clause-records
returns-clause-records c =
    let put : IsPut c.args.changesets.now.items (c.args.id - 1) c.replace-kept.result c.room-promised.new.self c.set.new.self.items
    = is_put c.args.changesets.now.items c.set.new.self.items (c.args.id - 1) c.vacant.result c.replace-kept.result c.room-promised.new.self
    c.replace-kept.ensures.was
    (ap (λ (row : Row Kept). row.items) c.set.ensures ∙ ap (λ (row : Row Kept). slice_set row.items (c.args.id - 1) c.room-promised.new.self) c.replace-kept.ensures.row) in
    put-same (λ (k : Kept). k.kept) c.args.changesets.now.items (c.args.id - 1) c.replace-kept.result c.room-promised.new.self c.set.new.self.items put (ap (λ (k : Kept). k.kept) c.room-promised.ensures)

pub returns-clause-ids : goal.returns-clause-ids
returns-clause-ids c =
    let put : IsPut c.args.changesets.now.items (c.args.id - 1) c.replace-kept.result c.room-promised.new.self c.set.new.self.items
    = is_put c.args.changesets.now.items c.set.new.self.items (c.args.id - 1) c.vacant.result c.replace-kept.result c.room-promised.new.self
    c.replace-kept.ensures.was
    (ap (λ (row : Row Kept). row.items) c.set.ensures ∙ ap (λ (row : Row Kept). slice_set row.items (c.args.id - 1) c.room-promised.new.self) c.replace-kept.ensures.row) in
    put-same (λ (k : Kept). k.id) c.args.changesets.now.items (c.args.id - 1) c.replace-kept.result c.room-promised.new.self c.set.new.self.items put (ap (λ (k : Kept). k.id) c.room-promised.ensures)

pub returns-clause-ok : goal.returns-clause-ok
returns-clause-ok c =
    let put : IsPut c.args.changesets.now.items (c.args.id - 1) c.replace-kept.result c.room-promised.new.self c.set.new.self.items
    = is_put c.args.changesets.now.items c.set.new.self.items (c.args.id - 1) c.vacant.result c.replace-kept.result c.room-promised.new.self
    c.replace-kept.ensures.was
    (ap (λ (row : Row Kept). row.items) c.set.ensures ∙ ap (λ (row : Row Kept). slice_set row.items (c.args.id - 1) c.room-promised.new.self) c.replace-kept.ensures.row) in
    enough c.room-promised.result c.replace-kept.result.free c.args.more (slice_index (rooms c.set.new.self.items) (c.args.id - 1))
    (put-index (λ (k : Kept). k.free) c.args.changesets.now.items (c.args.id - 1) c.replace-kept.result c.room-promised.new.self c.set.new.self.items put
    ∙ ap (λ (k : Kept). k.free) c.room-promised.ensures)
  where
    enough : (r : Result (Unit {0}) Memory) (room more n : ℕ) → n ≡ room + (if is_ok r then more else 0) → OnOk r (more ≤ n)
    enough (Ok x) room more n e = omega (arith, e)
    enough (Err x) room more n e = tt

pub returns-clause-others : goal.returns-clause-others
returns-clause-others c i other =
    let put : IsPut c.args.changesets.now.items (c.args.id - 1) c.replace-kept.result c.room-promised.new.self c.set.new.self.items
    = is_put c.args.changesets.now.items c.set.new.self.items (c.args.id - 1) c.vacant.result c.replace-kept.result c.room-promised.new.self
    c.replace-kept.ensures.was
    (ap (λ (row : Row Kept). row.items) c.set.ensures ∙ ap (λ (row : Row Kept). slice_set row.items (c.args.id - 1) c.room-promised.new.self) c.replace-kept.ensures.row) in
    let same : slice_index (rooms c.set.new.self.items) i ≡ slice_index (rooms c.args.changesets.now.items) i
    = put-others (λ (k : Kept). k.free) c.args.changesets.now.items (c.args.id - 1) c.replace-kept.result c.room-promised.new.self c.set.new.self.items put i (λ e. apart i c.args.id other (omega (arith, c.if-id-eq0.false)) e) in
    omega (arith, same)
  where
    apart : (i id : ℕ) → (i + 1 == id) ≡ false → 0 < id → i ≡ id - 1 → ⊥
    apart i id other some e = grind (arith, nat_tests)
