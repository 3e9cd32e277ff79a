use Rattle.std.proofs.Common.{◌-◌, ap, sym, ◌∙◌}
use Rattle.std.specs.Prelude.{slice_set}
use Rattle.osm_base.specs.Row.{Row}
use Rattle.changeset_core.specs.Changeset.{ended_at}
use Rattle.changeset_core.specs.Kept.{Kept}
use Rattle.changeset_core.specs.declared.records.ChangesetRecord.{ChangesetRecord}
use Rattle.osm_world.specs.Records.{records}
use Rattle.osm_world.proofs.Replaced.{IsPut, is_put, put-is, put-same, told, same-some}
use Rattle.osm_world.proofs.records.set_end.Goals as goal

pub close-requires-clause-is_open : goal.close-requires-clause-is_open
close-requires-clause-is_open c =
    c.requires.is_open c.replace-kept.result.kept (told (λ (k : Kept). k.kept) c.args.changesets.now.items (c.args.id - 1) c.replace-kept.result c.replace-kept.ensures.was)

pub returns-clause-records : goal.returns-clause-records
returns-clause-records c r known =
    let put : IsPut c.args.changesets.now.items (c.args.id - 1) c.replace-kept.result c.close.new.self c.set.new.self.items
    = is_put c.args.changesets.now.items c.set.new.self.items (c.args.id - 1) c.vacant.result c.replace-kept.result c.close.new.self
    c.replace-kept.ensures.was
    (ap (λ (row : Row Kept). row.items) c.set.ensures ∙ ap (λ (row : Row Kept). slice_set row.items (c.args.id - 1) c.close.new.self) c.replace-kept.ensures.row) in
    let same = same-some c.replace-kept.result.kept r (sym (told (λ (k : Kept). k.kept) c.args.changesets.now.items (c.args.id - 1) c.replace-kept.result c.replace-kept.ensures.was) ∙ known) in
    put-is (λ (k : Kept). k.kept) c.args.changesets.now.items (c.args.id - 1) c.replace-kept.result c.close.new.self c.set.new.self.items put
    ∙ ap (slice_set (records c.args.changesets.now.items) (c.args.id - 1)) (ap (λ (k : Kept). k.kept) c.close.ensures ∙ ap (λ (x : ChangesetRecord). ended_at x c.args.at) same)

pub returns-clause-ids : goal.returns-clause-ids
returns-clause-ids c =
    let put : IsPut c.args.changesets.now.items (c.args.id - 1) c.replace-kept.result c.close.new.self c.set.new.self.items
    = is_put c.args.changesets.now.items c.set.new.self.items (c.args.id - 1) c.vacant.result c.replace-kept.result c.close.new.self
    c.replace-kept.ensures.was
    (ap (λ (row : Row Kept). row.items) c.set.ensures ∙ ap (λ (row : Row Kept). slice_set row.items (c.args.id - 1) c.close.new.self) c.replace-kept.ensures.row) in
    put-same (λ (k : Kept). k.id) c.args.changesets.now.items (c.args.id - 1) c.replace-kept.result c.close.new.self c.set.new.self.items put (ap (λ (k : Kept). k.id) c.close.ensures)

pub returns-clause-rooms : goal.returns-clause-rooms
returns-clause-rooms c =
    let put : IsPut c.args.changesets.now.items (c.args.id - 1) c.replace-kept.result c.close.new.self c.set.new.self.items
    = is_put c.args.changesets.now.items c.set.new.self.items (c.args.id - 1) c.vacant.result c.replace-kept.result c.close.new.self
    c.replace-kept.ensures.was
    (ap (λ (row : Row Kept). row.items) c.set.ensures ∙ ap (λ (row : Row Kept). slice_set row.items (c.args.id - 1) c.close.new.self) c.replace-kept.ensures.row) in
    put-same (λ (k : Kept). k.free) c.args.changesets.now.items (c.args.id - 1) c.replace-kept.result c.close.new.self c.set.new.self.items put (ap (λ (k : Kept). k.free) c.close.ensures)
