use Rattle.std.proofs.Common.{false, take}
use Rattle.serde_json.specs.Find.{as_array, as_bool}
use Rattle.osm_change.specs.declared.raw.Action.TheVariants.{Create, Modify, Delete}
use Rattle.osm_json.specs.Walked.{Sight, sight, walk_list}
use Rattle.osm_json.proofs.Kept.{kept, kept_on, kept_list, kept_list_on}
use Rattle.osm_json.proofs.blocks.entry.Goals as goal

pub returns-in-Create-clause-value : goal.returns-in-Create-clause-value
returns-in-Create-clause-value c =
    let base : Sight = (take c.args.base.start c.args.progress.now.ops.items, c.args.base.fault) in
    let new = c.keep_list.new in
    rw c.in-Create.is (kept_list (λ d. walk_list Create base (as_array d)) (sight c.listed.new.progress) (λ there is_list seen. (record c.args.found.now { create = there; is_list = is_list }, seen)) c.listed.result c.keep_list.result new.there new.is_list _ _ c.listed.ensures.value c.keep_list.ensures)

pub returns-in-Create-clause-shorter : goal.returns-in-Create-clause-shorter
returns-in-Create-clause-shorter c = kept_list_on _ c.listed.result c.keep_list.result c.keep_list.new.there c.keep_list.new.is_list c.listed.ensures.shorter c.keep_list.ensures

pub returns-in-Modify-clause-value : goal.returns-in-Modify-clause-value
returns-in-Modify-clause-value c =
    let base : Sight = (take c.args.base.start c.args.progress.now.ops.items, c.args.base.fault) in
    let new = c.keep_list-in-Modify.new in
    rw c.in-Modify.is (kept_list (λ d. walk_list Modify base (as_array d)) (sight c.listed-in-Modify.new.progress) (λ there is_list seen. (record c.args.found.now { modify = there; is_list = is_list }, seen)) c.listed-in-Modify.result c.keep_list-in-Modify.result new.there new.is_list _ _ c.listed-in-Modify.ensures.value c.keep_list-in-Modify.ensures)

pub returns-in-Modify-clause-shorter : goal.returns-in-Modify-clause-shorter
returns-in-Modify-clause-shorter c = kept_list_on _ c.listed-in-Modify.result c.keep_list-in-Modify.result c.keep_list-in-Modify.new.there c.keep_list-in-Modify.new.is_list c.listed-in-Modify.ensures.shorter c.keep_list-in-Modify.ensures

pub returns-in-Delete-clause-value : goal.returns-in-Delete-clause-value
returns-in-Delete-clause-value c =
    let base : Sight = (take c.args.base.start c.args.progress.now.ops.items, c.args.base.fault) in
    let new = c.keep_list-in-Delete.new in
    rw c.in-Delete.is (kept_list (λ d. walk_list (Delete false) base (as_array d)) (sight c.listed-in-Delete.new.progress) (λ there is_list seen. (record c.args.found.now { delete = there; is_list = is_list }, seen)) c.listed-in-Delete.result c.keep_list-in-Delete.result new.there new.is_list _ _ c.listed-in-Delete.ensures.value c.keep_list-in-Delete.ensures)

pub returns-in-Delete-clause-shorter : goal.returns-in-Delete-clause-shorter
returns-in-Delete-clause-shorter c = kept_list_on _ c.listed-in-Delete.result c.keep_list-in-Delete.result c.keep_list-in-Delete.new.there c.keep_list-in-Delete.new.is_list c.listed-in-Delete.ensures.shorter c.keep_list-in-Delete.ensures

pub returns-in-IfUnused-clause-value : goal.returns-in-IfUnused-clause-value
returns-in-IfUnused-clause-value c =
    rw c.in-IfUnused.is (kept as_bool (λ place. (record c.args.found.now { if_unused = place }, sight c.args.progress.now)) c.next_flag.result c.keep.result c.keep.new.place _ _ c.next_flag.ensures.value c.keep.ensures)

pub returns-in-IfUnused-clause-shorter : goal.returns-in-IfUnused-clause-shorter
returns-in-IfUnused-clause-shorter c = kept_on _ c.next_flag.result c.keep.result c.keep.new.place c.next_flag.ensures.shorter c.keep.ensures
