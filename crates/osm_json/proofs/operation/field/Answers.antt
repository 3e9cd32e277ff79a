use Rattle.osm_json.specs.Reading.{kind_of, id_of, count_of, integer_of, list_of, reference_of, tags_of}
use Rattle.osm_json.proofs.Kept.{kept, kept_on}
use Rattle.osm_json.proofs.operation.field.Goals as goal

pub returns-in-Type-clause-value : goal.returns-in-Type-clause-value
returns-in-Type-clause-value c =
    rw c.in-Type.is (kept kind_of (λ place. record c.args.found.now { kind = place }) c.next_kind.result c.keep.result c.keep.new.place _ _ c.next_kind.ensures.value c.keep.ensures)

pub returns-in-Type-clause-shorter : goal.returns-in-Type-clause-shorter
returns-in-Type-clause-shorter c = kept_on _ c.next_kind.result c.keep.result c.keep.new.place c.next_kind.ensures.shorter c.keep.ensures

pub returns-in-Id-clause-value : goal.returns-in-Id-clause-value
returns-in-Id-clause-value c =
    rw c.in-Id.is (kept id_of (λ place. record c.args.found.now { id = place }) c.next_id.result c.keep-in-Id.result c.keep-in-Id.new.place _ _ c.next_id.ensures.value c.keep-in-Id.ensures)

pub returns-in-Id-clause-shorter : goal.returns-in-Id-clause-shorter
returns-in-Id-clause-shorter c = kept_on _ c.next_id.result c.keep-in-Id.result c.keep-in-Id.new.place c.next_id.ensures.shorter c.keep-in-Id.ensures

pub returns-in-Version-clause-value : goal.returns-in-Version-clause-value
returns-in-Version-clause-value c =
    rw c.in-Version.is (kept count_of (λ place. record c.args.found.now { version = place }) c.next_count.result c.keep-in-Version.result c.keep-in-Version.new.place _ _ c.next_count.ensures.value c.keep-in-Version.ensures)

pub returns-in-Version-clause-shorter : goal.returns-in-Version-clause-shorter
returns-in-Version-clause-shorter c = kept_on _ c.next_count.result c.keep-in-Version.result c.keep-in-Version.new.place c.next_count.ensures.shorter c.keep-in-Version.ensures

pub returns-in-Changeset-clause-value : goal.returns-in-Changeset-clause-value
returns-in-Changeset-clause-value c =
    rw c.in-Changeset.is (kept count_of (λ place. record c.args.found.now { changeset = place }) c.next_count-in-Changeset.result c.keep-in-Changeset.result c.keep-in-Changeset.new.place _ _ c.next_count-in-Changeset.ensures.value c.keep-in-Changeset.ensures)

pub returns-in-Changeset-clause-shorter : goal.returns-in-Changeset-clause-shorter
returns-in-Changeset-clause-shorter c = kept_on _ c.next_count-in-Changeset.result c.keep-in-Changeset.result c.keep-in-Changeset.new.place c.next_count-in-Changeset.ensures.shorter c.keep-in-Changeset.ensures

pub returns-in-Lat7-clause-value : goal.returns-in-Lat7-clause-value
returns-in-Lat7-clause-value c =
    rw c.in-Lat7.is (kept integer_of (λ place. record c.args.found.now { lat7 = place }) c.next_integer.result c.keep-in-Lat7.result c.keep-in-Lat7.new.place _ _ c.next_integer.ensures.value c.keep-in-Lat7.ensures)

pub returns-in-Lat7-clause-shorter : goal.returns-in-Lat7-clause-shorter
returns-in-Lat7-clause-shorter c = kept_on _ c.next_integer.result c.keep-in-Lat7.result c.keep-in-Lat7.new.place c.next_integer.ensures.shorter c.keep-in-Lat7.ensures

pub returns-in-Lon7-clause-value : goal.returns-in-Lon7-clause-value
returns-in-Lon7-clause-value c =
    rw c.in-Lon7.is (kept integer_of (λ place. record c.args.found.now { lon7 = place }) c.next_integer-in-Lon7.result c.keep-in-Lon7.result c.keep-in-Lon7.new.place _ _ c.next_integer-in-Lon7.ensures.value c.keep-in-Lon7.ensures)

pub returns-in-Lon7-clause-shorter : goal.returns-in-Lon7-clause-shorter
returns-in-Lon7-clause-shorter c = kept_on _ c.next_integer-in-Lon7.result c.keep-in-Lon7.result c.keep-in-Lon7.new.place c.next_integer-in-Lon7.ensures.shorter c.keep-in-Lon7.ensures

pub returns-in-Nodes-clause-value : goal.returns-in-Nodes-clause-value
returns-in-Nodes-clause-value c =
    rw c.in-Nodes.is (kept (list_of id_of) (λ place. record c.args.found.now { nodes = place }) c.ids.result c.keep-in-Nodes.result c.keep-in-Nodes.new.place _ _ c.ids.ensures.value c.keep-in-Nodes.ensures)

pub returns-in-Nodes-clause-shorter : goal.returns-in-Nodes-clause-shorter
returns-in-Nodes-clause-shorter c = kept_on _ c.ids.result c.keep-in-Nodes.result c.keep-in-Nodes.new.place c.ids.ensures.shorter c.keep-in-Nodes.ensures

pub returns-in-Members-clause-value : goal.returns-in-Members-clause-value
returns-in-Members-clause-value c =
    rw c.in-Members.is (kept (list_of reference_of) (λ place. record c.args.found.now { members = place }) c.references.result c.keep-in-Members.result c.keep-in-Members.new.place _ _ c.references.ensures.value c.keep-in-Members.ensures)

pub returns-in-Members-clause-shorter : goal.returns-in-Members-clause-shorter
returns-in-Members-clause-shorter c = kept_on _ c.references.result c.keep-in-Members.result c.keep-in-Members.new.place c.references.ensures.shorter c.keep-in-Members.ensures

pub returns-in-Tags-clause-value : goal.returns-in-Tags-clause-value
returns-in-Tags-clause-value c =
    rw c.in-Tags.is (kept tags_of (λ place. record c.args.found.now { tags = place }) c.tags.result c.keep-in-Tags.result c.keep-in-Tags.new.place _ _ c.tags.ensures.value c.keep-in-Tags.ensures)

pub returns-in-Tags-clause-shorter : goal.returns-in-Tags-clause-shorter
returns-in-Tags-clause-shorter c = kept_on _ c.tags.result c.keep-in-Tags.result c.keep-in-Tags.new.place c.tags.ensures.shorter c.keep-in-Tags.ensures
