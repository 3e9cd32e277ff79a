use Rattle.serde_json.specs.Find.{as_str}
use Rattle.osm_json.specs.Found.{parts_view, text_in}
use Rattle.osm_json.specs.Reading.{kind_of, id_of}
use Rattle.osm_json.proofs.Kept.{kept, kept_seen, kept_on}
use Rattle.osm_json.proofs.lists.part.Goals as goal

pub returns-in-Type-clause-value : goal.returns-in-Type-clause-value
returns-in-Type-clause-value c =
    rw c.in-Type.is (kept kind_of (λ place. record (parts_view c.args.found.now) { kind = place }) c.next_kind.result c.keep.result c.keep.new.place _ _ c.next_kind.ensures.value c.keep.ensures)

pub returns-in-Type-clause-shorter : goal.returns-in-Type-clause-shorter
returns-in-Type-clause-shorter c = kept_on _ c.next_kind.result c.keep.result c.keep.new.place c.next_kind.ensures.shorter c.keep.ensures

pub returns-in-Ref-clause-value : goal.returns-in-Ref-clause-value
returns-in-Ref-clause-value c =
    rw c.in-Ref.is (kept id_of (λ place. record (parts_view c.args.found.now) { name = place }) c.next_id.result c.keep-in-Ref.result c.keep-in-Ref.new.place _ _ c.next_id.ensures.value c.keep-in-Ref.ensures)

pub returns-in-Ref-clause-shorter : goal.returns-in-Ref-clause-shorter
returns-in-Ref-clause-shorter c = kept_on _ c.next_id.result c.keep-in-Ref.result c.keep-in-Ref.new.place c.next_id.ensures.shorter c.keep-in-Ref.ensures

pub returns-in-Role-clause-value : goal.returns-in-Role-clause-value
returns-in-Role-clause-value c =
    rw c.in-Role.is (kept_seen text_in as_str (λ place. record (parts_view c.args.found.now) { role = place }) c.next_text.result c.keep-in-Role.result c.keep-in-Role.new.place _ _ c.next_text.ensures.value c.keep-in-Role.ensures)

pub returns-in-Role-clause-shorter : goal.returns-in-Role-clause-shorter
returns-in-Role-clause-shorter c = kept_on _ c.next_text.result c.keep-in-Role.result c.keep-in-Role.new.place c.next_text.ensures.shorter c.keep-in-Role.ensures
