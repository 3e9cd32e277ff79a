-- The operations of a change, as they are written, are plain and are read as themselves.
use Rattle.std.proofs.Common.{◌≡◌, ℤ, pos, negsuc, List, [], ◌∷◌, map, Ok, arith}
use Rattle.std.specs.Prelude.{All, ◌≤ℤ◌}
use Rattle.std.proofs.lemmas.Int.{ints}
use Rattle.std.proofs.lemmas.List.Elements.{All-nil, All-cons, All-head, All-tail}
use Rattle.std.specs.List.Sorted.{IsStrictlySortedBy}
use Rattle.serde_json.specs.Find.{of_integer}
use Rattle.osm_base.specs.Place.{IsPosition}
use Rattle.osm_element.specs.Limits.{check_tags, check_position, check_named}
use Rattle.osm_element.specs.Tags.{Tag}
use Rattle.osm_element.specs.declared.contents.Content.{Content}
use Rattle.osm_element.specs.declared.contents.Content.TheVariants as content
use Rattle.osm_change.specs.Build.{IsRawContent, IsRawOp, IsRaw}
use Rattle.osm_change.specs.Change.{kind_of, IsWithinLimits}
use Rattle.osm_change.specs.Document.{content_said, op_said, document_of}
use Rattle.osm_change.specs.declared.operations.Name.{Name}
use Rattle.osm_change.specs.declared.operations.Op.{Op}
use Rattle.osm_change.specs.declared.operations.Op.TheVariants as ops
use Rattle.osm_json.specs.Again.{IsShort}
use Rattle.osm_json.specs.Uploads.{HasRisingTags, IsChange}
use Rattle.osm_json.proofs.Given.{on_globe, behind, op_again}
use Rattle.osm_json.proofs.Grouped.{IsReadSo}
use Rattle.osm_json.proofs.PlainParts.{HasShort, HasShortParts}

short_between : (z : ℤ) → negsuc 1799999999 ≤ℤ z → z ≤ℤ pos 1800000000 → IsShort (of_integer z)
short_between (pos n) low high = omega (arith, ints)
short_between (negsuc n) low high = omega (arith, ints)

short_position : (lat7 lon7 : ℤ) → IsPosition lat7 lon7 → IsShort (of_integer lat7) × IsShort (of_integer lon7)
short_position lat7 lon7 at =
    let south = at.south in
    let north = at.north in
    (short_between lat7 (omega (arith, ints)) (omega (arith, ints)), short_between lon7 at.west at.east)

short_content : (all : List Op) (tags : List Tag) (c : Content Name) → IsRawContent (kind_of c) (content_said all c) → check_named tags c ≡ Ok tt → HasShort (content_said all c)
short_content all tags (content.Node at) is within = short_position at.lat7 at.lon7 (on_globe at.lat7 at.lon7 (behind (check_tags tags) (check_position at.lat7 at.lon7) within))
short_content all tags (content.Way nodes) is within = is
short_content all tags (content.Relation members) is within = is

short_parts : (all : List Op) (o : Op) → IsRawOp (op_said all o) → IsWithinLimits o → HasRisingTags o → HasShortParts (op_said all o)
unfolding IsStrictlySortedBy
short_parts all (ops.Create placeholder content tags) is within rise = record { id = is.id; version = tt; content = short_content all tags content is.content within; tags = rise }
short_parts all (ops.Modify name version content tags) is within rise = record { id = is.id; version = is.version; content = short_content all tags content is.content within; tags = rise }
short_parts all (ops.Delete kind name version if_unused) is within rise = record { id = is.id; version = is.version; content = tt; tags = tt }

module _ (all : List Op) where
  all_short : (some : List Op) → All IsRawOp (map (op_said all) some) → All IsWithinLimits some → All HasRisingTags some → All HasShortParts (map (op_said all) some)
  all_short [] raw within rise = All-nil HasShortParts
  all_short (o ∷ os) raw within rise =
      All-cons HasShortParts (op_said all o) (map (op_said all) os)
      (short_parts all o (All-head IsRawOp (op_said all o) (map (op_said all) os) raw) (All-head IsWithinLimits o os within) (All-head HasRisingTags o os rise))
      (all_short os (All-tail IsRawOp (op_said all o) (map (op_said all) os) raw) (All-tail IsWithinLimits o os within) (All-tail HasRisingTags o os rise))

  all_again : (some : List Op) → All IsRawOp (map (op_said all) some) → All IsWithinLimits some → All IsReadSo (map (op_said all) some)
  all_again [] raw within = All-nil IsReadSo
  all_again (o ∷ os) raw within =
      All-cons IsReadSo (op_said all o) (map (op_said all) os)
      (op_again all o (All-head IsRawOp (op_said all o) (map (op_said all) os) raw) (All-head IsWithinLimits o os within))
      (all_again os (All-tail IsRawOp (op_said all o) (map (op_said all) os) raw) (All-tail IsWithinLimits o os within))

pub change_short : (ops : List Op) → IsChange ops → IsRaw (document_of ops) → All HasShortParts (document_of ops)
change_short ops is raw = all_short ops ops raw.each is.well_formed.limits is.rising

pub change_again : (ops : List Op) → IsChange ops → IsRaw (document_of ops) → All IsReadSo (document_of ops)
change_again ops is raw = all_again ops ops raw.each is.well_formed.limits
