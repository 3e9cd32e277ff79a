-- The limits of an element's own parts. A character is one Unicode scalar value.
use Rattle.std.specs.Prelude.{ℕ, ℤ, Bool, ◌||◌, ◌==◌, nat_lt, List, length, Result, Ok, Err, if◌then◌else◌}
use Rattle.std.specs.List.{list_any}
use Rattle.std.specs.Str.{chars}
use Rattle.osm_base.specs.Outcome.{◌>>=◌}
use Rattle.osm_base.specs.Place.{is_position}
use Rattle.osm_base.specs.declared.limits.TheConstants.{CHARACTER_LIMIT, WAY_LIMIT, RELATION_LIMIT}
use Rattle.osm_element.specs.Tags.{Tag}
use Rattle.osm_element.specs.declared.contents.Content.{Content}
use Rattle.osm_element.specs.declared.contents.Content.TheVariants as content
use Rattle.osm_element.specs.declared.contents.Member.{Member}
use Rattle.osm_element.specs.declared.contents.RawContent.{RawContent}
use Rattle.osm_element.specs.declared.contents.RawContent.TheVariants.{Node, Way, Relation}
use Rattle.osm_element.specs.declared.faults.LocalFault.{LocalFault}
use Rattle.osm_element.specs.declared.faults.LocalFault.TheVariants.{TagKey, TagValue, WayEmpty, WayLong, RelationLong, Role, Position}

-- more than 255 characters
abbrev pub is_long : List ℕ → Bool
is_long text = nat_lt CHARACTER_LIMIT (length (chars text))

-- none, or more than 255 characters
abbrev pub is_bad_key : List ℕ → Bool
is_bad_key text = (length text == 0) || is_long text

-- the lowest cause for which tags are refused
abbrev pub check_tags : List Tag → Result (Unit {0}) LocalFault
check_tags tags =
    if list_any (λ tag. is_bad_key tag.0) tags then Err TagKey
    else if list_any (λ tag. is_long tag.1) tags then Err TagValue
    else Ok tt

abbrev pub check_position : ℤ → ℤ → Result (Unit {0}) LocalFault
check_position lat7 lon7 = if is_position lat7 lon7 then Ok tt else Err Position

abbrev pub check_nodes : {N : Type 0} → List N → Result (Unit {0}) LocalFault
check_nodes nodes =
    if length nodes == 0 then Err WayEmpty
    else if nat_lt WAY_LIMIT (length nodes) then Err WayLong
    else Ok tt

abbrev pub check_members : {N : Type 0} → List (Member N) → Result (Unit {0}) LocalFault
check_members members =
    if nat_lt RELATION_LIMIT (length members) then Err RelationLong
    else if list_any (λ member. is_long member.role) members then Err Role
    else Ok tt

-- the lowest cause for which a content is refused
abbrev pub check_content : RawContent → Result (Unit {0}) LocalFault
check_content (Node lat7 lon7) = check_position lat7 lon7
check_content (Way nodes) = check_nodes nodes
check_content (Relation members) = check_members members

-- the lowest cause for which an element's own parts are refused
abbrev pub check_parts : List Tag → RawContent → Result (Unit {0}) LocalFault
check_parts tags content = check_tags tags >>= (λ done. check_content content)

abbrev pub check_named_content : {N : Type 0} → Content N → Result (Unit {0}) LocalFault
check_named_content (content.Node at) = check_position at.lat7 at.lon7
check_named_content (content.Way nodes) = check_nodes nodes
check_named_content (content.Relation members) = check_members members

-- the same of a content as an element holds it, whatever the names of its references are
abbrev pub check_named : {N : Type 0} → List Tag → Content N → Result (Unit {0}) LocalFault
check_named tags content = check_tags tags >>= (λ done. check_named_content content)
