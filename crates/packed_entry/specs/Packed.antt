-- An entry in bytes: its fields one behind the other, each number in as few bytes as it needs.
use Rattle.std.specs.Prelude.{ℕ, ◌+◌, ◌*◌, ◌^◌, nat_lt, Bool, true, false, if◌then◌else◌, List, [], ◌∷◌, ◌++◌, length, Option, Some, None, ℤ, pos, negsuc}
use Rattle.std.specs.List.{flat_map}
use Rattle.std.specs.Int.{w16, w32, w64, to_be_bytes, cast_unsigned}
use Rattle.osm_base.specs.Key.{kind_rank}
use Rattle.osm_base.specs.Place.{Position}
use Rattle.osm_base.specs.declared.keys.Key.{Key}
use Rattle.osm_base.specs.declared.people.User.{User}
use Rattle.osm_element.specs.Tags.{Tag, byte_count}
use Rattle.osm_element.specs.declared.contents.Content.{Content}
use Rattle.osm_element.specs.declared.contents.Content.TheVariants.{Node, Way, Relation}
use Rattle.osm_element.specs.declared.contents.Member.{Member}
use Rattle.osm_change.specs.Change.{kind_of}
use Rattle.osm_change.specs.declared.operations.Name.{Name}
use Rattle.osm_change.specs.declared.operations.Referent.TheVariants.{Old, New}
use Rattle.osm_change.specs.declared.operations.Op.{Op}
use Rattle.osm_change.specs.declared.operations.Op.TheVariants.{Create, Modify, Delete}
use Rattle.osm_model.specs.declared.commands.Command.{Command}
use Rattle.osm_model.specs.declared.commands.Command.TheVariants.{CreateChangeset, Retag, CloseChangeset, Upload, Single, MakeRedaction, Redact, Unredact}
use Rattle.osm_model.specs.declared.commands.Entry.{Entry}

-- a number below 248 is its byte. Else a byte tells how many bytes of the number come behind it
unfoldable pub packed_number : ℕ → List ℕ
packed_number n =
    if nat_lt n 248 then n ∷ []
    else (if nat_lt n (2 ^ 16) then 248 ∷ to_be_bytes w16 n
    else (if nat_lt n (2 ^ 32) then 249 ∷ to_be_bytes w32 n
    else 250 ∷ to_be_bytes w64 n))

-- 0, or 1 and the number
unfoldable pub packed_optional : Option ℕ → List ℕ
packed_optional None = 0 ∷ []
packed_optional (Some n) = 1 ∷ packed_number n

unfoldable pub packed_flag : Bool → List ℕ
packed_flag false = 0 ∷ []
packed_flag true = 1 ∷ []

-- how many bytes, and these
unfoldable pub packed_text : List ℕ → List ℕ
packed_text text = packed_number (length text) ++ text

-- how many items, and each of them
unfoldable pub packed_list : {X : Type 0} → (X → List ℕ) → List X → List ℕ
packed_list packed xs = packed_number (length xs) ++ flat_map packed xs

unfoldable pub packed_tag : Tag → List ℕ
packed_tag tag = packed_text tag.0 ++ packed_text tag.1

-- how many bytes all texts of some tags have stands before them, so that their room is taken at once
abbrev pub packed_room : List Tag → List ℕ
packed_room [] = []
packed_room (tag ∷ tags) = packed_number (byte_count (tag ∷ tags))

unfoldable pub packed_tags : List Tag → List ℕ
packed_tags tags = packed_number (length tags) ++ packed_room tags ++ flat_map packed_tag tags

-- twice the id, or twice the place and one
abbrev pub number_of_name : Name → ℕ
number_of_name (Old id) = 2 * id
number_of_name (New place) = 2 * place + 1

unfoldable pub packed_name : Name → List ℕ
packed_name name = packed_number (number_of_name name)

-- both numbers in 64 bits, in two's complement
abbrev pub position_bits : Position → ℕ
position_bits at = cast_unsigned w32 at.lat7 * 2 ^ 32 + cast_unsigned w32 at.lon7

unfoldable pub packed_position : Position → List ℕ
packed_position at = to_be_bytes w64 (position_bits at)

unfoldable pub packed_member : Member Name → List ℕ
packed_member m = kind_rank m.kind ∷ [] ++ packed_name m.name ++ packed_text m.role

-- its kind stands elsewhere
unfoldable pub packed_content : Content Name → List ℕ
packed_content (Node at) = packed_position at
packed_content (Way nodes) = packed_list packed_name nodes
packed_content (Relation members) = packed_list packed_member members

-- how far below -1
abbrev pub depth_of : ℤ → ℕ
depth_of (pos n) = 0
depth_of (negsuc n) = n

-- an action and a kind in one byte
abbrev pub op_code : Op → ℕ
op_code (Create placeholder content tags) = kind_rank (kind_of content)
op_code (Modify name version content tags) = 3 + kind_rank (kind_of content)
op_code (Delete kind name version false) = 6 + kind_rank kind
op_code (Delete kind name version true) = 9 + kind_rank kind

abbrev pub packed_parts : Op → List ℕ
packed_parts (Create placeholder content tags) = packed_number (depth_of placeholder) ++ packed_content content ++ packed_tags tags
packed_parts (Modify name version content tags) = packed_name name ++ packed_number version ++ packed_content content ++ packed_tags tags
packed_parts (Delete kind name version if_unused) = packed_name name ++ packed_number version

unfoldable pub packed_op : Op → List ℕ
packed_op o = op_code o ∷ [] ++ packed_parts o

-- ---- commands

unfoldable pub packed_key : Key → List ℕ
packed_key key = kind_rank key.kind ∷ [] ++ packed_number key.id

abbrev pub command_code : Command → ℕ
command_code (CreateChangeset tags large_from) = 0
command_code (Retag id tags) = 1
command_code (CloseChangeset id) = 2
command_code (Upload id ops) = 3
command_code (Single id ops) = 4
command_code (MakeRedaction title) = 5
command_code (Redact key version redaction) = 6
command_code (Unredact key version) = 7

abbrev pub packed_fields : Command → List ℕ
packed_fields (CreateChangeset tags large_from) = packed_optional large_from ++ packed_tags tags
packed_fields (Retag id tags) = packed_number id ++ packed_tags tags
packed_fields (CloseChangeset id) = packed_number id
packed_fields (Upload id ops) = packed_number id ++ packed_list packed_op ops
packed_fields (Single id ops) = packed_number id ++ packed_list packed_op ops
packed_fields (MakeRedaction title) = packed_text title
packed_fields (Redact key version redaction) = packed_key key ++ packed_number version ++ packed_number redaction
packed_fields (Unredact key version) = packed_key key ++ packed_number version

unfoldable pub packed_command : Command → List ℕ
packed_command c = command_code c ∷ [] ++ packed_fields c

-- ---- an entry

unfoldable pub packed_user : User → List ℕ
packed_user u = packed_number u.id ++ packed_text u.name ++ packed_flag u.moderator ++ packed_optional u.limit

unfoldable pub packed_entry : Entry → List ℕ
packed_entry e = packed_number e.session ++ packed_number e.call ++ packed_number e.stamp ++ packed_user e.user ++ packed_command e.command
