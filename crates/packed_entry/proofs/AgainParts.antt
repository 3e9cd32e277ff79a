-- The parts of an entry are read again.
use Rattle.std.proofs.Common.{◌≡◌, ◌≤ℤ◌, ℕ, suc, eqb, ◌+◌, ◌*◌, ◌/◌, ◌%◌, ◌^◌, ◌<◌, true, false, List, [], ◌∷◌, ◌++◌, length, Some, ℤ, pos, negsuc, refl, sym, ap, ◌∙◌, append-nil, append_assoc, arith}
use Rattle.std.specs.Prelude.{int_le}
use Rattle.std.specs.List.{flat_map}
use Rattle.std.specs.Int.{w32, w64, cast_unsigned, cast_signed}
use mir.Val.{of_z}
use Rattle.std.proofs.lemmas.Bool.{lt-ltb, eq-eqb, ne_eqb, and_from}
use Rattle.std.proofs.lemmas.Int.{ints, to_z-of_z}
use Rattle.osm_base.specs.Key.{kind_rank}
use Rattle.osm_base.specs.Place.{Position, IsPosition, is_position, is_within}
use Rattle.osm_base.specs.declared.keys.Key.{Key}
use Rattle.osm_base.specs.declared.keys.Kind.{Kind}
use Rattle.osm_base.specs.declared.keys.Kind.TheVariants as kinds
use Rattle.osm_base.specs.declared.people.User.{User}
use Rattle.osm_element.specs.Tags.{Tag, byte_count}
use Rattle.osm_element.specs.declared.contents.Content.{Content}
use Rattle.osm_element.specs.declared.contents.Content.TheVariants.{Node, Way, Relation}
use Rattle.osm_element.specs.declared.contents.Member.{Member}
use Rattle.osm_change.specs.Change.{kind_of}
use Rattle.osm_change.specs.Referents.{Fits}
use Rattle.osm_change.specs.declared.operations.Name.{Name}
use Rattle.osm_change.specs.declared.operations.Referent.TheVariants.{Old, New}
use Rattle.osm_change.specs.declared.operations.Op.{Op}
use Rattle.osm_change.specs.declared.operations.Op.TheVariants.{Create, Modify, Delete}
use Rattle.osm_model.specs.declared.commands.Command.{Command}
use Rattle.osm_model.specs.declared.commands.Command.TheVariants.{CreateChangeset, Retag, CloseChangeset, Upload, Single, MakeRedaction, Redact, Unredact}
use Rattle.osm_model.specs.declared.commands.Entry.{Entry}
use Rattle.packed_entry.specs.Kept.{HasChange, ArePacked, entry_in}
use Rattle.packed_entry.specs.Packed.{packed_number, packed_list, packed_tag, packed_tags, packed_name, position_bits, packed_position, packed_member, packed_content, packed_op, packed_key, packed_command, packed_user, packed_entry}
use Rattle.packed_entry.specs.Read.{Parsed, ◌>>=◌, list_at, tag_at, some_tags_at, tags_at, name_at, kind_of_rank, kind_at, position_of, position_at, member_at, content_at, create_at, modify_at, delete_at, op_by, op_at, create_changeset_at, retag_at, close_at, upload_at, single_at, title_at, key_at, redact_at, unredact_at, command_by, command_at, user_at, session_at, entry_at}
use Rattle.packed_entry.specs.Typed.{Fits64, IsTag, AreTags, IsMember, IsContent, IsOp, IsChange, IsCommand, IsUser, IsEntry}
use Rattle.packed_entry.proofs.Again.{wide64, wide_again, number_again, optional_again, flag_again, text_again, each_again, list_again}
use Rattle.packed_entry.proofs.Rising.{rise_told}

-- ---- tags

tag_again : (tag : Tag) (rest : List ℕ) → IsTag tag → tag_at (packed_tag tag ++ rest) ≡ Some (tag, rest)
unfolding packed_tag tag_at
tag_again tag rest is =
    let key = is.key in
    let value = is.value in
    simp append_assoc (rw (text_again, text_again) refl)

pub tags_again : (tags : List Tag) (rest : List ℕ) → AreTags tags → tags_at (packed_tags tags ++ rest) ≡ Some (tags, rest)
unfolding packed_tags tags_at some_tags_at
tags_again [] rest are = rw (append_assoc, append_assoc, number_again 0 _ (omega arith)) refl
tags_again (tag ∷ tags) rest are =
    let some : eqb (suc (length tags)) 0 ≡ false = ne_eqb (suc (length tags)) 0 (λ e. omega (arith, e)) in
    let each = flat_map packed_tag (tag ∷ tags) in
    rw (
      append_assoc (packed_number (length (tag ∷ tags)) ++ packed_number (byte_count (tag ∷ tags))) each rest,
      append_assoc (packed_number (length (tag ∷ tags))) (packed_number (byte_count (tag ∷ tags))) (each ++ rest),
      number_again (length (tag ∷ tags)) (packed_number (byte_count (tag ∷ tags)) ++ (each ++ rest)) are.fit,
      some,
      number_again (byte_count (tag ∷ tags)) (each ++ rest) are.room,
      each_again packed_tag tag_at IsTag tag_again (tag ∷ tags) rest are.each,
      rise_told (tag ∷ tags) are.rise,
    ) refl

-- ---- what operations hold

pub name_again : (name : Name) (rest : List ℕ) → Fits name → name_at (packed_name name ++ rest) ≡ Some (name, rest)
unfolding packed_name name_at
name_again (Old id) rest fits =
    let small : 2 * id < 2 ^ 64 = omega arith in
    let even : (2 * id) % 2 ≡ 0 = omega arith in
    let half : (2 * id) / 2 ≡ id = omega arith in
    rw (number_again (2 * id) rest small, even, half) refl
name_again (New place) rest fits =
    let small : 2 * place + 1 < 2 ^ 64 = omega arith in
    let odd : (2 * place + 1) % 2 ≡ 1 = omega arith in
    let half : (2 * place + 1) / 2 ≡ place = omega arith in
    rw (number_again (2 * place + 1) rest small, odd, half, lt-ltb place (2 ^ 32) fits) refl

tested : (a b : ℤ) → a ≤ℤ b → int_le a b ≡ true
tested a b le = grind (arith, ints)

on_globe : (lat7 lon7 : ℤ) → IsPosition lat7 lon7 → is_position lat7 lon7 ≡ true
on_globe lat7 lon7 is =
    and_from (is_within (negsuc 899999999) lat7 (pos 900000000)) (is_within (negsuc 1799999999) lon7 (pos 1800000000))
    (and_from (int_le (negsuc 899999999) lat7) (int_le lat7 (pos 900000000)) (tested (negsuc 899999999) lat7 is.south) (tested lat7 (pos 900000000) is.north))
    (and_from (int_le (negsuc 1799999999) lon7) (int_le lon7 (pos 1800000000)) (tested (negsuc 1799999999) lon7 is.west) (tested lon7 (pos 1800000000) is.east))

-- a number of 32 bits is told by its bits
record Is32 (z : ℤ) : Type 0 where
  bits : cast_unsigned w32 z < 2 ^ 32
  again : cast_signed w32 (cast_unsigned w32 z) ≡ z

is32 : (z : ℤ) → negsuc 1799999999 ≤ℤ z → z ≤ℤ pos 1800000000 → Is32 z
is32 (pos n) low high = record { bits = omega (arith, ints); again = to_z-of_z w32 (pos n) (record { sfits = omega (arith, ints) }) }
is32 (negsuc n) low high = record { bits = omega (arith, ints); again = to_z-of_z w32 (negsuc n) (record { sfits = omega (arith, ints) }) }

high_half : (a b : ℕ) → b < 2 ^ 32 → (a * 2 ^ 32 + b) / 2 ^ 32 ≡ a
high_half a b small = omega arith

low_half : (a b : ℕ) → b < 2 ^ 32 → (a * 2 ^ 32 + b) % 2 ^ 32 ≡ b
low_half a b small = omega arith

position_again : (at : Position) (rest : List ℕ) → IsPosition at.lat7 at.lon7 → position_at (packed_position at ++ rest) ≡ Some (at, rest)
unfolding packed_position position_at
position_again at rest is =
    let south = is.south in
    let north = is.north in
    let lat = is32 at.lat7 (omega (arith, ints)) (omega (arith, ints)) in
    let lon = is32 at.lon7 is.west is.east in
    let a = cast_unsigned w32 at.lat7 in
    let b = cast_unsigned w32 at.lon7 in
    let small : position_bits at < 2 ^ 64 = omega (arith, lat.bits, lon.bits) in
    ap (λ (o : Parsed ℕ). o >>= λ bits rest. position_of (cast_signed w32 (bits / 2 ^ 32)) (cast_signed w32 (bits % 2 ^ 32)) rest) (wide_again w64 (2 ^ 64) wide64 (position_bits at) rest small)
    ∙ rw (high_half a b lon.bits, low_half a b lon.bits, lat.again, lon.again, on_globe at.lat7 at.lon7 is) refl

kind_again : (kind : Kind) (rest : List ℕ) → kind_at (kind_rank kind ∷ rest) ≡ Some (kind, rest)
unfolding kind_at
kind_again kinds.Node rest = refl
kind_again kinds.Way rest = refl
kind_again kinds.Relation rest = refl

member_again : (m : Member Name) (rest : List ℕ) → IsMember m → member_at (packed_member m ++ rest) ≡ Some (m, rest)
unfolding packed_member member_at
member_again m rest is =
    let name = is.name in
    let role = is.role in
    simp append_assoc (rw (kind_again m.kind, name_again, text_again) refl)

pub content_again : (content : Content Name) (rest : List ℕ) → IsContent content → content_at (kind_of content) (packed_content content ++ rest) ≡ Some (content, rest)
unfolding packed_content content_at
content_again (Node at) rest is = rw (position_again at rest is) refl
content_again (Way nodes) rest is = rw (list_again packed_name name_at Fits name_again nodes rest is) refl
content_again (Relation members) rest is = rw (list_again packed_member member_at IsMember member_again members rest is) refl

-- ---- operations

-- the byte of an action and a kind
record IsCode (code action : ℕ) (kind : Kind) : Type 0 where
  rank : kind_of_rank (code % 3) ≡ Some kind
  act : code / 3 ≡ action

code_0 : (kind : Kind) → IsCode (kind_rank kind) 0 kind
code_0 kinds.Node = record { rank = refl; act = refl }
code_0 kinds.Way = record { rank = refl; act = refl }
code_0 kinds.Relation = record { rank = refl; act = refl }

code_1 : (kind : Kind) → IsCode (3 + kind_rank kind) 1 kind
code_1 kinds.Node = record { rank = refl; act = refl }
code_1 kinds.Way = record { rank = refl; act = refl }
code_1 kinds.Relation = record { rank = refl; act = refl }

code_2 : (kind : Kind) → IsCode (6 + kind_rank kind) 2 kind
code_2 kinds.Node = record { rank = refl; act = refl }
code_2 kinds.Way = record { rank = refl; act = refl }
code_2 kinds.Relation = record { rank = refl; act = refl }

code_3 : (kind : Kind) → IsCode (9 + kind_rank kind) 3 kind
code_3 kinds.Node = record { rank = refl; act = refl }
code_3 kinds.Way = record { rank = refl; act = refl }
code_3 kinds.Relation = record { rank = refl; act = refl }

-- what stands behind the byte is read by the action and the kind
by_code : (code action : ℕ) (kind : Kind) (rest : List ℕ) → IsCode code action kind → op_at (code ∷ rest) ≡ op_by action kind rest
unfolding op_at
by_code code action kind rest is = rw (is.rank, is.act) refl

no_pos : (n : ℕ) → pos n ≤ℤ negsuc 0 → ⊥
no_pos n le = omega (arith, ints)

pub op_again : (o : Op) (rest : List ℕ) → IsOp o → op_at (packed_op o ++ rest) ≡ Some (o, rest)
unfolding packed_op create_at modify_at delete_at
op_again (Create (pos n) content tags) rest is = absurd (no_pos n is.0.negative)
op_again (Create (negsuc n) content tags) rest is =
    let small : n < 2 ^ 63 = let low = is.0.low in omega (arith, ints) in
    let fits : n < 2 ^ 64 = omega arith in
    let typed = is.1 in
    let are = is.2 in
    by_code (kind_rank (kind_of content)) 0 (kind_of content) _ (code_0 (kind_of content))
    ∙ simp append_assoc (rw (number_again, lt-ltb n (2 ^ 63) small, content_again, tags_again) refl)
op_again (Modify name version content tags) rest is =
    let named = is.0 in
    let fits = is.1 in
    let typed = is.2 in
    let are = is.3 in
    by_code (3 + kind_rank (kind_of content)) 1 (kind_of content) _ (code_1 (kind_of content)) ∙ simp append_assoc (rw (name_again, number_again, content_again, tags_again) refl)
op_again (Delete kind name version false) rest is =
    let named = is.0 in
    let fits = is.1 in
    by_code (6 + kind_rank kind) 2 kind _ (code_2 kind) ∙ simp append_assoc (rw (name_again, number_again) refl)
op_again (Delete kind name version true) rest is =
    let named = is.0 in
    let fits = is.1 in
    by_code (9 + kind_rank kind) 3 kind _ (code_3 kind) ∙ simp append_assoc (rw (name_again, number_again) refl)

change_again : (ops : List Op) (rest : List ℕ) → IsChange ops → list_at op_at (packed_list packed_op ops ++ rest) ≡ Some (ops, rest)
change_again ops rest is = list_again packed_op op_at IsOp op_again ops rest is.all

-- ---- commands

key_again : (key : Key) (rest : List ℕ) → Fits64 key.id → key_at (packed_key key ++ rest) ≡ Some (key, rest)
unfolding packed_key key_at
key_again key rest fits = rw (kind_again key.kind (packed_number key.id ++ rest), number_again key.id rest fits) refl

command_again : (c : Command) (rest : List ℕ) → IsCommand c → command_at (packed_command c ++ rest) ≡ Some (c, rest)
unfolding packed_command command_at command_by create_changeset_at retag_at close_at upload_at single_at title_at redact_at unredact_at
command_again (CreateChangeset tags large_from) rest is =
    let fits = is.0 in
    let are = is.1 in
    simp append_assoc (rw (optional_again, tags_again) refl)
command_again (Retag id tags) rest is =
    let fits = is.0 in
    let are = is.1 in
    simp append_assoc (rw (number_again, tags_again) refl)
command_again (CloseChangeset id) rest is = rw (number_again id rest is) refl
command_again (Upload id ops) rest is =
    let fits = is.0 in
    let typed = is.1 in
    simp append_assoc (rw (number_again, change_again) refl)
command_again (Single id ops) rest is =
    let fits = is.0 in
    let typed = is.1 in
    simp append_assoc (rw (number_again, change_again, eq-eqb (length ops) 1 is.2) refl)
command_again (MakeRedaction title) rest is = rw (text_again title rest is) refl
command_again (Redact key version redaction) rest is =
    let id = is.0 in
    let fits = is.1 in
    let also = is.2 in
    simp append_assoc (rw (key_again, number_again, number_again) refl)
command_again (Unredact key version) rest is =
    let id = is.0 in
    let fits = is.1 in
    simp append_assoc (rw (key_again, number_again) refl)

-- ---- an entry

user_again : (u : User) (rest : List ℕ) → IsUser u → user_at (packed_user u ++ rest) ≡ Some (u, rest)
unfolding packed_user user_at
user_again u rest is =
    let id = is.id in
    let name = is.name in
    let limit = is.limit in
    simp append_assoc (rw (number_again, text_again, flag_again, optional_again) refl)

session_again : (n : ℕ) (rest : List ℕ) → n < 2 ^ 32 → session_at (packed_number n ++ rest) ≡ Some (n, rest)
unfolding session_at
session_again n rest small = rw (number_again n rest (omega arith), lt-ltb n (2 ^ 32) small) refl

pub entry_again : (e : Entry) (rest : List ℕ) → IsEntry e → entry_at (packed_entry e ++ rest) ≡ Some (e, rest)
unfolding packed_entry entry_at
entry_again e rest is =
    let session = is.session in
    let call = is.call in
    let stamp = is.stamp in
    let user = is.user in
    let command = is.command in
    simp append_assoc (rw (session_again, number_again, number_again, user_again, command_again) refl)

-- ---- what is kept

reads_change : (c : Command) → IsCommand c → HasChange c
reads_change (CreateChangeset tags large_from) is = tt
reads_change (Retag id tags) is = tt
reads_change (CloseChangeset id) is = tt
reads_change (Upload id ops) is = is.1.well_formed
reads_change (Single id ops) is = is.1.well_formed
reads_change (MakeRedaction title) is = tt
reads_change (Redact key version redaction) is = tt
reads_change (Unredact key version) is = tt

-- bytes of an entry are packed, and stand for it
pub record StandsFor (bytes : List ℕ) (e : Entry) : Type 0 where
  pub packed : ArePacked bytes
  pub entry : entry_in bytes ≡ e

pub stands_for : (bytes : List ℕ) (e : Entry) → bytes ≡ packed_entry e → IsEntry e → StandsFor bytes e
unfolding ArePacked entry_in
stands_for bytes e are is =
    let read : entry_at bytes ≡ Some (e, []) = ap entry_at (are ∙ sym (append-nil (packed_entry e))) ∙ entry_again e [] is in
    record { packed = rw read (reads_change e.command is.command); entry = rw read refl }
