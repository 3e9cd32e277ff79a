-- What is read of the bytes of an entry, from left to right.
use Rattle.std.specs.Prelude.{◌≡◌, ℕ, zero, suc, ◌/◌, ◌%◌, ◌^◌, nat_lt, ◌==◌, Bool, true, false, ◌&&◌, if◌then◌else◌, List, [], ◌∷◌, length, take, drop, Option, Some, None, Result, Ok, Err, ⊤, ℤ, negsuc}
use Rattle.std.specs.Int.{Width, w16, w32, w64, byte_len, from_be_bytes, cast_signed}
use Rattle.std.specs.Ordering.{is_lt, nat_cmp}
use Rattle.std.specs.Cmp.Lexicographic.{slice_cmp}
use Rattle.std.specs.Str.{is_utf8}
use Rattle.osm_base.specs.Place.{Position, is_position}
use Rattle.osm_base.specs.declared.keys.Key.{Key}
use Rattle.osm_base.specs.declared.keys.Kind.{Kind}
use Rattle.osm_base.specs.declared.keys.Kind.TheVariants as kinds
use Rattle.osm_base.specs.declared.people.User.{User}
use Rattle.osm_element.specs.Tags.{Tag}
use Rattle.osm_element.specs.declared.contents.Content.{Content}
use Rattle.osm_element.specs.declared.contents.Content.TheVariants.{Node, Way, Relation}
use Rattle.osm_element.specs.declared.contents.Member.{Member}
use Rattle.osm_change.specs.declared.operations.Name.{Name}
use Rattle.osm_change.specs.declared.operations.Referent.TheVariants.{Old, New}
use Rattle.osm_change.specs.declared.operations.Op.{Op}
use Rattle.osm_change.specs.declared.operations.Op.TheVariants.{Create, Modify, Delete}
use Rattle.osm_model.specs.declared.commands.Command.{Command}
use Rattle.osm_model.specs.declared.commands.Command.TheVariants.{CreateChangeset, Retag, CloseChangeset, Upload, Single, MakeRedaction, Redact, Unredact}
use Rattle.osm_model.specs.declared.commands.Entry.{Entry}
use Rattle.packed_entry.specs.declared.faults.Fault.{Fault}
use Rattle.packed_entry.specs.declared.faults.Fault.TheVariants.{Memory, Malformed}

-- what was read, and the bytes behind it
abbrev pub Parsed : Type 0 → Type 0
Parsed A = Option (A × List ℕ)

infixl 10 ◌>>=◌
abbrev pub ◌>>=◌ : {A B : Type 0} → Parsed A → (A → List ℕ → Parsed B) → Parsed B
None >>= f = None
(Some p) >>= f = f p.0 p.1

-- nothing is read, or memory ran out
abbrev pub Fails : {A : Type 0} → Fault → Parsed A → Type 0
Fails Memory read = ⊤
Fails Malformed read = read ≡ None

-- what a function gave is what is read, and the new bytes are those behind it, unless memory ran out
abbrev pub Gives : {X A : Type 0} → (X → A) → Result X Fault → Parsed A → List ℕ → Type 0
Gives view (Ok x) read new = read ≡ Some (view x, new)
Gives view (Err fault) read new = Fails fault read

-- the same of a function that gives the bytes behind it too
abbrev pub Splits : {X A : Type 0} → (X → A × List ℕ) → Result X Fault → Parsed A → Type 0
Splits view (Ok x) read = read ≡ Some (view x)
Splits view (Err fault) read = Fails fault read

-- ---- numbers and texts

abbrev pub byte_at : List ℕ → Parsed ℕ
byte_at [] = None
byte_at (b ∷ rest) = Some (b, rest)

abbrev pub wide_at : Width → List ℕ → Parsed ℕ
wide_at w bytes =
    if nat_lt (length bytes) (byte_len w) then None
    else Some (from_be_bytes w (take (byte_len w) bytes), drop (byte_len w) bytes)

-- by the byte before it
abbrev pub number_by : ℕ → List ℕ → Parsed ℕ
number_by b rest =
    if nat_lt b 248 then Some (b, rest)
    else (if b == 248 then wide_at w16 rest
    else (if b == 249 then wide_at w32 rest
    else (if b == 250 then wide_at w64 rest
    else None)))

unfoldable pub number_at : List ℕ → Parsed ℕ
number_at bytes = byte_at bytes >>= λ b rest. number_by b rest

abbrev pub optional_by : ℕ → List ℕ → Parsed (Option ℕ)
optional_by b rest =
    if b == 0 then Some (None, rest)
    else (if b == 1 then (number_at rest >>= λ n rest. Some (Some n, rest))
    else None)

unfoldable pub optional_at : List ℕ → Parsed (Option ℕ)
optional_at bytes = byte_at bytes >>= λ b rest. optional_by b rest

unfoldable pub flag_at : List ℕ → Parsed Bool
flag_at bytes = byte_at bytes >>= λ b rest. (if b == 0 then Some (false, rest) else (if b == 1 then Some (true, rest) else None))

-- so many bytes, where they are a text
abbrev pub text_of : ℕ → List ℕ → Parsed (List ℕ)
text_of n bytes =
    if nat_lt (length bytes) n then None
    else (if is_utf8 (take n bytes) then Some (take n bytes, drop n bytes)
    else None)

unfoldable pub text_at : List ℕ → Parsed (List ℕ)
text_at bytes = number_at bytes >>= λ n rest. text_of n rest

-- so many items
unfoldable pub each_at : {X : Type 0} → (List ℕ → Parsed X) → ℕ → List ℕ → Parsed (List X)
each_at one zero bytes = Some ([], bytes)
each_at one (suc n) bytes = one bytes >>= λ x rest. each_at one n rest >>= λ xs rest. Some (x ∷ xs, rest)

unfoldable pub list_at : {X : Type 0} → (List ℕ → Parsed X) → List ℕ → Parsed (List X)
list_at one bytes = number_at bytes >>= λ n rest. each_at one n rest

-- ---- tags

unfoldable pub tag_at : List ℕ → Parsed Tag
tag_at bytes = text_at bytes >>= λ key rest. text_at rest >>= λ value rest. Some ((key, value), rest)

-- the key is less than those of the tags
abbrev pub is_key_below : List ℕ → List Tag → Bool
is_key_below key [] = true
is_key_below key (tag ∷ tags) = is_lt (slice_cmp nat_cmp key tag.0) && is_key_below key tags

-- each key is less than those behind it
unfoldable pub do_keys_rise : List Tag → Bool
do_keys_rise [] = true
do_keys_rise (tag ∷ tags) = is_key_below tag.0 tags && do_keys_rise tags

abbrev pub rising : List Tag → List ℕ → Parsed (List Tag)
rising tags rest = if do_keys_rise tags then Some (tags, rest) else None

unfoldable pub some_tags_at : ℕ → List ℕ → Parsed (List Tag)
some_tags_at n bytes = number_at bytes >>= λ room rest. each_at tag_at n rest >>= λ tags rest. rising tags rest

unfoldable pub tags_at : List ℕ → Parsed (List Tag)
tags_at bytes = number_at bytes >>= λ n rest. (if n == 0 then Some ([], rest) else some_tags_at n rest)

-- ---- what operations hold

abbrev pub name_of : ℕ → List ℕ → Parsed Name
name_of n rest =
    if n % 2 == 0 then Some (Old (n / 2), rest)
    else (if nat_lt (n / 2) (2 ^ 32) then Some (New (n / 2), rest)
    else None)

unfoldable pub name_at : List ℕ → Parsed Name
name_at bytes = number_at bytes >>= λ n rest. name_of n rest

abbrev pub kind_of_rank : ℕ → Option Kind
kind_of_rank n =
    if n == 0 then Some kinds.Node
    else (if n == 1 then Some kinds.Way
    else (if n == 2 then Some kinds.Relation
    else None))

abbrev pub kind_and : Option Kind → List ℕ → Parsed Kind
kind_and None rest = None
kind_and (Some kind) rest = Some (kind, rest)

unfoldable pub kind_at : List ℕ → Parsed Kind
kind_at bytes = byte_at bytes >>= λ b rest. kind_and (kind_of_rank b) rest

abbrev pub position_of : ℤ → ℤ → List ℕ → Parsed Position
position_of lat7 lon7 rest = if is_position lat7 lon7 then Some (record { lat7 = lat7; lon7 = lon7 }, rest) else None

unfoldable pub position_at : List ℕ → Parsed Position
position_at bytes = wide_at w64 bytes >>= λ bits rest. position_of (cast_signed w32 (bits / 2 ^ 32)) (cast_signed w32 (bits % 2 ^ 32)) rest

unfoldable pub member_at : List ℕ → Parsed (Member Name)
member_at bytes = kind_at bytes >>= λ kind rest. name_at rest >>= λ name rest. text_at rest >>= λ role rest. Some (record { kind = kind; name = name; role = role }, rest)

-- a content of a kind
unfoldable pub content_at : Kind → List ℕ → Parsed (Content Name)
content_at kinds.Node bytes = position_at bytes >>= λ at rest. Some (Node at, rest)
content_at kinds.Way bytes = list_at name_at bytes >>= λ nodes rest. Some (Way nodes, rest)
content_at kinds.Relation bytes = list_at member_at bytes >>= λ members rest. Some (Relation members, rest)

-- ---- operations

unfoldable pub create_at : Kind → List ℕ → Parsed Op
create_at kind bytes =
    number_at bytes >>= λ depth rest.
    (if nat_lt depth (2 ^ 63) then (content_at kind rest >>= λ content rest. tags_at rest >>= λ tags rest. Some (Create (negsuc depth) content tags, rest))
    else None)

unfoldable pub modify_at : Kind → List ℕ → Parsed Op
modify_at kind bytes =
    name_at bytes >>= λ name rest.
    number_at rest >>= λ version rest.
    content_at kind rest >>= λ content rest.
    tags_at rest >>= λ tags rest.
    Some (Modify name version content tags, rest)

unfoldable pub delete_at : Kind → Bool → List ℕ → Parsed Op
delete_at kind if_unused bytes = name_at bytes >>= λ name rest. number_at rest >>= λ version rest. Some (Delete kind name version if_unused, rest)

-- a number of an action, and a kind
abbrev pub op_by : ℕ → Kind → List ℕ → Parsed Op
op_by action kind rest =
    if action == 0 then create_at kind rest
    else (if action == 1 then modify_at kind rest
    else (if action == 2 then delete_at kind false rest
    else (if action == 3 then delete_at kind true rest
    else None)))

unfoldable pub op_at : List ℕ → Parsed Op
op_at bytes = byte_at bytes >>= λ code rest. kind_and (kind_of_rank (code % 3)) rest >>= λ kind rest. op_by (code / 3) kind rest

-- ---- commands

unfoldable pub create_changeset_at : List ℕ → Parsed Command
create_changeset_at bytes = optional_at bytes >>= λ large_from rest. tags_at rest >>= λ tags rest. Some (CreateChangeset tags large_from, rest)

unfoldable pub retag_at : List ℕ → Parsed Command
retag_at bytes = number_at bytes >>= λ id rest. tags_at rest >>= λ tags rest. Some (Retag id tags, rest)

unfoldable pub close_at : List ℕ → Parsed Command
close_at bytes = number_at bytes >>= λ id rest. Some (CloseChangeset id, rest)

unfoldable pub upload_at : List ℕ → Parsed Command
upload_at bytes = number_at bytes >>= λ id rest. list_at op_at rest >>= λ ops rest. Some (Upload id ops, rest)

abbrev pub one_of : ℕ → List Op → List ℕ → Parsed Command
one_of id ops rest = if length ops == 1 then Some (Single id ops, rest) else None

unfoldable pub single_at : List ℕ → Parsed Command
single_at bytes = number_at bytes >>= λ id rest. list_at op_at rest >>= λ ops rest. one_of id ops rest

unfoldable pub title_at : List ℕ → Parsed Command
title_at bytes = text_at bytes >>= λ title rest. Some (MakeRedaction title, rest)

unfoldable pub key_at : List ℕ → Parsed Key
key_at bytes = kind_at bytes >>= λ kind rest. number_at rest >>= λ id rest. Some (record { kind = kind; id = id }, rest)

unfoldable pub redact_at : List ℕ → Parsed Command
redact_at bytes = key_at bytes >>= λ key rest. number_at rest >>= λ version rest. number_at rest >>= λ redaction rest. Some (Redact key version redaction, rest)

unfoldable pub unredact_at : List ℕ → Parsed Command
unredact_at bytes = key_at bytes >>= λ key rest. number_at rest >>= λ version rest. Some (Unredact key version, rest)

unfoldable pub command_by : ℕ → List ℕ → Parsed Command
command_by code rest =
    if code == 0 then create_changeset_at rest
    else (if code == 1 then retag_at rest
    else (if code == 2 then close_at rest
    else (if code == 3 then upload_at rest
    else (if code == 4 then single_at rest
    else (if code == 5 then title_at rest
    else (if code == 6 then redact_at rest
    else (if code == 7 then unredact_at rest
    else None)))))))

unfoldable pub command_at : List ℕ → Parsed Command
command_at bytes = byte_at bytes >>= λ code rest. command_by code rest

-- ---- an entry

unfoldable pub user_at : List ℕ → Parsed User
user_at bytes =
    number_at bytes >>= λ id rest.
    text_at rest >>= λ name rest.
    flag_at rest >>= λ moderator rest.
    optional_at rest >>= λ limit rest.
    Some (record { id = id; name = name; moderator = moderator; limit = limit }, rest)

abbrev pub session_of : ℕ → List ℕ → Parsed ℕ
session_of n rest = if nat_lt n (2 ^ 32) then Some (n, rest) else None

unfoldable pub session_at : List ℕ → Parsed ℕ
session_at bytes = number_at bytes >>= λ n rest. session_of n rest

unfoldable pub entry_at : List ℕ → Parsed Entry
entry_at bytes =
    session_at bytes >>= λ session rest.
    number_at rest >>= λ call rest.
    number_at rest >>= λ stamp rest.
    user_at rest >>= λ user rest.
    command_at rest >>= λ command rest.
    Some (record { session = session; call = call; user = user; stamp = stamp; command = command }, rest)
