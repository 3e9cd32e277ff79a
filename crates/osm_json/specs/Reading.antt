-- How a body is read, over the data that `serde_json` reads.
use Rattle.std.specs.Prelude.{◌≡◌, ℕ, ◌+◌, ◌^◌, ◌==◌, nat_lt, nat_le, ℤ, negsuc, unsigned_abs, not, List, [], ◌∷◌, ◌++◌, length, Bool, true, false, ◌&&◌, if◌then◌else◌, Option, Some, None, option_map, unwrap_or, Result, Ok, Err, codes}
use Rattle.std.specs.Str.{is_utf8, bytes_eq, chars}
use Rattle.std.specs.Ordering.{int_eq}
use Rattle.serde_json.specs.Data.{Data, Items, no_items, item, Members, no_members, member}
use Rattle.serde_json.specs.Read.{read}
use Rattle.serde_json.specs.Find.{get, as_bool, as_number, as_str, as_array, as_object, as_i64, as_u64}
use Rattle.osm_base.specs.Key.{kind_eq}
use Rattle.osm_base.specs.declared.limits.TheConstants.{CHARACTER_LIMIT}
use Rattle.osm_base.specs.declared.keys.Kind.{Kind}
use Rattle.osm_base.specs.declared.keys.Kind.TheVariants as kinds
use Rattle.osm_change.specs.declared.raw.Action.{Action}
use Rattle.osm_change.specs.declared.raw.Action.TheVariants.{Create, Modify, Delete}
use Rattle.osm_change.specs.declared.raw.RawOp.{RawOp}
use Rattle.osm_element.specs.declared.contents.Member.{Member as Reference}
use Rattle.osm_element.specs.declared.contents.RawContent.{RawContent}
use Rattle.osm_element.specs.declared.contents.RawContent.TheVariants as contents
use Rattle.osm_json.specs.declared.fault.BodyFault.{BodyFault}
use Rattle.osm_json.specs.declared.fault.BodyFault.TheVariants.{NotJson, Shape}

-- ---- steps that may fail

infixl 10 ◌>>=◌
abbrev pub ◌>>=◌ : {A B : Type 0} → Option A → (A → Option B) → Option B
None >>= f = None
(Some x) >>= f = f x

abbrev pub only_if : {A : Type 0} → Bool → A → Option A
only_if holds x = if holds then Some x else None

-- ---- members of an object

-- the member of that name, read
abbrev pub needed : {A : Type 0} → List ℕ → (Data → Option A) → Data → Option A
needed name reading d = get name d >>= reading

-- a member that is there must read
abbrev pub if_there : {A : Type 0} → (Data → Option A) → Option Data → Option (Option A)
if_there reading None = Some None
if_there reading (Some d) = option_map Some (reading d)

abbrev pub optional : {A : Type 0} → List ℕ → (Data → Option A) → Data → Option (Option A)
optional name reading d = if_there reading (get name d)

-- ---- numbers and texts

-- a whole number that fits 64 bits with a sign
abbrev pub integer_of : Data → Option ℤ
integer_of d = as_number d >>= as_i64

-- not 0, and not the least number of 64 bits
abbrev pub is_id : ℤ → Bool
is_id z = nat_lt 0 (unsigned_abs z) && nat_lt (unsigned_abs z) (2 ^ 63)

abbrev pub id_of : Data → Option ℤ
id_of d = integer_of d >>= λ z. only_if (is_id z) z

-- a version or a changeset
abbrev pub is_count : ℕ → Bool
is_count n = nat_lt 0 n && nat_lt n (2 ^ 63)

abbrev pub count_of : Data → Option ℕ
count_of d = as_number d >>= as_u64 >>= λ n. only_if (is_count n) n

abbrev pub kind_named : List ℕ → Option Kind
kind_named name =
    if bytes_eq name (codes "node") then Some kinds.Node
    else (if bytes_eq name (codes "way") then Some kinds.Way
    else (if bytes_eq name (codes "relation") then Some kinds.Relation else None))

abbrev pub kind_of : Data → Option Kind
kind_of d = as_str d >>= kind_named

-- ---- tags, references and members

abbrev pub pairs_of : Members → Option (List (List ℕ × List ℕ))
pairs_of no_members = Some []
pairs_of (member key d more) = as_str d >>= λ text. pairs_of more >>= λ pairs. Some ((key, text) ∷ pairs)

-- an object of strings
abbrev pub tags_of : Data → Option (List (List ℕ × List ℕ))
tags_of d = as_object d >>= pairs_of

-- each item, read
abbrev pub each_of : {A : Type 0} → (Data → Option A) → Items → Option (List A)
each_of reading no_items = Some []
each_of reading (item d more) = reading d >>= λ x. each_of reading more >>= λ xs. Some (x ∷ xs)

abbrev pub list_of : {A : Type 0} → (Data → Option A) → Data → Option (List A)
list_of reading d = as_array d >>= each_of reading

unfoldable pub reference_of : Data → Option (Reference ℤ)
reference_of d = do
  kind ← needed (codes "type") kind_of d
  id ← needed (codes "ref") id_of d
  role ← optional (codes "role") as_str d
  Some (record { kind = kind; name = id; role = unwrap_or role [] })

-- ---- operations

unfoldable pub content_of : Kind → Data → Option RawContent
content_of kinds.Node d = do
  lat7 ← needed (codes "lat7") integer_of d
  lon7 ← needed (codes "lon7") integer_of d
  Some (contents.Node lat7 lon7)
content_of kinds.Way d = do
  nodes ← needed (codes "nodes") (list_of id_of) d
  Some (contents.Way nodes)
content_of kinds.Relation d = do
  references ← needed (codes "members") (list_of reference_of) d
  Some (contents.Relation references)

-- a creation has no version
abbrev pub version_of : Action → Data → Option (Option ℕ)
version_of Create d = Some None
version_of Modify d = optional (codes "version") count_of d
version_of (Delete if_unused) d = optional (codes "version") count_of d

-- a delete has no tags
abbrev pub given_tags : Action → Data → Option (List (List ℕ × List ℕ))
given_tags Create d = option_map (λ tags. unwrap_or tags []) (optional (codes "tags") tags_of d)
given_tags Modify d = option_map (λ tags. unwrap_or tags []) (optional (codes "tags") tags_of d)
given_tags (Delete if_unused) d = Some []

-- a delete has no content
abbrev pub given_content : Action → Kind → Data → Option (Option RawContent)
given_content Create kind d = option_map Some (content_of kind d)
given_content Modify kind d = option_map Some (content_of kind d)
given_content (Delete if_unused) kind d = Some None

unfoldable pub operation_of : Action → Data → Option RawOp
operation_of action d = do
  kind ← needed (codes "type") kind_of d
  id ← needed (codes "id") id_of d
  version ← version_of action d
  changeset ← optional (codes "changeset") count_of d
  tags ← given_tags action d
  content ← given_content action kind d
  Some (record { action = action; kind = kind; id = id; version = version; changeset = changeset; content = content; tags = tags })

-- ---- the document of an upload

-- what is done to each element of a list
pub record Block : Type 0 where
  pub action : Action
  pub elements : Items

abbrev pub if_unused_of : Data → Option Bool
if_unused_of d = option_map (λ b. unwrap_or b false) (optional (codes "if-unused") as_bool d)

-- exactly one of the three is there
abbrev pub block_among : Option Data → Option Data → Option Data → Data → Option Block
block_among (Some list) None None d = as_array list >>= λ elements. Some (record { action = Create; elements = elements })
block_among None (Some list) None d = as_array list >>= λ elements. Some (record { action = Modify; elements = elements })
block_among None None (Some list) d = do
  elements ← as_array list
  if_unused ← if_unused_of d
  Some (record { action = Delete if_unused; elements = elements })
block_among create modify delete d = None

unfoldable pub block_of : Data → Option Block
block_of d = block_among (get (codes "create") d) (get (codes "modify") d) (get (codes "delete") d) d

unfoldable pub blocks_of : Data → Option (List Block)
blocks_of d = needed (codes "osmChange") (list_of block_of) d

-- an operation that is still to be read
abbrev pub Step : Type 0
Step = Action × Data

abbrev pub steps_among : Action → Items → List Step
steps_among action no_items = []
steps_among action (item d more) = (action, d) ∷ steps_among action more

-- the operations of the blocks, in the order of the document
abbrev pub steps_of : List Block → List Step
steps_of [] = []
steps_of (block ∷ more) = steps_among block.action block.elements ++ steps_of more

abbrev pub read_first : ℕ → Option RawOp → Result (List RawOp) BodyFault → Result (List RawOp) BodyFault
read_first n None more = Err (Shape n)
read_first n (Some op) (Ok ops) = Ok (op ∷ ops)
read_first n (Some op) (Err fault) = Err fault

-- the operations, numbered from n on: the first that does not read is the fault
unfoldable pub operations_from : ℕ → List Step → Result (List RawOp) BodyFault
operations_from n [] = Ok []
operations_from n (step ∷ more) = read_first n (operation_of step.0 step.1) (operations_from (n + 1) more)

abbrev pub operations_in : Option (List Block) → Result (List RawOp) BodyFault
operations_in None = Err (Shape 0)
operations_in (Some blocks) = operations_from 1 (steps_of blocks)

-- ---- bodies

-- the data of a body, where it is a JSON text
abbrev pub data_of : List ℕ → Option Data
data_of body = if is_utf8 body then read body else None

abbrev pub in_json : {A : Type 0} → (Data → Result A BodyFault) → Option Data → Result A BodyFault
in_json reading None = Err NotJson
in_json reading (Some d) = reading d

abbrev pub change_of : List ℕ → Result (List RawOp) BodyFault
change_of body = in_json (λ d. operations_in (blocks_of d)) (data_of body)

-- ---- the bodies of changesets and of single elements

abbrev pub or_shape : {A : Type 0} → ℕ → Option A → Result A BodyFault
or_shape op None = Err (Shape op)
or_shape op (Some x) = Ok x

abbrev pub tags_among : Bool → Data → Option (List (List ℕ × List ℕ))
tags_among true d = needed (codes "tags") tags_of d
tags_among false d = as_object d >>= λ _. option_map (λ tags. unwrap_or tags []) (optional (codes "tags") tags_of d)

-- where the tags are not needed the body may be empty
abbrev pub changeset_tags : Bool → List ℕ → Result (List (List ℕ × List ℕ)) BodyFault
changeset_tags needs body =
    if not needs && length body == 0 then Ok [] else in_json (λ d. or_shape 0 (tags_among needs d)) (data_of body)

-- a value that the path names, and the body may repeat
abbrev pub repeated : {A : Type 0} → (A → A → Bool) → A → Option A → Option A
repeated same named None = Some named
repeated same named (Some said) = only_if (same named said) named

abbrev pub single_id : Action → ℤ → Data → Option ℤ
single_id Create id d = Some (negsuc 0)
single_id Modify id d = optional (codes "id") id_of d >>= repeated int_eq id
single_id (Delete if_unused) id d = optional (codes "id") id_of d >>= repeated int_eq id

unfoldable pub single_of : Action → Kind → ℤ → Data → Option (ℕ × RawOp)
single_of action kind id d = do
  same ← optional (codes "type") kind_of d >>= repeated kind_eq kind
  named ← single_id action id d
  version ← version_of action d
  changeset ← needed (codes "changeset") count_of d
  tags ← given_tags action d
  content ← given_content action kind d
  Some (changeset, record { action = action; kind = kind; id = named; version = version; changeset = Some changeset; content = content; tags = tags })

abbrev pub single_in : Action → Kind → ℤ → List ℕ → Result (ℕ × RawOp) BodyFault
single_in action kind id body = in_json (λ d. or_shape 1 (single_of action kind id d)) (data_of body)

-- ---- the title of a redaction

-- of 1 to 255 characters
abbrev pub is_title : List ℕ → Bool
is_title text = nat_lt 0 (length (chars text)) && nat_le (length (chars text)) CHARACTER_LIMIT

abbrev pub title_of : Data → Option (List ℕ)
title_of d = needed (codes "title") as_str d >>= λ text. only_if (is_title text) text

abbrev pub title_in : List ℕ → Result (List ℕ) BodyFault
title_in body = in_json (λ d. or_shape 0 (title_of d)) (data_of body)

-- ---- what a function gave is what the definition gives, unless memory ran out

abbrev pub IsFault : {A : Type 0} → BodyFault → Result A BodyFault → Type 0
IsFault BodyFault.Memory defined = Unit {0}
IsFault NotJson defined = defined ≡ Err NotJson
IsFault (Shape op) defined = defined ≡ Err (Shape op)

abbrev pub Gives : {A X : Type 0} → (X → A) → Result X BodyFault → Result A BodyFault → Type 0
Gives view (Ok x) defined = defined ≡ Ok (view x)
Gives view (Err fault) defined = IsFault fault defined
