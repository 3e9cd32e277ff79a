-- How an upload is read: what its placeholders name, and why it is refused (OpenStreetMap wiki, API v0.6, "Diff upload").
use Rattle.std.specs.Prelude.{◌≡◌, ◌≢◌, ℕ, ◌+◌, ◌-◌, ◌^◌, ◌<◌, ◌≤◌, Bool, true, false, ◌&&◌, ◌==◌, if◌then◌else◌, List, [], ◌∷◌, ◌++◌, length, position, Option, Some, None, is_some, Result, Ok, Err, MatchOption, All, ⊤, ℤ, pos, negsuc, ◌≤ℤ◌}
use Rattle.std.specs.Ordering.{int_eq}
use Rattle.osm_base.specs.Key.{kind_eq}
use Rattle.osm_base.specs.Place.{is_position}
use Rattle.placeholder_map.specs.Placeholders.{Placeholders, bound}
use Rattle.osm_base.specs.declared.keys.Kind.{Kind}
use Rattle.osm_base.specs.declared.keys.Kind.TheVariants as kind
use Rattle.osm_element.specs.Tags.{Tag}
use Rattle.osm_element.specs.Limits.{check_parts}
use Rattle.osm_element.specs.declared.contents.Content.{Content}
use Rattle.osm_element.specs.declared.contents.Content.TheVariants as content
use Rattle.osm_element.specs.declared.contents.RawContent.{RawContent}
use Rattle.osm_element.specs.declared.contents.RawContent.TheVariants as raw
use Rattle.osm_element.specs.declared.contents.Member.{Member}
use Rattle.osm_element.specs.declared.faults.LocalFault.{LocalFault}
use Rattle.osm_base.specs.Outcome.{◌>>=◌, unless}
use Rattle.osm_change.specs.Outcome.{each, cons_ok, fault_at}
use Rattle.osm_change.specs.declared.causes.Cause.{Cause}
use Rattle.osm_change.specs.declared.causes.Cause.TheVariants.{NotNegative, DoublePlaceholder, UnknownPlaceholder, NoVersion, Local, OtherChangeset}
use Rattle.osm_change.specs.declared.causes.ShapeFault.{ShapeFault}
use Rattle.osm_change.specs.declared.raw.Action.{Action}
use Rattle.osm_change.specs.declared.raw.Action.TheVariants as action
use Rattle.osm_change.specs.declared.raw.RawOp.{RawOp}
use Rattle.osm_change.specs.declared.operations.Name.{Name}
use Rattle.osm_change.specs.declared.operations.Referent.TheVariants.{Old, New}
use Rattle.osm_change.specs.declared.operations.Op.{Op}
use Rattle.osm_change.specs.declared.operations.Op.TheVariants.{Create, Modify, Delete}

-- the place that a placeholder of a kind stands for
abbrev pub Look : Type 0
Look = Kind → ℤ → Option ℕ

abbrev pub is_create : Action → Bool
is_create action.Create = true
is_create action.Modify = false
is_create (action.Delete if_unused) = false

-- the operation creates the element of this kind with this placeholder
abbrev pub creates : Kind → ℤ → RawOp → Bool
creates kind placeholder r = is_create r.action && (kind_eq r.kind kind && int_eq placeholder r.id)

-- the place of the operation that creates it, among those before
abbrev pub created_at : List RawOp → Look
created_at before kind placeholder = position (creates kind placeholder) before

abbrev pub new_name : Option ℕ → Result Name Cause
new_name (Some place) = Ok (New place)
new_name None = Err UnknownPlaceholder

-- a positive id names an element of before the upload, a negative one is a placeholder
abbrev pub name_of : Look → Kind → ℤ → Result Name Cause
name_of look kind (pos id) = Ok (Old id)
name_of look kind (negsuc n) = new_name (look kind (negsuc n))

abbrev pub member_with : Member ℤ → Name → Member Name
member_with m name = record { kind = m.kind; name = name; role = m.role }

abbrev pub member_named : Look → Member ℤ → Result (Member Name) Cause
member_named look m = name_of look m.kind m.name >>= (λ name. Ok (member_with m name))

-- a content with names, the first reference that has none is refused
abbrev pub content_named : Look → RawContent → Result (Content Name) Cause
content_named look (raw.Node lat7 lon7) = Ok (content.Node (record { lat7 = lat7; lon7 = lon7 }))
content_named look (raw.Way nodes) = each (name_of look kind.Node) nodes >>= (λ names. Ok (content.Way names))
content_named look (raw.Relation members) = each (member_named look) members >>= (λ named. Ok (content.Relation named))

abbrev pub local : Result (Unit {0}) LocalFault → Option Cause
local (Ok done) = None
local (Err fault) = Some (Local fault)

-- what of the element's own parts is beyond a limit
abbrev pub local_cause : List Tag → RawContent → Option Cause
local_cause tags content = local (check_parts tags content)

-- a create has a placeholder that no create of its kind before had
abbrev pub free_placeholder : Look → Kind → ℤ → Result ℤ Cause
free_placeholder look kind (pos id) = Err NotNegative
free_placeholder look kind (negsuc n) = if is_some (look kind (negsuc n)) then Err DoublePlaceholder else Ok (negsuc n)

abbrev pub version_named : Option ℕ → Result ℕ Cause
version_named (Some version) = Ok version
version_named None = Err NoVersion

-- a cause that counts where each reference has a name
abbrev pub content_unless : Look → RawContent → Option Cause → Result (Content Name) Cause
content_unless look content later = content_named look content >>= (λ named. unless later (Ok named))

abbrev pub created : Look → RawOp → RawContent → Result Op Cause
created look r content = free_placeholder look r.kind r.id >>= (λ placeholder.
    content_named look content >>= (λ named.
    unless (local_cause r.tags content) (Ok (Create placeholder named r.tags))))

abbrev pub modified : Look → RawOp → RawContent → Result Op Cause
modified look r content = name_of look r.kind r.id >>= (λ name.
    content_named look content >>= (λ named.
    version_named r.version >>= (λ version.
    unless (local_cause r.tags content) (Ok (Modify name version named r.tags)))))

-- a delete's content and tags aren't read
abbrev pub deleted : Look → RawOp → Bool → Result Op Cause
deleted look r if_unused = name_of look r.kind r.id >>= (λ name.
    version_named r.version >>= (λ version. Ok (Delete r.kind name version if_unused)))

-- the operation, or the lowest of its causes. One that isn't a delete has a content
abbrev pub op_by : Look → RawOp → Action → Option RawContent → Result Op Cause
op_by look r action.Create (Some content) = created look r content
op_by look r action.Create None = Err NoVersion
op_by look r action.Modify (Some content) = modified look r content
op_by look r action.Modify None = Err NoVersion
op_by look r (action.Delete if_unused) content = deleted look r if_unused

abbrev pub op_of : Look → RawOp → Result Op Cause
op_of look r = op_by look r r.action r.content

abbrev pub or_fault : {A : Type 0} → ℕ → Result A Cause → Result A ShapeFault
or_fault place (Ok a) = Ok a
or_fault place (Err cause) = Err (fault_at place cause)

-- the operations after others, or the first that has a cause
abbrev pub operations_after : List RawOp → List RawOp → Result (List Op) ShapeFault
operations_after before [] = Ok []
operations_after before (r ∷ rest) = or_fault (length before) (op_of (created_at before) r) >>= (λ o. cons_ok o (operations_after (before ++ r ∷ []) rest))

-- the changeset that an operation names, where it is another one
abbrev pub other_name : ℕ → Option ℕ → Option ℕ
other_name changeset None = None
other_name changeset (Some named) = if named == changeset then None else Some named

abbrev pub other_at : ℕ → Option ℕ → Option ShapeFault → Option ShapeFault
other_at place None later = later
other_at place (Some named) later = Some (fault_at place (OtherChangeset named))

-- the first operation that names another changeset
abbrev pub other_changeset : ℕ → ℕ → List RawOp → Option ShapeFault
other_changeset changeset place [] = None
other_changeset changeset place (r ∷ rest) = other_at place (other_name changeset r.changeset) (other_changeset changeset (place + 1) rest)

-- the operations of an upload to a changeset, or why there are none
abbrev pub change_of : ℕ → List RawOp → Result (List Op) ShapeFault
change_of changeset ops = operations_after [] ops >>= (λ built. unless (other_changeset changeset 0 ops) (Ok built))

-- a node's content has a position on the globe
abbrev pub IsPlaced : RawContent → Type 0
IsPlaced (raw.Node lat7 lon7) = is_position lat7 lon7 ≡ true
IsPlaced (raw.Way nodes) = ⊤
IsPlaced (raw.Relation members) = ⊤

-- the placeholders after an operation
abbrev pub noted : Placeholders → RawOp → ℕ → Placeholders
noted m r place = if is_create r.action then bound m r.kind r.id place else m

-- neither 0 nor the least of 64 bits
pub record IsReference (id : ℤ) : Type 0 where
  pub low : negsuc (2 ^ 63 - 2) ≤ℤ id
  pub high : id ≤ℤ pos (2 ^ 63 - 1)
  pub some : id ≢ pos 0

abbrev pub IsRawContent : Kind → RawContent → Type 0
IsRawContent kind.Node (raw.Node lat7 lon7) = ⊤
IsRawContent kind.Node (raw.Way nodes) = ⊥
IsRawContent kind.Node (raw.Relation members) = ⊥
IsRawContent kind.Way (raw.Node lat7 lon7) = ⊥
IsRawContent kind.Way (raw.Way nodes) = All IsReference nodes
IsRawContent kind.Way (raw.Relation members) = ⊥
IsRawContent kind.Relation (raw.Node lat7 lon7) = ⊥
IsRawContent kind.Relation (raw.Way nodes) = ⊥
IsRawContent kind.Relation (raw.Relation members) = All (λ m. IsReference m.name) members

-- an operation has a content of its kind, unless it deletes
abbrev pub HasContent : Action → Kind → Option RawContent → Type 0
HasContent action.Create kind content = MatchOption content ⊥ (IsRawContent kind)
HasContent action.Modify kind content = MatchOption content ⊥ (IsRawContent kind)
HasContent (action.Delete if_unused) kind content = ⊤

pub record IsRawOp (r : RawOp) : Type 0 where
  pub id : IsReference r.id
  pub version : MatchOption r.version ⊤ (λ version. (1 ≤ version) × (version < 2 ^ 63))
  pub content : HasContent r.action r.kind r.content

-- what the reader of a document ensures
pub record IsRaw (ops : List RawOp) : Type 0 where
  pub few : length ops < 2 ^ 32
  pub each : All IsRawOp ops
