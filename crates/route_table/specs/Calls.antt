-- Which call a method and a target ask for (OpenStreetMap wiki, API v0.6).
use Rattle.std.specs.Prelude.{◌≡◌, ℕ, ◌^◌, ◌<◌, ◌≤◌, Bool, true, false, Some, List, codes, Option, Result, Ok, Err, ⊤}
use Rattle.std.specs.Option.{option_map_or}
use Rattle.matchit.specs.Router.{RouteOf}
use Rattle.osm_base.specs.Number.{number_of}
use Rattle.osm_base.specs.Outcome.{◌>>=◌}
use Rattle.osm_base.specs.declared.keys.Key.{Key}
use Rattle.osm_base.specs.declared.keys.Kind.{Kind}
use Rattle.osm_base.specs.declared.keys.Kind.TheVariants.{Node, Way, Relation}
use Rattle.route_table.specs.Targets.{path_of, query_of}
use Rattle.route_table.specs.Methods.{method_of}
use Rattle.route_table.specs.Paths.{route_at}
use Rattle.route_table.specs.Details.{Details, details_of}
use Rattle.route_table.specs.Parameters.{optional, needed, flag, area_in, ids_in}
use Rattle.route_table.specs.declared.methods.Method.{Method}
use Rattle.route_table.specs.declared.methods.Method.TheVariants.{Get, Put, Post, Delete}
use Rattle.route_table.specs.declared.resources.Resource.{Resource}
use Rattle.route_table.specs.declared.resources.Resource.TheVariants.{NewChangeset, Changeset, ChangesetClosing, ChangesetUpload, ChangesetDownload, Changesets, Map, Redactions, NewElement, Element, History, Version, VersionRedaction, Relations, NodeWays, Full, Elements, FeedState, FeedPiece}
use Rattle.route_table.specs.declared.calls.Call.{Call}
use Rattle.route_table.specs.declared.calls.Call.TheVariants as call
use Rattle.route_table.specs.declared.faults.RouteFault.{RouteFault}
use Rattle.route_table.specs.declared.faults.RouteFault.TheVariants as fault

abbrev pub or_fault : {A : Type 0} → Option A → RouteFault → Result A RouteFault
or_fault found cause = option_map_or Ok found (Err cause)

-- ---- the numbers of a path

abbrev pub id_in : Details → Result ℕ RouteFault
id_in d = or_fault (number_of d.id) fault.BadNumber

abbrev pub version_in : Details → Result ℕ RouteFault
version_in d = or_fault (number_of d.version) fault.BadNumber

abbrev pub key_in : Kind → Details → Result Key RouteFault
key_in kind d = id_in d >>= λ id. Ok (record { kind = kind; id = id })

-- ---- the calls that have parameters, which are read in their order

abbrev pub changesets : Details → Result Call RouteFault
changesets d = do
  user ← optional number_of (codes "user") d.query
  only_open ← flag (codes "open") d.query
  only_closed ← flag (codes "closed") d.query
  within ← optional area_in (codes "bbox") d.query
  Ok (call.Changesets user only_open only_closed within)

abbrev pub map_call : Details → Result Call RouteFault
map_call d = do
  within ← needed area_in (codes "bbox") d.query
  at ← optional number_of (codes "at") d.query
  Ok (call.Map within at)

abbrev pub one : Kind → Details → Result Call RouteFault
one kind d = do
  key ← key_in kind d
  at ← optional number_of (codes "at") d.query
  Ok (call.One key at)

abbrev pub full : Kind → Details → Result Call RouteFault
full kind d = do
  key ← key_in kind d
  at ← optional number_of (codes "at") d.query
  Ok (call.Full key at)

abbrev pub history : Kind → Details → Result Call RouteFault
history kind d = do
  key ← key_in kind d
  show ← flag (codes "show_redactions") d.query
  Ok (call.History key show)

abbrev pub numbered : Kind → Details → Result Call RouteFault
numbered kind d = do
  key ← key_in kind d
  version ← version_in d
  show ← flag (codes "show_redactions") d.query
  Ok (call.Numbered key version show)

abbrev pub redact : Kind → Details → Result Call RouteFault
redact kind d = do
  key ← key_in kind d
  version ← version_in d
  redaction ← optional number_of (codes "redaction") d.query
  Ok (call.Redact key version redaction)

abbrev pub list_name : Kind → List ℕ
list_name Node = codes "nodes"
list_name Way = codes "ways"
list_name Relation = codes "relations"

abbrev pub many : Kind → Details → Result Call RouteFault
many kind d = needed ids_in (list_name kind) d.query >>= λ ids. Ok (call.Many kind ids)

-- ---- the routes

-- each resource with the methods that it has
unfoldable pub call_at : Resource → Method → Details → Result Call RouteFault
call_at NewChangeset Put d = Ok call.CreateChangeset
call_at Changeset Get d = id_in d >>= λ id. Ok (call.Changeset id)
call_at Changeset Put d = id_in d >>= λ id. Ok (call.Retag id)
call_at ChangesetClosing Put d = id_in d >>= λ id. Ok (call.CloseChangeset id)
call_at ChangesetUpload Post d = id_in d >>= λ id. Ok (call.Upload id)
call_at ChangesetDownload Get d = id_in d >>= λ id. Ok (call.Download id)
call_at Changesets Get d = changesets d
call_at Map Get d = map_call d
call_at Redactions Post d = Ok call.MakeRedaction
call_at (NewElement kind) Put d = Ok (call.CreateSingle kind)
call_at (Element kind) Get d = one kind d
call_at (Element kind) Put d = key_in kind d >>= λ key. Ok (call.ModifySingle key)
call_at (Element kind) Delete d = key_in kind d >>= λ key. Ok (call.DeleteSingle key)
call_at (History kind) Get d = history kind d
call_at (Version kind) Get d = numbered kind d
call_at (VersionRedaction kind) Post d = redact kind d
call_at (Relations kind) Get d = key_in kind d >>= λ key. Ok (call.RelationsOf key)
call_at NodeWays Get d = id_in d >>= λ id. Ok (call.WaysOf id)
call_at (Full kind) Get d = full kind d
call_at (Elements kind) Get d = many kind d
call_at FeedState Get d = Ok call.FeedState
call_at FeedPiece Get d = id_in d >>= λ number. Ok (call.FeedPiece number)
call_at _ _ _ = Err fault.WrongMethod

-- the call of a request line, or the first cause for which there is none
unfoldable pub call_of : List ℕ → List ℕ → Result Call RouteFault
call_of method target = do
  path ← or_fault (path_of target) fault.NoPath
  route ← or_fault (route_at path) fault.NoPath
  verb ← or_fault (method_of method) fault.WrongMethod
  call_at route.value verb (details_of route path (query_of target))

-- ---- the numbers of a call

-- what a path number may be
abbrev pub IsPathNumber : ℕ → Type 0
IsPathNumber n = (1 ≤ n) × (n < 2 ^ 63)

-- the ids, versions and numbers of pieces that a path gave
abbrev pub HasPathNumbers : Call → Type 0
HasPathNumbers (call.Changeset id) = IsPathNumber id
HasPathNumbers (call.Retag id) = IsPathNumber id
HasPathNumbers (call.CloseChangeset id) = IsPathNumber id
HasPathNumbers (call.Upload id) = IsPathNumber id
HasPathNumbers (call.Download id) = IsPathNumber id
HasPathNumbers (call.One key at) = IsPathNumber key.id
HasPathNumbers (call.ModifySingle key) = IsPathNumber key.id
HasPathNumbers (call.DeleteSingle key) = IsPathNumber key.id
HasPathNumbers (call.History key show) = IsPathNumber key.id
HasPathNumbers (call.Numbered key version show) = IsPathNumber key.id × IsPathNumber version
HasPathNumbers (call.Redact key version redaction) = IsPathNumber key.id × IsPathNumber version
HasPathNumbers (call.RelationsOf key) = IsPathNumber key.id
HasPathNumbers (call.WaysOf id) = IsPathNumber id
HasPathNumbers (call.Full key at) = IsPathNumber key.id
HasPathNumbers (call.FeedPiece number) = IsPathNumber number
HasPathNumbers _ = ⊤

-- ---- memory: none is taken for a call without parameters

abbrev pub has_parameters : Resource → Method → Bool
has_parameters Changesets Get = true
has_parameters Map Get = true
has_parameters (Element kind) Get = true
has_parameters (History kind) Get = true
has_parameters (Version kind) Get = true
has_parameters (VersionRedaction kind) Post = true
has_parameters (Full kind) Get = true
has_parameters (Elements kind) Get = true
has_parameters _ _ = false

-- the target's path has a route whose call by the method has parameters
abbrev pub IsParametric : List ℕ → List ℕ → Type 0
IsParametric method target =
    (path : List ℕ) × (route : RouteOf Resource) × (verb : Method)
    × (path_of target ≡ Some path) × (route_at path ≡ Some route) × (method_of method ≡ Some verb) × (has_parameters route.value verb ≡ true)

-- ---- what a reading gives: what the definition says, unless memory ran out

abbrev pub Gives : {A : Type 0} → Result A RouteFault → Result A RouteFault → Type 0
Gives expected (Ok made) = expected ≡ Ok made
Gives expected (Err fault.Memory) = ⊤
Gives expected (Err fault.NoPath) = expected ≡ Err fault.NoPath
Gives expected (Err fault.WrongMethod) = expected ≡ Err fault.WrongMethod
Gives expected (Err fault.BadNumber) = expected ≡ Err fault.BadNumber
Gives expected (Err (fault.BadParameter name)) = expected ≡ Err (fault.BadParameter name)
