-- Refusals: the status, and the body as data.
use Rattle.std.specs.Prelude.{ℕ, List, [], ◌∷◌, ◌++◌, Option, codes}
use Rattle.serde_json.specs.Data.{Data, string}
use Rattle.osm_base.specs.declared.keys.Kind.{Kind}
use Rattle.osm_element.specs.declared.faults.LocalFault.{LocalFault}
use Rattle.osm_element.specs.declared.faults.LocalFault.TheVariants as local
use Rattle.osm_change.specs.declared.refusals.Said.{Said}
use Rattle.osm_change.specs.declared.refusals.Refusal.{Refusal}
use Rattle.osm_change.specs.declared.refusals.Refusal.TheVariants as refusals
use Rattle.osm_json.specs.Shown.{Field, field, field_if, record_of, natural, kind, named, moment}

-- ---- the status (RFC 9110, section 15)

unfoldable pub refusal_status : Refusal → ℕ
refusal_status refusals.BadHead = 400
refusal_status refusals.HeadLong = 431
refusal_status refusals.Coded = 501
refusal_status refusals.BadLength = 400
refusal_status refusals.BodyLong = 413
refusal_status refusals.NoPath = 404
refusal_status refusals.WrongMethod = 405
refusal_status refusals.Xml = 415
refusal_status refusals.NoUser = 401
refusal_status refusals.BadNumber = 400
refusal_status (refusals.BadParameter name) = 400
refusal_status refusals.Role = 403
refusal_status refusals.NotJson = 400
refusal_status (refusals.Shape op) = 400
refusal_status (refusals.NotNegative op) = 400
refusal_status (refusals.DoublePlaceholder op) = 400
refusal_status (refusals.UnknownPlaceholder op) = 400
refusal_status (refusals.NoVersion op) = 400
refusal_status (refusals.Local fault op) = 400
refusal_status (refusals.OtherChangeset named op) = 409
refusal_status (refusals.NoChangeset id) = 404
refusal_status (refusals.NotOwner changeset owner) = 409
refusal_status (refusals.Closed changeset closed_at) = 409
refusal_status (refusals.Full applied changeset count limit) = 409
refusal_status (refusals.BoxTooLarge area changeset limit) = 413
refusal_status (refusals.NoElement id op k) = 404
refusal_status (refusals.NoSuchVersion id k version) = 404
refusal_status (refusals.WrongVersion found id op provided k) = 409
refusal_status (refusals.Gone id op k version) = 410
refusal_status (refusals.Missing id op k version) = 412
refusal_status (refusals.Used id op k user_id user_kind user_version) = 412
refusal_status (refusals.Redacted id redaction k version) = 403
refusal_status (refusals.NoRedaction id) = 404
refusal_status (refusals.RedactCurrent id k version) = 400
refusal_status (refusals.MapArea area limit) = 400
refusal_status (refusals.MapNodes limit nodes) = 400
refusal_status (refusals.NoPiece last number) = 404

-- ---- the name of the error

abbrev pub local_name : LocalFault → List ℕ
local_name local.TagKey = codes "tag_key"
local_name local.TagValue = codes "tag_value"
local_name local.WayEmpty = codes "way_empty"
local_name local.WayLong = codes "way_long"
local_name local.RelationLong = codes "relation_long"
local_name local.Role = codes "role_long"
local_name local.Position = codes "position"

unfoldable pub error_name : Refusal → List ℕ
error_name refusals.BadHead = codes "bad_head"
error_name refusals.HeadLong = codes "head_long"
error_name refusals.Coded = codes "coded"
error_name refusals.BadLength = codes "bad_length"
error_name refusals.BodyLong = codes "body_long"
error_name refusals.NoPath = codes "no_path"
error_name refusals.WrongMethod = codes "wrong_method"
error_name refusals.Xml = codes "xml"
error_name refusals.NoUser = codes "no_user"
error_name refusals.BadNumber = codes "bad_number"
error_name (refusals.BadParameter name) = codes "bad_parameter"
error_name refusals.Role = codes "role"
error_name refusals.NotJson = codes "not_json"
error_name (refusals.Shape op) = codes "shape"
error_name (refusals.NotNegative op) = codes "not_negative"
error_name (refusals.DoublePlaceholder op) = codes "double_placeholder"
error_name (refusals.UnknownPlaceholder op) = codes "unknown_placeholder"
error_name (refusals.NoVersion op) = codes "no_version"
error_name (refusals.Local fault op) = local_name fault
error_name (refusals.OtherChangeset named op) = codes "other_changeset"
error_name (refusals.NoChangeset id) = codes "no_changeset"
error_name (refusals.NotOwner changeset owner) = codes "owner"
error_name (refusals.Closed changeset closed_at) = codes "closed"
error_name (refusals.Full applied changeset count limit) = codes "full"
error_name (refusals.BoxTooLarge area changeset limit) = codes "box_too_large"
error_name (refusals.NoElement id op k) = codes "no_element"
error_name (refusals.NoSuchVersion id k version) = codes "no_such_version"
error_name (refusals.WrongVersion found id op provided k) = codes "version"
error_name (refusals.Gone id op k version) = codes "gone"
error_name (refusals.Missing id op k version) = codes "missing"
error_name (refusals.Used id op k user_id user_kind user_version) = codes "used"
error_name (refusals.Redacted id redaction k version) = codes "redacted"
error_name (refusals.NoRedaction id) = codes "no_redaction"
error_name (refusals.RedactCurrent id k version) = codes "redact_current"
error_name (refusals.MapArea area limit) = codes "map_area"
error_name (refusals.MapNodes limit nodes) = codes "map_nodes"
error_name (refusals.NoPiece last number) = codes "no_piece"

-- ---- the other members: those of before the error's, and those of behind it

abbrev pub op_field : Option ℕ → Field
op_field op = field_if (codes "op") natural op

unfoldable pub before_error : Refusal → List Field
before_error (refusals.NotOwner changeset owner) = field (codes "changeset") (natural changeset) ∷ []
before_error (refusals.Closed changeset closed_at) =
    field (codes "changeset") (natural changeset) ∷ field (codes "closed_at") (moment closed_at) ∷ []
before_error (refusals.Full applied changeset count limit) =
    field (codes "applied") (natural applied)
    ∷ field (codes "changeset") (natural changeset)
    ∷ field (codes "count") (natural count) ∷ []
before_error (refusals.BoxTooLarge area changeset limit) =
    field (codes "area") (natural area) ∷ field (codes "changeset") (natural changeset) ∷ []
before_error (refusals.MapArea area limit) = field (codes "area") (natural area) ∷ []
before_error _ = []

-- of the target, of the body and of its operations
unfoldable pub of_request : Refusal → List Field
of_request (refusals.BadParameter name) = field (codes "name") (string name) ∷ []
of_request (refusals.Shape op) = op_field op ∷ []
of_request (refusals.NotNegative op) = op_field op ∷ []
of_request (refusals.DoublePlaceholder op) = op_field op ∷ []
of_request (refusals.UnknownPlaceholder op) = op_field op ∷ []
of_request (refusals.NoVersion op) = op_field op ∷ []
of_request (refusals.Local fault op) = op_field op ∷ []
of_request (refusals.OtherChangeset named op) = field (codes "named") (natural named) ∷ op_field op ∷ []
of_request _ = []

-- of changesets, redactions, the map call and the feed
unfoldable pub of_changeset : Refusal → List Field
of_changeset (refusals.NoChangeset id) = field (codes "id") (natural id) ∷ []
of_changeset (refusals.NotOwner changeset owner) = field (codes "owner") (natural owner) ∷ []
of_changeset (refusals.Full applied changeset count limit) = field (codes "limit") (natural limit) ∷ []
of_changeset (refusals.BoxTooLarge area changeset limit) = field (codes "limit") (natural limit) ∷ []
of_changeset (refusals.NoRedaction id) = field (codes "id") (natural id) ∷ []
of_changeset (refusals.MapArea area limit) = field (codes "limit") (natural limit) ∷ []
of_changeset (refusals.MapNodes limit nodes) = field (codes "limit") (natural limit) ∷ field (codes "nodes") (natural nodes) ∷ []
of_changeset (refusals.NoPiece last number) = field (codes "last") (natural last) ∷ field (codes "number") (natural number) ∷ []
of_changeset _ = []

-- an element, as the client named it
unfoldable pub element_fields : Said → Option ℕ → Kind → List Field
element_fields id op k = field (codes "id") (named id) ∷ op_field op ∷ field (codes "type") (kind k) ∷ []

-- and its current version
unfoldable pub current_fields : Said → Option ℕ → Kind → ℕ → List Field
current_fields id op k version =
    field (codes "id") (named id)
    ∷ op_field op
    ∷ field (codes "type") (kind k)
    ∷ field (codes "version") (natural version) ∷ []

-- one version of an element
unfoldable pub version_fields : Said → Kind → ℕ → List Field
version_fields id k version =
    field (codes "id") (named id) ∷ field (codes "type") (kind k) ∷ field (codes "version") (natural version) ∷ []

-- the version that was found, and the one that was named
unfoldable pub conflict_fields : ℕ → Said → Option ℕ → ℕ → Kind → List Field
conflict_fields found id op provided k =
    field (codes "found") (natural found)
    ∷ field (codes "id") (named id)
    ∷ op_field op
    ∷ field (codes "provided") (natural provided)
    ∷ field (codes "type") (kind k) ∷ []

-- the element that uses another
unfoldable pub user_fields : Said → Kind → ℕ → List Field
user_fields id k version =
    field (codes "user_id") (named id)
    ∷ field (codes "user_type") (kind k)
    ∷ field (codes "user_version") (natural version) ∷ []

unfoldable pub redacted_fields : Said → ℕ → Kind → ℕ → List Field
redacted_fields id redaction k version =
    field (codes "id") (named id)
    ∷ field (codes "redaction") (natural redaction)
    ∷ field (codes "type") (kind k)
    ∷ field (codes "version") (natural version) ∷ []

-- of elements and their versions
unfoldable pub of_element : Refusal → List Field
of_element (refusals.NoElement id op k) = element_fields id op k
of_element (refusals.NoSuchVersion id k version) = version_fields id k version
of_element (refusals.WrongVersion found id op provided k) = conflict_fields found id op provided k
of_element (refusals.Gone id op k version) = current_fields id op k version
of_element (refusals.Missing id op k version) = current_fields id op k version
of_element (refusals.Used id op k user_id user_kind user_version) =
    element_fields id op k ++ user_fields user_id user_kind user_version
of_element (refusals.Redacted id redaction k version) = redacted_fields id redaction k version
of_element (refusals.RedactCurrent id k version) = version_fields id k version
of_element _ = []

-- a refusal has members of one of these groups at most
unfoldable pub refusal : Refusal → Data
refusal f = record_of (
    before_error f
    ++ (field (codes "error") (string (error_name f))
    ∷ (of_request f ++ (of_changeset f ++ of_element f))))
