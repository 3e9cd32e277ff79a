-- The paths of the API (OpenStreetMap wiki, API v0.6), and which of them a path is.
use Rattle.std.specs.Prelude.{ℕ, List, [], ◌∷◌, ◌++◌, codes, Option, Result, Ok, Err}
use Rattle.std.specs.List.{fold}
use Rattle.matchit.specs.Rows.{RowsOf}
use Rattle.matchit.specs.Route.{Scan, parse_route}
use Rattle.matchit.specs.Order.{placed}
use Rattle.matchit.specs.Router.{RouteOf, route_from}
use Rattle.matchit.specs.Seek.{first}
use Rattle.matchit.specs.declared.error.InsertError.{InsertError}
use Rattle.osm_base.specs.declared.keys.Kind.{Kind}
use Rattle.osm_base.specs.declared.keys.Kind.TheVariants.{Node, Way, Relation}
use Rattle.route_table.specs.declared.resources.Resource.{Resource}
use Rattle.route_table.specs.declared.resources.Resource.TheVariants.{NewChangeset, Changeset, ChangesetClosing, ChangesetUpload, ChangesetDownload, Changesets, Map, Redactions, NewElement, Element, History, Version, VersionRedaction, Relations, NodeWays, Full, Elements, FeedState, FeedPiece}

abbrev pub Path : Type 0
Path = List ℕ × Resource

abbrev pub at_root : List ℕ → Resource → Path
at_root text resource = (codes "/api/0.6/" ++ text, resource)

abbrev pub paths_of_kind : List ℕ → Kind → List Path
paths_of_kind word kind =
    at_root (word ++ codes "/create") (NewElement kind)
    ∷ at_root (word ++ codes "/{id}") (Element kind)
    ∷ at_root (word ++ codes "/{id}/history") (History kind)
    ∷ at_root (word ++ codes "/{id}/{version}") (Version kind)
    ∷ at_root (word ++ codes "/{id}/{version}/redact") (VersionRedaction kind)
    ∷ at_root (word ++ codes "/{id}/relations") (Relations kind)
    ∷ []

abbrev pub changeset_paths : List Path
changeset_paths =
    at_root (codes "changeset/create") NewChangeset
    ∷ at_root (codes "changeset/{id}") Changeset
    ∷ at_root (codes "changeset/{id}/close") ChangesetClosing
    ∷ at_root (codes "changeset/{id}/upload") ChangesetUpload
    ∷ at_root (codes "changeset/{id}/download") ChangesetDownload
    ∷ at_root (codes "changesets") Changesets
    ∷ at_root (codes "map") Map
    ∷ at_root (codes "redactions") Redactions
    ∷ []

abbrev pub further_paths : List Path
further_paths =
    at_root (codes "node/{id}/ways") NodeWays
    ∷ at_root (codes "way/{id}/full") (Full Way)
    ∷ at_root (codes "relation/{id}/full") (Full Relation)
    ∷ at_root (codes "nodes") (Elements Node)
    ∷ at_root (codes "ways") (Elements Way)
    ∷ at_root (codes "relations") (Elements Relation)
    ∷ []

-- the feed of the journal's entries
abbrev pub feed_paths : List Path
feed_paths = at_root (codes "replication/state") FeedState ∷ at_root (codes "replication/{id}") FeedPiece ∷ []

-- each path with what it is a path of
unfoldable pub paths : List Path
paths =
    changeset_paths ++ paths_of_kind (codes "node") Node ++ paths_of_kind (codes "way") Way ++ paths_of_kind (codes "relation") Relation
    ++ further_paths ++ feed_paths

-- ---- the search of `matchit` over them

abbrev pub placed_route : Result Scan InsertError → Resource → RowsOf (RouteOf Resource) → RowsOf (RouteOf Resource)
placed_route (Ok s) resource rows = placed (s.pattern, route_from s resource) rows
placed_route (Err e) resource rows = rows

abbrev pub with_path : RowsOf (RouteOf Resource) → Path → RowsOf (RouteOf Resource)
with_path rows path = placed_route (parse_route path.0) path.1 rows

unfoldable pub routes : RowsOf (RouteOf Resource)
routes = fold with_path [] paths

-- the route that a path has
abbrev pub route_at : List ℕ → Option (RouteOf Resource)
route_at path = first routes path
