-- Paths that have no route.
use Rattle.std.proofs.Common.{◌≡◌, ℕ, List, codes, Some, None, Err, refl, sym, ◌∙◌}
use Rattle.matchit.proofs.OnLiterals.{matchit_on_literals}
use Rattle.route_table.specs.declared.faults.RouteFault.TheVariants.{NoPath}
use Rattle.route_table.specs.Targets.{path_of}
use Rattle.route_table.specs.Paths.{paths, routes, route_at}
use Rattle.route_table.specs.Calls.{call_of}
use Rattle.route_table.proofs.Seeking.{quick, quick-seek}

-- by any method
HasNoPath : List ℕ → Type 0
HasNoPath target = (method : List ℕ) → call_of method target ≡ Err NoPath

nowhere : (target path : List ℕ) → path_of target ≡ Some path → quick 0 routes path ≡ None → HasNoPath target
unfolding call_of HasNoPath
nowhere target path is none method =
    let no_route : route_at path ≡ None = sym (quick-seek 0 routes path) ∙ none in
    rw (is, no_route) refl

root : HasNoPath (codes "/api/0.6/")
unfolding quick matchit_on_literals paths routes
root = nowhere (codes "/api/0.6/") (codes "/api/0.6/") refl refl

no_id : HasNoPath (codes "/api/0.6/node")
unfolding quick matchit_on_literals paths routes
no_id = nowhere (codes "/api/0.6/node") (codes "/api/0.6/node") refl refl

empty_id : HasNoPath (codes "/api/0.6/node/")
unfolding quick matchit_on_literals paths routes
empty_id = nowhere (codes "/api/0.6/node/") (codes "/api/0.6/node/") refl refl

beyond_nodes : HasNoPath (codes "/api/0.6/nodes/1")
unfolding quick matchit_on_literals paths routes
beyond_nodes = nowhere (codes "/api/0.6/nodes/1") (codes "/api/0.6/nodes/1") refl refl

empty_part : HasNoPath (codes "/api/0.6/node//history")
unfolding quick matchit_on_literals paths routes
empty_part = nowhere (codes "/api/0.6/node//history") (codes "/api/0.6/node//history") refl refl

four_numbers : HasNoPath (codes "/api/0.6/node/1/2/3")
unfolding quick matchit_on_literals paths routes
four_numbers = nowhere (codes "/api/0.6/node/1/2/3") (codes "/api/0.6/node/1/2/3") refl refl

slash_behind : HasNoPath (codes "/api/0.6/node/12/")
unfolding quick matchit_on_literals paths routes
slash_behind = nowhere (codes "/api/0.6/node/12/") (codes "/api/0.6/node/12/") refl refl

longer_word : HasNoPath (codes "/api/0.6/maps")
unfolding quick matchit_on_literals paths routes
longer_word = nowhere (codes "/api/0.6/maps") (codes "/api/0.6/maps") refl refl

upper_case : HasNoPath (codes "/api/0.6/Map")
unfolding quick matchit_on_literals paths routes
upper_case = nowhere (codes "/api/0.6/Map") (codes "/api/0.6/Map") refl refl

unknown_word : HasNoPath (codes "/api/0.6/trackpoints")
unfolding quick matchit_on_literals paths routes
unknown_word = nowhere (codes "/api/0.6/trackpoints") (codes "/api/0.6/trackpoints") refl refl

no_number : HasNoPath (codes "/api/0.6/replication")
unfolding quick matchit_on_literals paths routes
no_number = nowhere (codes "/api/0.6/replication") (codes "/api/0.6/replication") refl refl

unknown_part : HasNoPath (codes "/api/0.6/changeset/7/open")
unfolding quick matchit_on_literals paths routes
unknown_part = nowhere (codes "/api/0.6/changeset/7/open") (codes "/api/0.6/changeset/7/open") refl refl

escaped_word : HasNoPath (codes "/api/0.6/m%61p?bbox=1,2,3,4")
unfolding quick matchit_on_literals paths routes
escaped_word = nowhere (codes "/api/0.6/m%61p?bbox=1,2,3,4") (codes "/api/0.6/m%61p") refl refl

empty_id_ending : HasNoPath (codes "/api/0.6/node/.json")
unfolding quick matchit_on_literals paths routes
empty_id_ending = nowhere (codes "/api/0.6/node/.json") (codes "/api/0.6/node/") refl refl

twice_ending : HasNoPath (codes "/api/0.6/map.json.json?bbox=1,2,3,4")
unfolding quick matchit_on_literals paths routes
twice_ending = nowhere (codes "/api/0.6/map.json.json?bbox=1,2,3,4") (codes "/api/0.6/map.json") refl refl
