-- Each route with each method, and what else a request line may hold.
use Rattle.std.proofs.Common.{◌≡◌, ℕ, false, List, [], ◌∷◌, ◌++◌, codes, None, Result, Ok, Err, pos, refl}
use Rattle.std.specs.Prelude.{map}
use Rattle.matchit.proofs.OnLiterals.{matchit_on_literals}
use Rattle.percent_encoding.proofs.OnLiterals.{percent_encoding_on_literals}
use Rattle.osm_base.specs.Place.{Area}
use Rattle.osm_base.specs.Decimal.{area_of}
use Rattle.osm_base.specs.declared.keys.Key.{Key}
use Rattle.osm_base.specs.declared.keys.Kind.{Kind}
use Rattle.osm_base.specs.declared.keys.Kind.TheVariants.{Node, Way, Relation}
use Rattle.route_table.specs.Methods.{method_of}
use Rattle.route_table.specs.Paths.{paths, routes}
use Rattle.route_table.specs.Calls.{call_at, call_of}
use Rattle.route_table.specs.declared.calls.Call.{Call}
use Rattle.route_table.specs.declared.calls.Call.TheVariants as call
use Rattle.route_table.specs.declared.faults.RouteFault.{RouteFault}
use Rattle.route_table.specs.declared.faults.RouteFault.TheVariants.{WrongMethod}

abbrev area : ℕ → ℕ → ℕ → ℕ → Area
area left bottom right top = record { left = pos left; bottom = pos bottom; right = pos right; top = pos top }

abbrev key : Kind → ℕ → Key
key kind id = record { kind = kind; id = id }

abbrev calls_of : List ℕ → List (List ℕ) → List (Result Call RouteFault)
calls_of method targets = map (λ target. call_of method (codes "/api/0.6/" ++ target)) targets

-- a target of each path
abbrev targets : List (List ℕ)
targets =
    codes "changeset/create"
    ∷ codes "changeset/7"
    ∷ codes "changeset/7/close"
    ∷ codes "changeset/7/upload"
    ∷ codes "changeset/7/download"
    ∷ codes "changesets"
    ∷ codes "map?bbox=1,2,3,4"
    ∷ codes "redactions"
    ∷ codes "node/create"
    ∷ codes "node/12"
    ∷ codes "node/12/history"
    ∷ codes "node/12/3"
    ∷ codes "node/12/3/redact"
    ∷ codes "node/12/relations"
    ∷ codes "way/create"
    ∷ codes "way/12"
    ∷ codes "way/12/history"
    ∷ codes "way/12/3"
    ∷ codes "way/12/3/redact"
    ∷ codes "way/12/relations"
    ∷ codes "relation/create"
    ∷ codes "relation/12"
    ∷ codes "relation/12/history"
    ∷ codes "relation/12/3"
    ∷ codes "relation/12/3/redact"
    ∷ codes "relation/12/relations"
    ∷ codes "node/12/ways"
    ∷ codes "way/12/full"
    ∷ codes "relation/12/full"
    ∷ codes "nodes?nodes=5,1,5"
    ∷ codes "ways?ways=5,1,5"
    ∷ codes "relations?relations=5,1,5"
    ∷ codes "replication/state"
    ∷ codes "replication/2"
    ∷ []

get :
    calls_of (codes "GET") targets
    ≡ Err WrongMethod
    ∷ Ok (call.Changeset 7)
    ∷ Err WrongMethod
    ∷ Err WrongMethod
    ∷ Ok (call.Download 7)
    ∷ Ok (call.Changesets None false false None)
    ∷ Ok (call.Map (area 10000000 20000000 30000000 40000000) None)
    ∷ Err WrongMethod
    ∷ Err WrongMethod
    ∷ Ok (call.One (key Node 12) None)
    ∷ Ok (call.History (key Node 12) false)
    ∷ Ok (call.Numbered (key Node 12) 3 false)
    ∷ Err WrongMethod
    ∷ Ok (call.RelationsOf (key Node 12))
    ∷ Err WrongMethod
    ∷ Ok (call.One (key Way 12) None)
    ∷ Ok (call.History (key Way 12) false)
    ∷ Ok (call.Numbered (key Way 12) 3 false)
    ∷ Err WrongMethod
    ∷ Ok (call.RelationsOf (key Way 12))
    ∷ Err WrongMethod
    ∷ Ok (call.One (key Relation 12) None)
    ∷ Ok (call.History (key Relation 12) false)
    ∷ Ok (call.Numbered (key Relation 12) 3 false)
    ∷ Err WrongMethod
    ∷ Ok (call.RelationsOf (key Relation 12))
    ∷ Ok (call.WaysOf 12)
    ∷ Ok (call.Full (key Way 12) None)
    ∷ Ok (call.Full (key Relation 12) None)
    ∷ Ok (call.Many Node (5 ∷ 1 ∷ 5 ∷ []))
    ∷ Ok (call.Many Way (5 ∷ 1 ∷ 5 ∷ []))
    ∷ Ok (call.Many Relation (5 ∷ 1 ∷ 5 ∷ []))
    ∷ Ok call.FeedState
    ∷ Ok (call.FeedPiece 2)
    ∷ []
unfolding matchit_on_literals percent_encoding_on_literals area_of method_of paths routes call_at call_of
get = refl

put :
    calls_of (codes "PUT") targets
    ≡ Ok call.CreateChangeset
    ∷ Ok (call.Retag 7)
    ∷ Ok (call.CloseChangeset 7)
    ∷ Err WrongMethod
    ∷ Err WrongMethod
    ∷ Err WrongMethod
    ∷ Err WrongMethod
    ∷ Err WrongMethod
    ∷ Ok (call.CreateSingle Node)
    ∷ Ok (call.ModifySingle (key Node 12))
    ∷ Err WrongMethod
    ∷ Err WrongMethod
    ∷ Err WrongMethod
    ∷ Err WrongMethod
    ∷ Ok (call.CreateSingle Way)
    ∷ Ok (call.ModifySingle (key Way 12))
    ∷ Err WrongMethod
    ∷ Err WrongMethod
    ∷ Err WrongMethod
    ∷ Err WrongMethod
    ∷ Ok (call.CreateSingle Relation)
    ∷ Ok (call.ModifySingle (key Relation 12))
    ∷ Err WrongMethod
    ∷ Err WrongMethod
    ∷ Err WrongMethod
    ∷ Err WrongMethod
    ∷ Err WrongMethod
    ∷ Err WrongMethod
    ∷ Err WrongMethod
    ∷ Err WrongMethod
    ∷ Err WrongMethod
    ∷ Err WrongMethod
    ∷ Err WrongMethod
    ∷ Err WrongMethod
    ∷ []
unfolding matchit_on_literals percent_encoding_on_literals area_of method_of paths routes call_at call_of
put = refl

post :
    calls_of (codes "POST") targets
    ≡ Err WrongMethod
    ∷ Err WrongMethod
    ∷ Err WrongMethod
    ∷ Ok (call.Upload 7)
    ∷ Err WrongMethod
    ∷ Err WrongMethod
    ∷ Err WrongMethod
    ∷ Ok call.MakeRedaction
    ∷ Err WrongMethod
    ∷ Err WrongMethod
    ∷ Err WrongMethod
    ∷ Err WrongMethod
    ∷ Ok (call.Redact (key Node 12) 3 None)
    ∷ Err WrongMethod
    ∷ Err WrongMethod
    ∷ Err WrongMethod
    ∷ Err WrongMethod
    ∷ Err WrongMethod
    ∷ Ok (call.Redact (key Way 12) 3 None)
    ∷ Err WrongMethod
    ∷ Err WrongMethod
    ∷ Err WrongMethod
    ∷ Err WrongMethod
    ∷ Err WrongMethod
    ∷ Ok (call.Redact (key Relation 12) 3 None)
    ∷ Err WrongMethod
    ∷ Err WrongMethod
    ∷ Err WrongMethod
    ∷ Err WrongMethod
    ∷ Err WrongMethod
    ∷ Err WrongMethod
    ∷ Err WrongMethod
    ∷ Err WrongMethod
    ∷ Err WrongMethod
    ∷ []
unfolding matchit_on_literals percent_encoding_on_literals area_of method_of paths routes call_at call_of
post = refl

delete :
    calls_of (codes "DELETE") targets
    ≡ Err WrongMethod
    ∷ Err WrongMethod
    ∷ Err WrongMethod
    ∷ Err WrongMethod
    ∷ Err WrongMethod
    ∷ Err WrongMethod
    ∷ Err WrongMethod
    ∷ Err WrongMethod
    ∷ Err WrongMethod
    ∷ Ok (call.DeleteSingle (key Node 12))
    ∷ Err WrongMethod
    ∷ Err WrongMethod
    ∷ Err WrongMethod
    ∷ Err WrongMethod
    ∷ Err WrongMethod
    ∷ Ok (call.DeleteSingle (key Way 12))
    ∷ Err WrongMethod
    ∷ Err WrongMethod
    ∷ Err WrongMethod
    ∷ Err WrongMethod
    ∷ Err WrongMethod
    ∷ Ok (call.DeleteSingle (key Relation 12))
    ∷ Err WrongMethod
    ∷ Err WrongMethod
    ∷ Err WrongMethod
    ∷ Err WrongMethod
    ∷ Err WrongMethod
    ∷ Err WrongMethod
    ∷ Err WrongMethod
    ∷ Err WrongMethod
    ∷ Err WrongMethod
    ∷ Err WrongMethod
    ∷ Err WrongMethod
    ∷ Err WrongMethod
    ∷ []
unfolding matchit_on_literals percent_encoding_on_literals area_of method_of paths routes call_at call_of
delete = refl

patch :
    calls_of (codes "PATCH") targets
    ≡ Err WrongMethod
    ∷ Err WrongMethod
    ∷ Err WrongMethod
    ∷ Err WrongMethod
    ∷ Err WrongMethod
    ∷ Err WrongMethod
    ∷ Err WrongMethod
    ∷ Err WrongMethod
    ∷ Err WrongMethod
    ∷ Err WrongMethod
    ∷ Err WrongMethod
    ∷ Err WrongMethod
    ∷ Err WrongMethod
    ∷ Err WrongMethod
    ∷ Err WrongMethod
    ∷ Err WrongMethod
    ∷ Err WrongMethod
    ∷ Err WrongMethod
    ∷ Err WrongMethod
    ∷ Err WrongMethod
    ∷ Err WrongMethod
    ∷ Err WrongMethod
    ∷ Err WrongMethod
    ∷ Err WrongMethod
    ∷ Err WrongMethod
    ∷ Err WrongMethod
    ∷ Err WrongMethod
    ∷ Err WrongMethod
    ∷ Err WrongMethod
    ∷ Err WrongMethod
    ∷ Err WrongMethod
    ∷ Err WrongMethod
    ∷ Err WrongMethod
    ∷ Err WrongMethod
    ∷ []
unfolding matchit_on_literals percent_encoding_on_literals area_of method_of paths routes call_at call_of
patch = refl
