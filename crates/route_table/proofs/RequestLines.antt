-- What else a request line may hold: endings, numbers, parameters and the order of faults.
use Rattle.std.proofs.Common.{◌≡◌, ℕ, true, false, List, [], ◌∷◌, ◌++◌, codes, Some, None, Result, Ok, Err, pos, refl}
use Rattle.std.specs.Prelude.{map}
use Rattle.matchit.proofs.OnLiterals.{matchit_on_literals}
use Rattle.percent_encoding.proofs.OnLiterals.{percent_encoding_on_literals}
use Rattle.osm_base.specs.Place.{Area}
use Rattle.osm_base.specs.Decimal.{area_of}
use Rattle.osm_base.specs.declared.keys.Key.{Key}
use Rattle.osm_base.specs.declared.keys.Kind.{Kind}
use Rattle.osm_base.specs.declared.keys.Kind.TheVariants.{Node, Way, Relation}
use Rattle.route_table.specs.Methods.{method_of}
use Rattle.route_table.specs.Paths.{paths, routes}
use Rattle.route_table.specs.Calls.{call_at, call_of}
use Rattle.route_table.specs.declared.calls.Call.{Call}
use Rattle.route_table.specs.declared.calls.Call.TheVariants as call
use Rattle.route_table.specs.declared.faults.RouteFault.{RouteFault}
use Rattle.route_table.specs.declared.faults.RouteFault.TheVariants.{NoPath, WrongMethod, BadNumber, BadParameter}

abbrev area : ℕ → ℕ → ℕ → ℕ → Area
area left bottom right top = record { left = pos left; bottom = pos bottom; right = pos right; top = pos top }

abbrev key : Kind → ℕ → Key
key kind id = record { kind = kind; id = id }

abbrev calls_of : List ℕ → List (List ℕ × Result Call RouteFault) → List (Result Call RouteFault)
calls_of method rows = map (λ row. call_of method (codes "/api/0.6/" ++ row.0)) rows

abbrev wanted : List (List ℕ × Result Call RouteFault) → List (Result Call RouteFault)
wanted rows = map (λ row. row.1) rows

-- one ending `.json` of the path is cut off, whatever the path is
abbrev json_ending : List (List ℕ × Result Call RouteFault)
json_ending =
    (codes "changeset/7.json", Ok (call.Changeset 7))
    ∷ (codes "changeset/7/download.json", Ok (call.Download 7))
    ∷ (codes "changesets.json?open=true", Ok (call.Changesets None true false None))
    ∷ (codes "map.json?bbox=1,2,3,4", Ok (call.Map (area 10000000 20000000 30000000 40000000) None))
    ∷ (codes "node/12.json", Ok (call.One (key Node 12) None))
    ∷ (codes "node/12/history.json", Ok (call.History (key Node 12) false))
    ∷ (codes "node/12/3.json", Ok (call.Numbered (key Node 12) 3 false))
    ∷ (codes "node/12/ways.json", Ok (call.WaysOf 12))
    ∷ (codes "way/12/full.json", Ok (call.Full (key Way 12) None))
    ∷ (codes "relation/12/relations.json", Ok (call.RelationsOf (key Relation 12)))
    ∷ (codes "nodes.json?nodes=1", Ok (call.Many Node (1 ∷ [])))
    ∷ (codes "node/12.json.json", Err BadNumber)
    ∷ (codes "node/12.JSON", Err BadNumber)
    ∷ (codes "node/12?a=.json", Ok (call.One (key Node 12) None))
    ∷ []

json_ending-hold : calls_of (codes "GET") json_ending ≡ wanted json_ending
unfolding matchit_on_literals percent_encoding_on_literals area_of method_of paths routes call_at call_of
json_ending-hold = refl

-- a part of the path that is no number
abbrev bad_number : List (List ℕ × Result Call RouteFault)
bad_number =
    (codes "node/0", Err BadNumber)
    ∷ (codes "node/-1", Err BadNumber)
    ∷ (codes "node/x", Err BadNumber)
    ∷ (codes "node/007", Ok (call.One (key Node 7) None))
    ∷ (codes "node/%31", Err BadNumber)
    ∷ (codes "node/9223372036854775807", Ok (call.One (key Node 9223372036854775807) None))
    ∷ (codes "node/9223372036854775808", Err BadNumber)
    ∷ (codes "node/00000000000000000001", Err BadNumber)
    ∷ (codes "node/12/0", Err BadNumber)
    ∷ (codes "node/12/full", Err BadNumber)
    ∷ (codes "way/12/ways", Err BadNumber)
    ∷ (codes "node/create/history", Err BadNumber)
    ∷ (codes "changeset/create", Err WrongMethod)
    ∷ []

bad_number-hold : calls_of (codes "GET") bad_number ≡ wanted bad_number
unfolding matchit_on_literals percent_encoding_on_literals area_of method_of paths routes call_at call_of
bad_number-hold = refl

-- the first part with a name counts, percent-decoded; `false` counts as missing, and a `+` stays a `+`
abbrev parameters : List (List ℕ × Result Call RouteFault)
parameters =
    (codes "changesets?user=3&open=true&closed=true&bbox=1,2,3,4", Ok (call.Changesets (Some 3) true true (Some (area 10000000 20000000 30000000 40000000))))
    ∷ (codes "changesets?bbox=1%2C2%2c3%2C4&user=%33", Ok (call.Changesets (Some 3) false false (Some (area 10000000 20000000 30000000 40000000))))
    ∷ (codes "changesets?%75ser=3", Ok (call.Changesets (Some 3) false false None))
    ∷ (codes "changesets?user=3&user=x", Ok (call.Changesets (Some 3) false false None))
    ∷ (codes "changesets?user=x&user=3", Err (BadParameter (codes "user")))
    ∷ (codes "changesets?open=false&closed=true", Ok (call.Changesets None false true None))
    ∷ (codes "changesets?open", Err (BadParameter (codes "open")))
    ∷ (codes "changesets?open=", Err (BadParameter (codes "open")))
    ∷ (codes "changesets?open=1", Err (BadParameter (codes "open")))
    ∷ (codes "changesets?open=True", Err (BadParameter (codes "open")))
    ∷ (codes "changesets?open=%ff", Err (BadParameter (codes "open")))
    ∷ (codes "changesets?%ff=1&&=&=3&x", Ok (call.Changesets None false false None))
    ∷ (codes "changesets?user=3?", Err (BadParameter (codes "user")))
    ∷ (codes "changesets?", Ok (call.Changesets None false false None))
    ∷ (codes "changesets?user=0", Err (BadParameter (codes "user")))
    ∷ (codes "changesets?user=+3", Err (BadParameter (codes "user")))
    ∷ (codes "changesets?time=x&display_name=y&USER=3", Ok (call.Changesets None false false None))
    ∷ (codes "changesets?closed=x&user=y&open=z&bbox=1", Err (BadParameter (codes "user")))
    ∷ (codes "changesets?bbox=1&closed=x&open=z", Err (BadParameter (codes "open")))
    ∷ (codes "changesets?bbox=1&closed=x", Err (BadParameter (codes "closed")))
    ∷ (codes "changesets?bbox=1", Err (BadParameter (codes "bbox")))
    ∷ (codes "map?x=%zz&bbox=1%2C2%2C3%2C4", Ok (call.Map (area 10000000 20000000 30000000 40000000) None))
    ∷ (codes "map?bbox=+1,2,+3,4", Ok (call.Map (area 10000000 20000000 30000000 40000000) None))
    ∷ (codes "map?bbox=%2B1,2,3,4&bbox=0,0,0,0", Ok (call.Map (area 10000000 20000000 30000000 40000000) None))
    ∷ (codes "map?bbox=1,2,3,4%20", Err (BadParameter (codes "bbox")))
    ∷ (codes "map?bbox=1,2,3,4%ff", Err (BadParameter (codes "bbox")))
    ∷ (codes "map?bbox=3,2,1,4", Err (BadParameter (codes "bbox")))
    ∷ (codes "map?bbox=0,0,180,90", Ok (call.Map (area 0 0 1800000000 900000000) None))
    ∷ (codes "map?bbox=0,0,180.0000001,90", Err (BadParameter (codes "bbox")))
    ∷ (codes "map?box=1,2,3,4", Err (BadParameter (codes "bbox")))
    ∷ (codes "map?bbox", Err (BadParameter (codes "bbox")))
    ∷ (codes "node/12/history?show_redactions=true", Ok (call.History (key Node 12) true))
    ∷ (codes "node/12/history?show_redactions=false", Ok (call.History (key Node 12) false))
    ∷ (codes "node/12/history?show_redactions=yes", Err (BadParameter (codes "show_redactions")))
    ∷ (codes "node/12/3?show_redactions=true", Ok (call.Numbered (key Node 12) 3 true))
    ∷ (codes "node/12?at=1700000015", Ok (call.One (key Node 12) (Some 1700000015)))
    ∷ (codes "way/12.json?%61t=01", Ok (call.One (key Way 12) (Some 1)))
    ∷ (codes "relation/12?at=3&at=x", Ok (call.One (key Relation 12) (Some 3)))
    ∷ (codes "node/12?at=x", Err (BadParameter (codes "at")))
    ∷ (codes "node/12?at=0", Err (BadParameter (codes "at")))
    ∷ (codes "node/12?at=", Err (BadParameter (codes "at")))
    ∷ (codes "node/12?at", Err (BadParameter (codes "at")))
    ∷ (codes "node/12?at=9223372036854775808", Err (BadParameter (codes "at")))
    ∷ (codes "node/12?AT=x", Ok (call.One (key Node 12) None))
    ∷ (codes "node/x?at=x", Err BadNumber)
    ∷ (codes "node/12/history?at=x", Ok (call.History (key Node 12) false))
    ∷ (codes "way/12/full?at=9223372036854775807", Ok (call.Full (key Way 12) (Some 9223372036854775807)))
    ∷ (codes "relation/12/full?at=-1", Err (BadParameter (codes "at")))
    ∷ (codes "relation/x/full?at=-1", Err BadNumber)
    ∷ (codes "map?at=3&bbox=1,2,3,4", Ok (call.Map (area 10000000 20000000 30000000 40000000) (Some 3)))
    ∷ (codes "map?at=x&bbox=1,2,3,4", Err (BadParameter (codes "at")))
    ∷ (codes "map?at=x&bbox=1", Err (BadParameter (codes "bbox")))
    ∷ (codes "map?at=3", Err (BadParameter (codes "bbox")))
    ∷ (codes "node/12?show_redactions=x", Ok (call.One (key Node 12) None))
    ∷ (codes "nodes?nodes=", Err (BadParameter (codes "nodes")))
    ∷ (codes "nodes", Err (BadParameter (codes "nodes")))
    ∷ (codes "nodes?ways=1", Err (BadParameter (codes "nodes")))
    ∷ (codes "ways?nodes=1", Err (BadParameter (codes "ways")))
    ∷ (codes "nodes?nodes=1,", Err (BadParameter (codes "nodes")))
    ∷ (codes "nodes?nodes=1,0", Err (BadParameter (codes "nodes")))
    ∷ (codes "nodes?nodes=1;2", Err (BadParameter (codes "nodes")))
    ∷ (codes "nodes?nodes=3%2c01", Ok (call.Many Node (3 ∷ 1 ∷ [])))
    ∷ (codes "relations?relations=2", Ok (call.Many Relation (2 ∷ [])))
    ∷ (codes "node/x/history?show_redactions=yes", Err BadNumber)
    ∷ (codes "node/12/x?show_redactions=yes", Err BadNumber)
    ∷ []

parameters-hold : calls_of (codes "GET") parameters ≡ wanted parameters
unfolding matchit_on_literals percent_encoding_on_literals area_of method_of paths routes call_at call_of
parameters-hold = refl

-- the lowest fault is named
abbrev posted : List (List ℕ × Result Call RouteFault)
posted =
    (codes "node/12/3/redact?redaction=1", Ok (call.Redact (key Node 12) 3 (Some 1)))
    ∷ (codes "way/12/3/redact.json?redaction=", Err (BadParameter (codes "redaction")))
    ∷ (codes "way/12/3/redact?redaction=0", Err (BadParameter (codes "redaction")))
    ∷ (codes "way/x/3/redact?redaction=0", Err BadNumber)
    ∷ (codes "way/12/x/redact?redaction=0", Err BadNumber)
    ∷ (codes "node/x", Err WrongMethod)
    ∷ (codes "map", Err WrongMethod)
    ∷ []

posted-hold : calls_of (codes "POST") posted ≡ wanted posted
unfolding matchit_on_literals percent_encoding_on_literals area_of method_of paths routes call_at call_of
posted-hold = refl

-- methods are compared exactly
lower_case : call_of (codes "get") (codes "/api/0.6/node/12") ≡ Err WrongMethod
unfolding matchit_on_literals percent_encoding_on_literals area_of method_of paths routes call_at call_of
lower_case = refl

no_slash : call_of (codes "GET") (codes "api/0.6/node/12") ≡ Err NoPath
unfolding matchit_on_literals percent_encoding_on_literals area_of method_of paths routes call_at call_of
no_slash = refl

beyond_ascii : call_of (codes "GET") (codes "/api/0.6/node/12?" ++ 128 ∷ []) ≡ Err NoPath
unfolding matchit_on_literals percent_encoding_on_literals area_of method_of paths routes call_at call_of
beyond_ascii = refl

no_target : call_of (codes "GET") [] ≡ Err NoPath
unfolding matchit_on_literals percent_encoding_on_literals area_of method_of paths routes call_at call_of
no_target = refl
