-- How the faults of a request line and of a body are told.
use Rattle.std.specs.Prelude.{◌≡◌, ⊤, ℕ, Option, Some, Result, Ok, Err}
use Rattle.osm_change.specs.Moments.{RefusalHasShownEnd}
use Rattle.osm_change.specs.declared.causes.Cause.{Cause}
use Rattle.osm_change.specs.declared.causes.Cause.TheVariants as cause
use Rattle.osm_change.specs.declared.causes.ShapeFault.{ShapeFault}
use Rattle.osm_change.specs.declared.refusals.Refusal.{Refusal}
use Rattle.osm_change.specs.declared.refusals.Refusal.TheVariants as refusals
use Rattle.osm_json.specs.declared.fault.BodyFault.{BodyFault}
use Rattle.osm_json.specs.declared.fault.BodyFault.TheVariants as body
use Rattle.route_table.specs.declared.faults.RouteFault.{RouteFault}
use Rattle.route_table.specs.declared.faults.RouteFault.TheVariants as route
use Rattle.desk_parts.specs.declared.faults.RequestFault.{RequestFault}
use Rattle.desk_parts.specs.declared.faults.RequestFault.TheVariants.{Memory, Refused}

-- a request line without a call
abbrev pub of_route : RouteFault → RequestFault
of_route route.Memory = Memory
of_route route.NoPath = Refused refusals.NoPath
of_route route.WrongMethod = Refused refusals.WrongMethod
of_route route.BadNumber = Refused refusals.BadNumber
of_route (route.BadParameter name) = Refused (refusals.BadParameter name)

-- a body that isn't JSON, or isn't of the form that its call wants
abbrev pub of_body : BodyFault → RequestFault
of_body body.Memory = Memory
of_body body.NotJson = Refused refusals.NotJson
of_body (body.Shape op) = Refused (refusals.Shape (Some op))

abbrev pub of_cause : Option ℕ → Cause → RequestFault
of_cause op cause.Memory = Memory
of_cause op cause.NotNegative = Refused (refusals.NotNegative op)
of_cause op cause.DoublePlaceholder = Refused (refusals.DoublePlaceholder op)
of_cause op cause.UnknownPlaceholder = Refused (refusals.UnknownPlaceholder op)
of_cause op cause.NoVersion = Refused (refusals.NoVersion op)
of_cause op (cause.Local fault) = Refused (refusals.Local fault op)
of_cause op (cause.OtherChangeset named) = Refused (refusals.OtherChangeset named op)

-- operations that are no change
abbrev pub of_change : ShapeFault → RequestFault
of_change fault = of_cause (Some fault.op) fault.cause

-- the refusal of a fault. No definition gives want of memory
abbrev pub refusal_in : RequestFault → Refusal
refusal_in (Refused r) = r
refusal_in Memory = refusals.NotJson

-- a result, or the refusal that its fault is told as
abbrev pub or_refused : {A E : Type 0} → (E → RequestFault) → Result A E → Result A Refusal
or_refused of (Ok a) = Ok a
or_refused of (Err fault) = Err (refusal_in (of fault))

-- ---- a reading gives what the definitions say, unless memory ran out

abbrev pub Gives : {A X : Type 0} → (X → A) → Result A Refusal → Result X RequestFault → Type 0
Gives view expected (Ok made) = expected ≡ Ok (view made)
Gives view expected (Err Memory) = ⊤
Gives view expected (Err (Refused r)) = expected ≡ Err r

-- the moments of a refusal have a text
abbrev pub HasShownFault : RequestFault → Type 0
HasShownFault Memory = ⊤
HasShownFault (Refused r) = RefusalHasShownEnd r
