use Rattle.std.proofs.Common.{List, [], length, subst}
use Rattle.osm_change.specs.Build.{operations_after}
use Rattle.osm_change.specs.declared.raw.RawOp.{RawOp}
use Rattle.osm_change.proofs.Reading.{IsReading, reading-goes, reading-raw, reading-small, reading-fails, place-fits, stopped}
use Rattle.osm_change.proofs.build.operations_with.Goals as goal

pub operation-requires : goal.operation-requires
operation-requires c =
    let P : List RawOp → Type 0 = λ rest. IsReading c.args.raw.items c.loop-op.yielded rest c.loop-op.placeholders c.loop-op.operations.items c.loop-op.place in
    let was = subst P c.in-Some.ensures.steps.0 c.loop-op.invariant.2 in
    reading-raw c.args.raw.items c.loop-op.yielded _ c.loop-op.placeholders c.loop-op.operations.items c.loop-op.place c.in-Some.op was

pub at-requires : goal.at-requires
at-requires c =
    let P : List RawOp → Type 0 = λ rest. IsReading c.args.raw.items c.loop-op.yielded rest c.loop-op.placeholders c.loop-op.operations.items c.loop-op.place in
    let was = subst P c.in-Some.ensures.steps.0 c.loop-op.invariant.2 in
    let small = reading-small c.args.raw.items c.loop-op.yielded _ c.loop-op.placeholders c.loop-op.operations.items c.loop-op.place c.in-Some.op was in
    place-fits c.loop-op.place (length c.args.raw.items) small c.requires.raw.few

pub returns-in-Err : goal.returns-in-Err
returns-in-Err c =
    let P : List RawOp → Type 0 = λ rest. IsReading c.args.raw.items c.loop-op.yielded rest c.loop-op.placeholders c.loop-op.operations.items c.loop-op.place in
    let was = subst P c.in-Some.ensures.steps.0 c.loop-op.invariant.2 in
    stopped (operations_after [] c.args.raw.items) c.loop-op.place c.in-Err.cause c.at.result c.at.ensures (reading-fails c.args.raw.items c.loop-op.yielded _ c.loop-op.placeholders c.loop-op.operations.items c.loop-op.place c.in-Some.op c.in-Err.cause was c.in-Err.ensures.gives)

pub overflow_add-place : goal.overflow_add-place
overflow_add-place c =
    let P : List RawOp → Type 0 = λ rest. IsReading c.args.raw.items c.loop-op.yielded rest c.loop-op.placeholders c.loop-op.operations.items c.loop-op.place in
    let was = subst P c.in-Some.ensures.steps.0 c.loop-op.invariant.2 in
    let small = reading-small c.args.raw.items c.loop-op.yielded _ c.loop-op.placeholders c.loop-op.operations.items c.loop-op.place c.in-Some.op was in
    record { fits = place-fits c.loop-op.place (length c.args.raw.items) small c.requires.raw.few }

pub loop-op-preserved : goal.loop-op-preserved
loop-op-preserved c =
    let P : List RawOp → Type 0 = λ rest. IsReading c.args.raw.items c.loop-op.yielded rest c.loop-op.placeholders c.loop-op.operations.items c.loop-op.place in
    let was = subst P c.in-Some.ensures.steps.0 c.loop-op.invariant.2 in
    (tt, tt, reading-goes c.args.raw.items c.loop-op.yielded _ c.loop-op.placeholders c.loop-op.operations.items c.loop-op.place c.in-Some.op c.in-Ok.operation c.operation.new.placeholders c.push.new.self.items was c.in-Ok.ensures.gives c.in-Ok.ensures.noted c.in_ok-push-in-Ok.ensures.items)
