use Rattle.std.proofs.Common.{◌∷◌, ◌++◌, [], arith}
use Rattle.std.proofs.lemmas.List.Elements.{All-same, All-push}
use Rattle.osm_change.specs.Build.{IsRawOp}
use Rattle.value_rows.proofs.nodes.raws.Goals as goal

pub loop-operation-preserved : goal.loop-operation-preserved
loop-operation-preserved c =
    let made = c.loop-operation.made.items in
    let op = c.in-Some.raw in (
      omega (arith, c.in_ok-push.ensures.len, c.loop-operation.invariant.0),
      All-same
          IsRawOp
          c.push.new.self.items
          (made ++ op ∷ [])
          c.in_ok-push.ensures.items
          (All-push IsRawOp made op c.loop-operation.invariant.1 c.in-Some.ensures),
    )
