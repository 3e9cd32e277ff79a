use Rattle.std.proofs.Common.{◌∷◌, ◌++◌, [], arith}
use Rattle.std.proofs.lemmas.List.Elements.{All-same, All-push}
use Rattle.osm_change.specs.Moments.{HasShownStamp}
use Rattle.value_rows.proofs.answers.elements.rows.Goals as goal

pub loop-one-preserved : goal.loop-one-preserved
loop-one-preserved c =
    let made = c.loop-one.made.items in
    let row = c.in-Some.row in (
      omega (arith, c.in_ok-push.ensures.len, c.loop-one.invariant.0),
      All-same
          HasShownStamp
          c.push.new.self.items
          (made ++ row ∷ [])
          c.in_ok-push.ensures.items
          (All-push HasShownStamp made row c.loop-one.invariant.1 c.in-Some.ensures),
    )
