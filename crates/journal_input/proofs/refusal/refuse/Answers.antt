use Rattle.std.proofs.Common.{◌++◌}
use Rattle.journal_input.proofs.Ends.{refused, too_long}
use Rattle.journal_input.proofs.refusal.refuse.Goals as goal

pub returns-in-Ok-true : goal.returns-in-Ok-true
returns-in-Ok-true g c =
    λ before text so_far size sees fails.
    let rest = c.in-Ok-true.ensures before text so_far size sees in
    too_long before _ (text ++ rest.more) rest.input (rest.long c.in-Ok-true.field-0-test)

pub returns-in-Ok-false : goal.returns-in-Ok-false
returns-in-Ok-false g c =
    λ before text so_far size sees fails.
    let rest = c.in-Ok-false.ensures before text so_far size sees in
    let both = fails.fails rest.more (rest.within c.in-Ok-false.field-0-test) in
    refused c.args.fault before _ (text ++ rest.more) rest.input both.0 both.1

pub returns-in-Err : goal.returns-in-Err
returns-in-Err g c = λ before text so_far size sees fails. c.in-Err.ensures before text so_far size sees
