use Rattle.std.proofs.Common.{◌∙◌}
use Rattle.replication_feed.proofs.Digits.{split_is}
use Rattle.replication_feed.proofs.numerals.split_digits.Goals as goal

pub returns-clause-last : goal.returns-clause-last
returns-clause-last c front digits byte other all is =
    let start = c.digits_start.ensures in
    let at = split_is c.args.text.now front digits byte c.digits_start.result other all is start.within start.digits start.before in
    (c.split_at.ensures.front ∙ at.0, c.split_at.ensures.back ∙ at.1)
