use Rattle.diff_result.proofs.CountedKeys.{keys-counted}
use Rattle.diff_result.proofs.law.keys_are_counted.Goals as goal

pub returns : goal.returns
returns c = keys-counted
