use Rattle.rising_lists.proofs.Same.{same_ids, passing, lists-passing, rising-passing}
use Rattle.rising_lists.proofs.law.rising_ids_are_told.Goals as goal

pub returns : goal.returns
returns c = record { same = same_ids; passing = passing; listed = lists-passing; rising = rising-passing }
