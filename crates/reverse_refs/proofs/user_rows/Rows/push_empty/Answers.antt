use Rattle.reverse_refs.proofs.RowSteps.{grown}
use Rattle.reverse_refs.proofs.user_rows.Rows.push_empty.Goals as goal

pub invariant_of-self : goal.invariant_of-self
invariant_of-self c = grown c.push.result c.self.inside.rows c.push.new.self c.self.inside.slots c.self.inside.wide c.self.invariant c.push.ensures.ok c.push.ensures.err
