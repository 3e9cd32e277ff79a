use Rattle.std.proofs.Common.{◌∙◌, append_assoc}
use Rattle.workload.specs.Summary.{count_lines}
use Rattle.workload.proofs.lines.count_lines.Goals as goal

pub returns : goal.returns
unfolding count_lines
returns c = c.in_ok-format.ensures.ok ∙ simp append_assoc
