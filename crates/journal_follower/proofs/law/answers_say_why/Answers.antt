use Rattle.std.proofs.Common.{ap, sym, ◌∙◌}
use Rattle.journal_follower.specs.declared.answers.Taken.TheVariants.{Gap}
use Rattle.journal_follower.proofs.Places.{gap, from_gap}
use Rattle.journal_follower.proofs.Said.{why_old, why_differs, why_illegal}
use Rattle.journal_follower.proofs.law.answers_say_why.Goals as goal

pub returns-clause-old : goal.returns-clause-old
returns-clause-old c = why_old c.lines_tell_entries.ensures

pub returns-clause-differs : goal.returns-clause-differs
returns-clause-differs c = why_differs c.lines_tell_entries.ensures

pub returns-clause-gap : goal.returns-clause-gap
returns-clause-gap c = λ kept p n counted. (from_gap kept p n counted, λ h. gap kept p h.0 ∙ ap Gap (sym h.1))

pub returns-clause-illegal : goal.returns-clause-illegal
returns-clause-illegal c = λ kept p legal counted. why_illegal c.legal_journals_grow.ensures.more c.legal_journals_grow.ensures.follows kept p legal
