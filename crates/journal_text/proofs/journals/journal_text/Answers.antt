use Rattle.std.proofs.Common.{rules}
use Rattle.journal_text.specs.declared.versions.Version.TheVariants.{Two}
use Rattle.journal_text.proofs.Whole.{typed_in_two}
use Rattle.journal_text.proofs.journals.journal_text.Goals as goal

pub returns-clause-again : goal.returns-clause-again
returns-clause-again c = λ within. record {
  version = Two;
  legal = c.requires;
  typed = typed_in_two c.args.entries.now c.in_ok-text.ensures.typed;
  is = search rules;
  within = within;
}
