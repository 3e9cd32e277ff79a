use Rattle.journal_input.proofs.Texts.{text_alone, text_kept}
use Rattle.journal_input.proofs.law.kept_files_are_read.Goals as goal

pub returns-clause-alone : goal.returns-clause-alone
returns-clause-alone c = text_alone c.lines_are_plain.ensures.begins c.lines_are_plain.ensures.one

pub returns-clause-kept : goal.returns-clause-kept
returns-clause-kept c = text_kept c.lines_are_plain.ensures.begins c.lines_are_plain.ensures.one
