use Rattle.kept_rows.proofs.ScriptLemmas.{lines_are, one_line, tell}
use Rattle.kept_rows.proofs.script.ScriptTextKeptTextScriptLine.text_law.Goals as goal

pub returns-clause-lines : goal.returns-clause-lines
returns-clause-lines c = lines_are

pub returns-clause-one : goal.returns-clause-one
returns-clause-one c line typed = one_line line

pub returns-clause-tell : goal.returns-clause-tell
returns-clause-tell c line other typed also same = tell line other same
