use Rattle.std.proofs.Common.{◌≡◌, ◌+◌, length, drop}
use Rattle.std.specs.Str.Lines.{lines}
use Rattle.user_table.specs.Users.{nobody, with_lines}
use Rattle.user_table.specs.Drafts.{users_of, IsIndexed}
use Rattle.user_table.proofs.drafts.read_lines.Given as goal

abbrev pub invariant-loop-line : goal.invariant-loop-line
invariant-loop-line l = record {
  can_next : (goal.iterator-loop-line).can_next l.line-iterator;
  is_finite : (goal.iterator-loop-line).is_finite l.line-iterator;
  indexed : IsIndexed l.draft;
  counted : l.number ≡ length l.yielded;
  rest : with_lines (l.number + 1) (users_of l.draft) (drop l.number (lines l.text)) ≡ with_lines 1 nobody (lines l.text);
}
