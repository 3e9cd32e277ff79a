use Rattle.std.proofs.Common.{◌≡◌, ◌-◌, ◌∙◌, sym, ap, subst, ℕ, List, length, take, drop}
use Rattle.std.proofs.Common.{rules}
use Rattle.std.proofs.lemmas.Bool.{both_ways, not-true, not_from_false, false_from_ne_true, true≢false}
use Rattle.std.proofs.lemmas.List.{take_rest}
use Rattle.journal_file.specs.Settled.{AreZeros, HasMoreBehind}
use Rattle.journal_file.proofs.Ends.{pair_first, more_tail}
use Rattle.journal_file.proofs.damage.has_more_behind.Goals as goal

pub returns-then-begins_with : goal.returns-then-begins_with
returns-then-begins_with c =
    let left = c.bytes.left.now in
    let zeros = c.are_zeros.result in
    let found = c.begins_with.ensures.0 c.if-begins_with.true in
    let same : take (length left - 2) (drop 2 left) ≡ found.0 = take_rest left 2 ∙ ap (λ (l : List ℕ). drop 2 l) found.1 in
    let pair = pair_first left found.0 found.1 in (
      λ yes. c.bytes.invariant.0 (pair.1 (λ are. both_ways zeros (not-true zeros yes) (c.are_zeros.ensures.1 (subst AreZeros (sym same) are)))),
      λ has. not_from_false zeros (false_from_ne_true zeros (λ are. pair.0 (c.bytes.invariant.1 has) (subst AreZeros same (c.are_zeros.ensures.0 are)))),
    )

pub bytes-preserved : goal.bytes-preserved
bytes-preserved c =
    let left = c.bytes.left.now in
    let step = more_tail left (search rules) (λ p. true≢false (sym (c.begins_with.ensures.1 p) ∙ c.if-begins_with.false)) in
    let same = take_rest left 1 in (
      λ has. c.bytes.invariant.0 (step.0 (subst HasMoreBehind same has)),
      λ has. subst HasMoreBehind (sym same) (step.1 (c.bytes.invariant.1 has)),
    )
