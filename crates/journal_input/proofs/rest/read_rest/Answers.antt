use Rattle.std.proofs.Common.{◌≡◌, ◌+◌, ◌<◌, ◌≤◌, ◌++◌, length, arith, rules, length-take}
use Rattle.std.proofs.lemmas.Grind.{common_steps}
use Rattle.std.proofs.lemmas.List.{take-append-le}
use Rattle.journal_text.specs.declared.limits.TheConstants.{TEXT_LIMIT}
use Rattle.journal_input.proofs.Exits.{rest_exit}
use Rattle.journal_input.proofs.Goes.{no_longer, longer, rest_ended, rest_at_limit}
use Rattle.journal_input.proofs.SoFarLemmas.{ended_at, at_limit, failed}
use Rattle.journal_input.proofs.rest.read_rest.Goals as goal

pub rest-init : goal.rest-init
rest-init g c = (λ before text so_far size sees. no_longer before _ text _ c.args.place so_far size sees, c.requires.within)

pub rest-preserved : goal.rest-preserved
rest-preserved g c =
    let count = c.in_ok-more.ensures.count in (
      λ before text so_far size sees.
          longer before _ _ text _ _ c.rest.total c.in_ok-more.more c.rest.place c.behind-place.result (c.rest.invariant.0 before text so_far size sees)
          (omega (arith, c.if-more-eq0.false)) c.in_ok-more.ensures.piece (take-append-le c.in_ok-more.more c.read_piece.new.room _ count) c.behind-place.ensures,
      first_of (grind (arith, common_steps), omega (arith, count, simp length-take at c.read_piece.auto.room, c.min-most.ensures, c.rest-test.true)),
    )

pub returns-in_err-more : goal.returns-in_err-more
returns-in_err-more g c =
    λ before text so_far size sees.
    let now = c.rest.invariant.0 before text so_far size sees in
    rest_exit c.from_residual.result _ before _ text c.from_residual.ensures.1
    (failed before _ _ (text ++ now.more) now.so_far c.in_err-more.ensures.nothing_read (c.in_err-more.ensures.failed (search rules)))

pub returns-then-more-eq0 : goal.returns-then-more-eq0
returns-then-more-eq0 g c =
    λ before text so_far size sees.
    let now = c.rest.invariant.0 before text so_far size sees in
    let all = now.size in
    rest_ended before _ text now.more
    (ended_at before _ _ (text ++ now.more) _ c.in_ok-more.more (omega (arith, c.if-more-eq0.true)) now.so_far c.in_ok-more.ensures.piece)
    (omega (arith, all, c.rest-test.true))

pub returns : goal.returns
returns g c =
    λ before text so_far size sees.
    let now = c.rest.invariant.0 before text so_far size sees in
    let all = now.size in
    let over : TEXT_LIMIT < c.rest.total = c.rest-test.false in
    let within : c.rest.total ≤ TEXT_LIMIT + 1 = c.rest.invariant.1 in
    let full : length (text ++ now.more) ≡ TEXT_LIMIT + 1 = omega (arith, all, over, within) in
    rest_at_limit before _ text now.more c.is_open.result (at_limit before _ _ full now.so_far) full (c.is_open.ensures (text ++ now.more) now.sees)
