use Rattle.std.proofs.Common.{◌+◌, ◌<◌, ◌≤◌, ◌++◌, length, arith, rules, length-take, subst, sym}
use Rattle.std.proofs.lemmas.Grind.{common_steps}
use Rattle.std.proofs.lemmas.List.{take-append-le}
use Rattle.journal_text.specs.Text.{header}
use Rattle.journal_text.specs.declared.limits.TheConstants.{TEXT_LIMIT}
use Rattle.journal_input.specs.declared.faults.InputFault.TheVariants.{Failed, Text}
use Rattle.journal_input.specs.declared.gate.Place.{Place}
use Rattle.journal_input.specs.Place.{Sees}
use Rattle.journal_input.proofs.Ends.{all_read, closed_read, closed_there, left_open, long_stands, stands_there}
use Rattle.journal_input.proofs.Exits.{read_exit}
use Rattle.journal_input.proofs.Goes.{closes_there, gone_on, fails_there}
use Rattle.journal_input.proofs.SoFarLemmas.{ended_at, at_limit, failed}
use Rattle.journal_input.proofs.input.read_lines.Goals as goal

pub returns-in_err-more : goal.returns-in_err-more
returns-in_err-more g c =
    λ before so_far.
    let gone = c.pieces.invariant.0 before so_far in
    read_exit c.from_residual.result Failed before _ _ c.from_residual.ensures.1
    (failed before _ _ _ gone.so_far c.in_err-more.ensures.nothing_read (c.in_err-more.ensures.failed (search rules)))

pub returns-in_err-end : goal.returns-in_err-end
returns-in_err-end g c =
    λ before so_far.
    let gone = c.pieces.invariant.0 before so_far in
    let size = gone.size in
    let why = c.in_err-end.field-0.0 in
    let within : length (header c.args.version ++ gone.bytes) ≤ TEXT_LIMIT = omega (arith, size, c.pieces-test.true) in
    read_exit c.from_residual-in_err-end.result (Text why) before _ _ c.from_residual-in_err-end.ensures.1
    (left_open c.args.version c.lines_are_plain.ensures.begins c.lines_are_plain.ensures.one (c.lines_are_read_in_turn.ensures.open c.args.version) before _ gone.bytes (g.K.Keeper.kept c.pieces.keeper) c.pieces.lines why
    (ended_at before _ _ (header c.args.version ++ gone.bytes) _ c.in_ok-more.more (omega (arith, c.if-more-eq0.true)) gone.so_far c.in_ok-more.ensures.piece)
    within gone.stands c.in_err-end.ensures.some c.in_err-end.ensures.fault)

pub returns-then-more-eq0 : goal.returns-then-more-eq0
returns-then-more-eq0 g c =
    λ before so_far.
    let gone = c.pieces.invariant.0 before so_far in
    let size = gone.size in
    let within : length (header c.args.version ++ gone.bytes) ≤ TEXT_LIMIT = omega (arith, size, c.pieces-test.true) in
    all_read c.args.version c.lines_are_plain.ensures.begins c.lines_are_plain.ensures.one (c.lines_are_read_in_turn.ensures.end c.args.version) before _ gone.bytes (g.K.Keeper.kept c.pieces.keeper) c.pieces.lines
    (ended_at before _ _ (header c.args.version ++ gone.bytes) _ c.in_ok-more.more (omega (arith, c.if-more-eq0.true)) gone.so_far c.in_ok-more.ensures.piece)
    within gone.stands c.in_ok-end.ensures.none

pub returns-in-Err : goal.returns-in-Err
returns-in-Err g c =
    λ before so_far.
    let gone = c.pieces.invariant.0 before so_far in
    fails_there c.args.version before _ _ _ _ _ _ c.pieces.count c.in_ok-more.more c.in-Err.fault c.place-begun.result _ _ gone (omega (arith, c.if-more-eq0.false)) c.in_ok-more.ensures.piece
    (c.in-Err.ensures.fault gone.bytes gone.stands)
    (subst (λ (p : Place). Sees p (header c.args.version ++ gone.bytes)) (sym c.place-begun.ensures)
    (stands_there c.args.version c.lines_are_plain.ensures.begins c.lines_are_plain.ensures.one gone.bytes (g.K.Keeper.kept c.pieces.keeper) c.pieces.lines gone.stands))
    c.behind-place.ensures (c.refuse.ensures before)
    (take-append-le c.in_ok-more.more c.read_piece.new.room _ c.in_ok-more.ensures.count)

pub returns-in_err-_is_long-in-Ok-true : goal.returns-in_err-_is_long-in-Ok-true
returns-in_err-_is_long-in-Ok-true g c =
    λ before so_far.
    let gone = c.pieces.invariant.0 before so_far in
    read_exit c.from_residual-in_err-_is_long-in-Ok-true.result Failed before _ _ c.from_residual-in_err-_is_long-in-Ok-true.ensures.1
    (closes_there c.args.version before _ _ _ _ c.pieces.lines _ _ c.pieces.count c.in_ok-more.more _ gone (omega (arith, c.if-more-eq0.false)) c.in_ok-more.ensures.piece
    (λ bytes read size closes.
    c.in_err-_is_long-in-Ok-true.ensures before (header c.args.version ++ bytes) read size
    (closed_there c.args.version c.lines_are_plain.ensures.begins c.lines_are_plain.ensures.one bytes _ closes))
    (c.in-Ok-true.ensures.gate c.in-Ok-true.field-0-test gone.bytes gone.stands)
    (take-append-le c.in_ok-more.more c.read_piece.new.room _ c.in_ok-more.ensures.count))

pub returns-in-Ok-true : goal.returns-in-Ok-true
returns-in-Ok-true g c =
    λ before so_far.
    let gone = c.pieces.invariant.0 before so_far in
    let count = c.in_ok-more.ensures.count in
    let within : c.pieces.count + c.in_ok-more.more ≤ TEXT_LIMIT + 1 =
    first_of (grind (arith, common_steps), omega (arith, count, simp length-take at c.read_piece.auto.room, c.min-most.ensures, c.pieces-test.true)) in
    closes_there c.args.version before _ _ _ _ c.pieces.lines _ _ c.pieces.count c.in_ok-more.more _ gone (omega (arith, c.if-more-eq0.false)) c.in_ok-more.ensures.piece
    (λ bytes read size closes.
    let rest =
    c.in_ok-_is_long-in-Ok-true.ensures before (header c.args.version ++ bytes) read size
    (closed_there c.args.version c.lines_are_plain.ensures.begins c.lines_are_plain.ensures.one bytes _ closes) in
    closed_read c.args.version c.lines_are_plain.ensures.begins c.lines_are_plain.ensures.one (c.lines_are_read_in_turn.ensures.end c.args.version) before _ bytes rest.more _ rest.input
    (omega (arith, size, within)) closes)
    (c.in-Ok-true.ensures.gate c.in-Ok-true.field-0-test gone.bytes gone.stands)
    (take-append-le c.in_ok-more.more c.read_piece.new.room _ count)

pub pieces-preserved : goal.pieces-preserved
pieces-preserved g c =
    let count = c.in_ok-more.ensures.count in
    let number = c.in-Ok-false.ensures.number in (
      λ before so_far.
          let gone = c.pieces.invariant.0 before so_far in
          gone_on c.args.version before _ _ _ _ _ _ _ _ c.pieces.count c.in_ok-more.more gone (omega (arith, c.if-more-eq0.false)) c.in_ok-more.ensures.piece
          (c.in-Ok-false.ensures.whole c.in-Ok-false.field-0-test gone.bytes gone.stands)
          (take-append-le c.in_ok-more.more c.read_piece.new.room _ count),
      first_of (grind (arith, common_steps), omega (arith, count, simp length-take at c.read_piece.auto.room, c.min-most.ensures, c.pieces-test.true)),
      first_of (omega (arith, c.pieces.invariant.2, simp length-take at number), grind (arith, common_steps)),
    )

pub returns : goal.returns
returns g c =
    λ before so_far.
    let gone = c.pieces.invariant.0 before so_far in
    let over : TEXT_LIMIT < c.pieces.count = c.pieces-test.false in
    let within : c.pieces.count ≤ TEXT_LIMIT + 1 = c.pieces.invariant.1 in
    let all = gone.size in
    long_stands c.args.version c.lines_are_plain.ensures.begins c.lines_are_plain.ensures.one before _ gone.bytes (g.K.Keeper.kept c.pieces.keeper) c.pieces.lines
    (at_limit before _ _ (omega (arith, all, over, within)) gone.so_far) (omega (arith, all, over)) gone.stands
