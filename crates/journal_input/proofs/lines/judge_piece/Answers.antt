use Rattle.std.proofs.Common.{◌≡◌, ◌++◌, ℕ, List, [], Some, sym, ◌∙◌, arith}
use Rattle.std.proofs.lemmas.Bool.{true≢false}
use Rattle.osm_base.specs.Parts.{parted}
use Rattle.journal_input.specs.Going.{Stands, LinesFail}
use Rattle.line_text.proofs.Cuts.{cut_shorter}
use Rattle.journal_input.proofs.Exits.{at_exit}
use Rattle.journal_input.proofs.LinesLemmas.{piece_closes, piece_comes, piece_goes, line_goes, line_fails}
use Rattle.journal_input.proofs.lines.judge_piece.Goals as goal

pub ends-init : goal.ends-init
ends-init g c = (λ bytes stands. piece_comes c.args.version bytes c.args.piece.now (g.K.Keeper.kept c.args.keeper.now) c.args.lines.now stands, omega arith)

pub ends-preserved : goal.ends-preserved
ends-preserved g c =
    let rest = c.ends.rest.now in
    let end = c.in-Some.end.now in
    let left = c.in-Some.behind.now in
    let cut : parted 10 rest ≡ Some (end, left) = sym c.in-Some.ensures in
    let done = c.in_ok-judge_line.ensures in (
      λ bytes stands.
          line_goes c.args.version (c.lines_are_read_in_turn.ensures.more c.args.version) (bytes ++ c.args.piece.now) (g.K.Keeper.kept c.ends.keeper) (g.K.Keeper.kept c.judge_line.new.keeper)
          c.ends.lines c.judge_line.new.lines rest end left (c.ends.invariant.0 bytes stands) cut done.ok done.alone done.next done.number,
      omega (arith, cut_shorter 10 rest end left cut, done.number, c.ends.invariant.1),
    )

pub ends-smaller : goal.ends-smaller
ends-smaller g c = cut_shorter 10 c.ends.rest.now c.in-Some.end.now c.in-Some.behind.now (sym c.in-Some.ensures)

pub judge_line-requires : goal.judge_line-requires
judge_line-requires g c = omega (arith, c.ends.invariant.1, c.requires)

pub returns-in_err-judge_line-clause-fault : goal.returns-in_err-judge_line-clause-fault
returns-in_err-judge_line-clause-fault g c =
    let why = c.in_err-judge_line.field-0.0 in
    let kept = g.K.Keeper.kept c.ends.keeper in
    at_exit (λ f. (bytes : List ℕ) → Stands c.args.version bytes (g.K.Keeper.kept c.args.keeper.now) c.args.lines.now [] → LinesFail c.args.version f (bytes ++ c.args.piece.now))
    c.from_residual-in_err-judge_line.result why c.from_residual-in_err-judge_line.ensures.1
    (λ bytes stands. line_fails c.args.version c.lines_are_plain.ensures.begins c.lines_are_plain.ensures.one (c.lines_are_read_in_turn.ensures.fault c.args.version) why
    (bytes ++ c.args.piece.now) kept c.ends.lines c.ends.rest.now c.in-Some.end.now c.in-Some.behind.now (c.ends.invariant.0 bytes stands) (sym c.in-Some.ensures)
    (sym c.is_at_gate.ensures ∙ c.ends-test.true) c.in_err-judge_line.ensures.fault)

pub returns-in_default-clause-whole : goal.returns-in_default-clause-whole
returns-in_default-clause-whole g c =
    λ is bytes stands. piece_goes c.args.version (bytes ++ c.args.piece.now) (g.K.Keeper.kept c.ends.keeper) c.ends.lines c.begin.new.lines c.ends.rest.now
    (c.ends.invariant.0 bytes stands) (sym c.in_default.ensures) c.in_ok-begin.ensures.begun c.begin.ensures.number (sym c.is_at_gate.ensures ∙ c.ends-test.true)

pub returns-in_default-clause-gate : goal.returns-in_default-clause-gate
returns-in_default-clause-gate g c = λ is. absurd (true≢false (sym is))

pub returns-clause-whole : goal.returns-clause-whole
returns-clause-whole g c = λ is. absurd (true≢false is)

pub returns-clause-gate : goal.returns-clause-gate
returns-clause-gate g c =
    λ is bytes stands. piece_closes c.args.version (bytes ++ c.args.piece.now) (g.K.Keeper.kept c.ends.keeper) c.ends.lines c.ends.rest.now
    (c.ends.invariant.0 bytes stands) (sym c.is_at_gate.ensures ∙ c.ends-test.false)
