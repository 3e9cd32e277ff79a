use Rattle.std.proofs.Common.{◌<◌, length, arith, length-take}
use Rattle.std.proofs.lemmas.Grind.{common_steps}
use Rattle.journal_text.specs.Text.{header}
use Rattle.journal_text.specs.declared.versions.Version.TheVariants.{Two}
use Rattle.journal_input.specs.Going.{Stops}
use Rattle.journal_input.proofs.Exits.{at_exit}
use Rattle.journal_input.proofs.SoFarLemmas.{one_more, fills_length, front_ended, stops_later}
use Rattle.journal_input.proofs.front.read_front.Goals as goal

pub returns-in_err-count-clause-fault : goal.returns-in_err-count-clause-fault
returns-in_err-count-clause-fault g c =
    let why = c.in_err-count.field-0.0 in
    at_exit (λ e. Stops e (g.S.Outside.told c.args.source.now) (g.S.Outside.told c.read_behind.new.source))
    c.from_residual-in_err-count.result why c.from_residual-in_err-count.ensures.1
    (stops_later why _ _ _ _ c.reads.invariant.0 c.in_err-count.ensures.fault)

pub returns-then-count-eq0-clause-front : goal.returns-then-count-eq0-clause-front
returns-then-count-eq0-clause-front g c =
    let short : length c.reads.front.items < length (header Two) = first_of (grind (arith, common_steps), search arith) in
    front_ended _ _ _ _ _ c.in_ok-count.count (omega (arith, c.if-count-eq0.true)) short c.reads.invariant.0 c.in_ok-count.ensures.filled

pub reads-preserved : goal.reads-preserved
reads-preserved g c =
    let so_far = c.reads.invariant.0 in
    let filled = c.in_ok-count.ensures.filled in
    let size = fills_length _ _ _ _ _ filled in
    let count = c.in_ok-count.ensures.count in (
      one_more _ _ _ _ _ c.in_ok-count.count (omega (arith, c.if-count-eq0.false)) so_far filled,
      first_of (grind (arith, common_steps), omega (arith, size, simp length-take at count, c.reads.invariant.1)),
    )
