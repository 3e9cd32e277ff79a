use Rattle.std.proofs.Common.{◌≡◌, ◌∙◌, List, ℕ, [], length, sym, subst, arith, rules}
use Rattle.journal_text.specs.Faults.{LacksHeader}
use Rattle.journal_text.specs.Text.{header}
use Rattle.journal_text.specs.declared.versions.Version.TheVariants.{Two}
use Rattle.journal_input.specs.Place.{Sees}
use Rattle.journal_input.proofs.Ends.{short_input, whole_front, header_fails}
use Rattle.journal_input.proofs.Exits.{read_exit}
use Rattle.journal_input.proofs.Places.{sees_nothing}
use Rattle.journal_input.proofs.SoFarLemmas.{stops_is_fault}
use Rattle.journal_input.proofs.input.read_entries.Goals as goal

pub returns-in_err-front : goal.returns-in_err-front
returns-in_err-front g c =
    let why = c.in_err-front.field-0.0 in
    read_exit c.from_residual-in_err-front.result why _ _ _ c.from_residual-in_err-front.ensures.1 (stops_is_fault why _ _ c.in_err-front.ensures.fault)

pub returns-in-Some : goal.returns-in-Some
returns-in-Some g c =
    c.read_lines.ensures _ (whole_front c.in-Some.version _ _ _ _ c.in_ok-front.ensures.front (sym c.as_slice.ensures.value ∙ c.in-Some.ensures.some))

pub returns-then-len : goal.returns-then-len
returns-then-len g c =
    short_input _ _ c.in_ok-front.front.items c.in_ok-front.ensures.front
    (first_of (omega (arith, c.if-len.true, c.len.ensures, c.in_ok-front.front.ok), search arith, search (arith, rules)))

pub returns : goal.returns
returns g c =
    let front = c.in_ok-front.front.items in
    let is = c.in_ok-front.ensures.front in
    let within = is.within in
    let size : length front ≡ length (header Two) = first_of (omega (arith, within, c.if-len.false, c.len.ensures, c.in_ok-front.front.ok), search (arith, within)) in
    let lacks : LacksHeader front = subst LacksHeader c.as_slice.ensures.value (c.in_default.ensures.none (search rules)) in
    c.refuse.ensures _ front (is.whole size) (first_of (search arith, omega (arith, c.len-else-len.ensures, c.in_ok-front.front.ok))) (subst (λ (t : List ℕ). Sees c.behind-place.result t) c.deref.ensures.value (c.behind-place.ensures [] sees_nothing)) (header_fails front size lacks)
