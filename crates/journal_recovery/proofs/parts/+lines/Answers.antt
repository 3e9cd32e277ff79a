use Rattle.journal_recovery.proofs.Exits.{at_fault, at_both, of_ok, of_err}
use Rattle.journal_file.specs.Whole.{packed}
use Rattle.journal_recovery.proofs.Packed.{joined_packed, refused_front_packed, refused_back_packed}
use Rattle.journal_recovery.proofs.parts.+lines.Goals as goal

pub returns-in_err-entries : goal.returns-in_err-entries
returns-in_err-entries g t c =
    let law = c.text_law.ensures in
    let lines = g.T.Lines.lines in
    let is_entry = g.T.KeptText.is_entry in
    let front = c.in-Some.front.now in
    let fault = c.in_err-entries.field-0.0 in
    at_fault lines is_entry (packed c.args.text.now) c.from_residual.result (λ v. v.items) fault c.from_residual.ensures.1
    (λ told.
    refused_front_packed g.T.KeptText.line lines is_entry law.lines law.one c.args.text.now front c.in-Some.back.now c.in-Some.ensures
    (of_err lines is_entry (packed front) c.join-first.result.0 (λ v. v.items) fault c.in_err-entries.was c.join-first.ensures.first told))

pub returns-in_err-rest : goal.returns-in_err-rest
returns-in_err-rest g t c =
    let law = c.text_law.ensures in
    let lines = g.T.Lines.lines in
    let is_entry = g.T.KeptText.is_entry in
    let back = c.in-Some.back.now in
    let fault = c.in_err-rest.field-0.0 in
    at_fault lines is_entry (packed c.args.text.now) c.from_residual-in_err-rest.result (λ v. v.items) fault c.from_residual-in_err-rest.ensures.1
    (λ told.
    refused_back_packed g.T.KeptText.line lines is_entry law.lines law.one c.args.text.now c.in-Some.front.now back c.in-Some.ensures
    (of_err lines is_entry (packed back) c.join-first.result.1 (λ v. v.items) fault c.in_err-rest.was c.join-first.ensures.second told))

pub returns : goal.returns
returns g t c =
    let law = c.text_law.ensures in
    let lines = g.T.Lines.lines in
    let is_entry = g.T.KeptText.is_entry in
    let front = c.in-Some.front.now in
    let back = c.in-Some.back.now in
    let entries = c.in_ok-entries.entries in
    let rest = c.in_ok-rest.rest in
    at_both lines is_entry (packed c.args.text.now) c.together.result (λ v. v.items) entries.items rest.items
    (λ all is.
    joined_packed g.T.KeptText.line lines is_entry law.lines c.args.text.now front back entries.items rest.items all c.in-Some.ensures
    (of_ok lines is_entry (packed front) c.join-first.result.0 (λ v. v.items) entries c.in_ok-entries.was c.join-first.ensures.first)
    (of_ok lines is_entry (packed back) c.join-first.result.1 (λ v. v.items) rest c.in_ok-rest.was c.join-first.ensures.second)
    is)
    c.together.ensures.ok c.together.ensures.err
