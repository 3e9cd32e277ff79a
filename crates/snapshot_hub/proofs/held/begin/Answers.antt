use Rattle.std.proofs.Common.{◌≡◌, ℕ, ◌∙◌, ap, sym, subst}
use Rattle.std.specs.Prelude.{slice_get, IfSome}
use Rattle.hub_core.specs.Journal.{calls_of, IsJournal}
use Rattle.snapshot_hub.specs.Closings.{AreSeated}
use Rattle.snapshot_hub.specs.Known.{returner}
use Rattle.snapshot_hub.proofs.held.begin.Goals as goal

pub begin-requires-clause-kept : goal.begin-requires-clause-kept
begin-requires-clause-kept g c =
    let rules = g.M.Machine.rules in
    let same = sym c.journal-entries.ensures.journal in
    let book = sym (c.journal-entries.ensures.journal ∙ c.into_parts-journal.ensures.journal) in record {
      kept = subst (λ l. IsJournal rules l) same c.journal-entries.ensures.kept;
      seated = subst (λ l. AreSeated rules.tag_of g.N.HubName.sessions l) book c.requires.own;
    }

pub invariant_of-held : goal.invariant_of-held
invariant_of-held g c =
    let printed = ap (λ p. p.journal) c.in_ok-press.ensures in
    let same : c.into_parts-journal.result.0 ≡ c.in_ok-press.press.journal = sym (printed ∙ c.journal-entries.ensures.journal) in
    (same, subst (λ l. AreSeated g.M.Machine.rules.tag_of g.N.HubName.sessions l) (sym c.into_parts-journal.ensures.journal ∙ same) c.requires.own)

pub returns-clause-back : goal.returns-clause-back
returns-clause-back g c =
    subst (λ j. (number : ℕ) → IfSome (slice_get c.in_ok-sessions.sessions.items number) (λ s. s ≡ returner number j (calls_of g.M.Machine.rules.tag_of number j)))
    c.into_parts-journal.ensures.journal c.in_ok-sessions.ensures.back
