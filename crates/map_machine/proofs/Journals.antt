-- What the map's book keeps is a journal of the map, and a commit does what a command does to it.
use Rattle.std.proofs.Common.{◌≡◌, ℕ, ◌+◌, ◌≤◌, ◌&&◌, ◌==◌, Bool, true, length, List, [], ◌∷◌, ◌++◌, Result, Ok, Err, sym, refl, ap, ◌∙◌}
use Rattle.std.proofs.lemmas.List.Sums.{count_by-le-length}
use Rattle.hub_core.specs.Journal.{IsJournal, extended, is_numbered as numbered_by}
use Rattle.machine_law.specs.Rules.{is_legal, is_legal_from as legal_by}
use Rattle.osm_base.specs.declared.people.User.{User}
use Rattle.osm_change.specs.declared.refusals.Refusal.{Refusal}
use Rattle.osm_model.specs.Act.{Effect, judge}
use Rattle.osm_model.specs.Answered.{stamp_on}
use Rattle.osm_model.specs.Journal.{IsLegal, is_legal_from, is_numbered, takes, after, replay, calls_of, entry_of, appended, journal_after}
use Rattle.osm_model.specs.State.{empty}
use Rattle.osm_model.specs.declared.commands.Command.{Command}
use Rattle.osm_model.specs.declared.commands.Entry.{Entry}
use Rattle.osm_model.specs.declared.states.State.{State}
use Rattle.map_machine.specs.Machine.{map_rules, tag_of, entry_if}

legal_same : (P : State) (es : List Entry) → legal_by map_rules P es ≡ is_legal_from P es
legal_same P [] = refl
legal_same P (e ∷ es) = ap (λ (b : Bool). takes P e && b) (legal_same (after P e) es)

numbered_same : (before es : List Entry) → numbered_by tag_of before es ≡ is_numbered before es
numbered_same before [] = refl
numbered_same before (e ∷ es) = ap (λ (b : Bool). (e.call == calls_of e.session before + 1) && b) (numbered_same (before ++ e ∷ []) es)

-- what is legal by the machine's rules is legal by the map's
pub legal_front : (es : List Entry) → is_legal map_rules es ≡ true → is_legal_from empty es ≡ true
legal_front es legal = sym (legal_same empty es) ∙ legal

-- a book's journal is legal
pub legal_of : (es : List Entry) → IsJournal map_rules es → IsLegal es
legal_of es kept = record {
  taken = legal_front es kept.legal;
  numbered = sym (numbered_same [] es) ∙ kept.numbered;
}

-- a session has no more calls than there are entries
pub calls_within : (session : ℕ) (es : List Entry) → calls_of session es ≤ length es
calls_within session es = count_by-le-length (λ (e : Entry). e.session == session) es

extended-if : (es : List Entry) (e : Entry) (judged : Result Effect Refusal) → extended es (entry_if judged e) ≡ appended es e judged
extended-if es e (Ok done) = refl
extended-if es e (Err r) = refl

-- the journal with the entry of a command's next call
pub extended_after :
    (es : List Entry) (session call : ℕ) (user : User) (moment : ℕ) (c : Command)
    → call ≡ calls_of session es + 1
    → extended es (entry_if (judge (replay es) user (stamp_on (replay es) moment) c) (entry_of (replay es) session call user moment c))
    ≡ journal_after es session user moment c
extended_after es session call user moment c next =
    let judged : Result Effect Refusal = judge (replay es) user (stamp_on (replay es) moment) c in
    extended-if es (entry_of (replay es) session call user moment c) judged
    ∙ ap (λ (n : ℕ). appended es (entry_of (replay es) session n user moment c) judged) next
