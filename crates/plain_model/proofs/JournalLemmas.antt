-- A journal stays legal, and its state its replay, where an accepted command is appended.
use Rattle.std.proofs.Common.{◌≡◌, ℕ, zero, suc, ◌+◌, Bool, true, false, List, [], ◌∷◌, ◌++◌, take, Some, Ok, refl, sym, ap, ◌∙◌, subst, append-nil, append_assoc, arith}
use Rattle.std.specs.Prelude.{Result, slice_get, is_ok, fold, ◌&&◌, ◌==◌}
use Rattle.std.proofs.lemmas.Bool.{eqb-true}
use Rattle.std.proofs.lemmas.Bool.Decides.{nat_tests}
use Rattle.std.proofs.lemmas.List.Sums.{fold-append}
use Rattle.osm_base.specs.Stamp.{stamp_after}
use Rattle.osm_element.specs.Elements.{IsConsistent}
use Rattle.osm_element.specs.Later.{Keeps}
use Rattle.osm_change.specs.declared.refusals.Refusal.{Refusal}
use Rattle.osm_model.specs.declared.commands.Entry.{Entry}
use Rattle.osm_model.specs.declared.states.State.{State}
use Rattle.plain_model.specs.declared.journals.Kept.{Kept}
use Rattle.osm_model.specs.State.{empty}
use Rattle.osm_model.specs.Act.{Effect, judge, settle}
use Rattle.plain_model.specs.Alteration.{state_after, effect}
use Rattle.osm_model.specs.Journal.{IsLegal, is_legal_from, is_numbered, takes, calls_of, replay, after}
use Rattle.plain_model.specs.Judgement.{IsJournal, IsKeptOn}
use Rattle.osm_model.proofs.Advances.{judge-advances}

and-both : (a b : Bool) → a ≡ true → b ≡ true → (a && b) ≡ true
and-both true true p q = refl
and-both true false p q = q
and-both false b p q = p

and-first : (a b : Bool) → (a && b) ≡ true → a ≡ true
and-first true b both = refl
and-first false b both = both

and-second : (a b : Bool) → (a && b) ≡ true → b ≡ true
and-second true b both = both
and-second false b both = cc

same_number : (a b : ℕ) → a ≡ b → (a == b) ≡ true
same_number a b e = grind (arith, nat_tests)

-- ---- entries that are taken

-- the state after an entry that is taken
after-taken :
    (P : State) (e : Entry) (done : Effect)
    → takes P e ≡ true
    → judge P e.user e.stamp e.command ≡ Ok done
    → after P e ≡ record done.state { last = e.stamp }
after-taken P e done taken accepted =
    let stamped : stamp_after P.last e.stamp ≡ e.stamp =
    eqb-true (stamp_after P.last e.stamp) e.stamp (and-second (is_ok (judge P e.user e.stamp e.command)) (stamp_after P.last e.stamp == e.stamp) taken)
    in
    ap (λ (t : ℕ). (settle P t (judge P e.user t e.command)).0) stamped
    ∙ ap (λ (judged : Result Effect Refusal). (settle P e.stamp judged).0) accepted

-- ---- one entry more

pub replay-push : (es : List Entry) (e : Entry) → replay (es ++ e ∷ []) ≡ after (replay es) e
replay-push es e = fold-append after empty es (e ∷ [])

legal-push : (P : State) (es : List Entry) (e : Entry) → is_legal_from P es ≡ true → takes (fold after P es) e ≡ true → is_legal_from P (es ++ e ∷ []) ≡ true
legal-push P [] e legal taken = and-both (takes P e) true taken refl
legal-push P (x ∷ es) e legal taken =
    and-both
    (takes P x)
    (is_legal_from (after P x) (es ++ e ∷ []))
    (and-first (takes P x) (is_legal_from (after P x) es) legal)
    (legal-push (after P x) es e (and-second (takes P x) (is_legal_from (after P x) es) legal) taken)

numbered-push :
    (before es : List Entry) (e : Entry)
    → is_numbered before es ≡ true
    → e.call ≡ calls_of e.session (before ++ es) + 1
    → is_numbered before (es ++ e ∷ []) ≡ true
numbered-push before [] e numbered next =
    and-both
    (e.call == calls_of e.session before + 1)
    true
    (same_number e.call (calls_of e.session before + 1) (next ∙ ap (λ (xs : List Entry). calls_of e.session xs + 1) (append-nil before)))
    refl
numbered-push before (x ∷ es) e numbered next =
    and-both
    (x.call == calls_of x.session before + 1)
    (is_numbered (before ++ x ∷ []) (es ++ e ∷ []))
    (and-first (x.call == calls_of x.session before + 1) (is_numbered (before ++ x ∷ []) es) numbered)
    (numbered-push (before ++ x ∷ []) es e
    (and-second (x.call == calls_of x.session before + 1) (is_numbered (before ++ x ∷ []) es) numbered)
    (next ∙ ap (λ (xs : List Entry). calls_of e.session xs + 1) (sym (append_assoc before (x ∷ []) es))))

-- what may follow the entries may be appended
pub IsLegal-push :
    (es : List Entry) (e : Entry)
    → IsLegal es
    → takes (replay es) e ≡ true
    → e.call ≡ calls_of e.session es + 1
    → IsLegal (es ++ e ∷ [])
IsLegal-push es e legal taken numbered = record {
  taken = legal-push empty es e legal.taken taken;
  numbered = numbered-push [] es e legal.numbered numbered;
}

-- ---- the number of an entry

-- the call of the entry at a place is how many calls its session has before it, and one
pub numbered-at :
    (before es : List Entry) (n : ℕ) (e : Entry)
    → is_numbered before es ≡ true
    → slice_get es n ≡ Some e
    → e.call ≡ calls_of e.session (before ++ take n es) + 1
numbered-at before [] n e numbered found = cc
numbered-at before (x ∷ es) zero e numbered found =
    let same : x ≡ e = cc in
    subst
    (λ (y : Entry). y.call ≡ calls_of y.session (before ++ []) + 1)
    same
    (eqb-true x.call (calls_of x.session before + 1) (and-first (x.call == calls_of x.session before + 1) (is_numbered (before ++ x ∷ []) es) numbered)
    ∙ ap (λ (xs : List Entry). calls_of x.session xs + 1) (sym (append-nil before)))
numbered-at before (x ∷ es) (suc n) e numbered found =
    numbered-at (before ++ x ∷ []) es n e (and-second (x.call == calls_of x.session before + 1) (is_numbered (before ++ x ∷ []) es) numbered) found
    ∙ ap (λ (xs : List Entry). calls_of e.session xs + 1) (append_assoc before (x ∷ []) (take n es))

-- ---- a journal

-- the map that the entries make is consistent
pub replay_consistent : (es : List Entry) (P : State) → P ≡ replay es → IsConsistent P.elements → IsConsistent (replay es).elements
replay_consistent es P same consistent = subst (λ (Q : State). IsConsistent Q.elements) same consistent

-- what was judged on a journal makes a journal of it
pub keeps :
    (es : List Entry) (P Q : State) (k : Kept)
    → IsJournal es P
    → IsKeptOn es k
    → Q ≡ state_after P k.alteration
    → IsJournal (es ++ k.entry ∷ []) (record Q { last = k.entry.stamp })
keeps es P Q k journal on altered =
    let same : P ≡ replay es = journal.replayed in
    let now : Q ≡ state_after (replay es) k.alteration = altered ∙ ap (λ (p : State). state_after p k.alteration) same in
    let kept : Keeps (replay es).elements (state_after (replay es) k.alteration).elements =
    (judge-advances (replay es) k.entry.user k.entry.stamp k.entry.command (effect (replay es) k.alteration on.answer) on.judged).kept
    in
    let held : Keeps P.elements Q.elements =
    subst (λ (q : State). Keeps P.elements q.elements) (sym now) (subst (λ (p : State). Keeps p.elements (state_after (replay es) k.alteration).elements) (sym same) kept)
    in
    record {
      legal = IsLegal-push es k.entry journal.legal on.taken on.numbered;
      replayed = ap (λ (q : State). record q { last = k.entry.stamp }) now
          ∙ sym (replay-push es k.entry ∙ after-taken (replay es) k.entry (effect (replay es) k.alteration on.answer) on.taken on.judged);
      consistent = held.consistent journal.consistent;
      begun = held.begun journal.begun;
    }
