-- Whether an entry may follow others.
use Rattle.std.proofs.Common.{◌≡◌, ◌+◌, true, false, ◌&&◌, List, [], ◌∷◌, ◌++◌, refl, sym, ap, ◌∙◌, append_assoc, append-nil}
use Rattle.std.specs.Prelude.{fold, ◌==◌}
use Rattle.std.proofs.lemmas.Bool.{and_parts, and_from, eqb-true, eq-eqb, true≢false}
use Rattle.osm_model.specs.Journal.{IsLegal, is_legal_from, is_numbered, takes, calls_of, replay, after}
use Rattle.osm_model.specs.State.{empty}
use Rattle.osm_model.specs.declared.commands.Entry.{Entry}
use Rattle.osm_model.specs.declared.states.State.{State}
use Rattle.journal_text.specs.Kept.{may_follow}

taken_last : (P : State) (es : List Entry) (e : Entry) (more : List Entry) → is_legal_from P (es ++ e ∷ more) ≡ true → takes (fold after P es) e ≡ true
taken_last P [] e more legal = (and_parts (takes P e) (is_legal_from (after P e) more) legal).0
taken_last P (x ∷ es) e more legal = taken_last (after P x) es e more (and_parts (takes P x) (is_legal_from (after P x) (es ++ e ∷ more)) legal).1

numbered_last : (before es : List Entry) (e : Entry) (more : List Entry) → is_numbered before (es ++ e ∷ more) ≡ true → e.call ≡ calls_of e.session (before ++ es) + 1
numbered_last before [] e more numbered =
    eqb-true e.call (calls_of e.session before + 1) (and_parts (e.call == calls_of e.session before + 1) (is_numbered (before ++ e ∷ []) more) numbered).0
    ∙ ap (λ (xs : List Entry). calls_of e.session xs + 1) (sym (append-nil before))
numbered_last before (x ∷ es) e more numbered =
    numbered_last (before ++ x ∷ []) es e more (and_parts (x.call == calls_of x.session before + 1) (is_numbered (before ++ x ∷ []) (es ++ e ∷ more)) numbered).1
    ∙ ap (λ (xs : List Entry). calls_of e.session xs + 1) (append_assoc before (x ∷ []) es)

-- the last of a legal list may follow those before it
pub follows_last : (es : List Entry) (e : Entry) → IsLegal (es ++ e ∷ []) → may_follow es e ≡ true
follows_last es e legal =
    and_from (takes (replay es) e) (e.call == calls_of e.session es + 1) (taken_last empty es e [] legal.taken) (eq-eqb e.call (calls_of e.session es + 1) (numbered_last [] es e [] legal.numbered))

pub not_legal : (es : List Entry) (e : Entry) → may_follow es e ≡ false → IsLegal (es ++ e ∷ []) → ⊥
not_legal es e never legal = true≢false (sym (follows_last es e legal) ∙ never)

-- ---- an entry more

taken_more : (P : State) (es : List Entry) (e : Entry) → is_legal_from P es ≡ true → takes (fold after P es) e ≡ true → is_legal_from P (es ++ e ∷ []) ≡ true
taken_more P [] e legal taken = and_from (takes P e) true taken refl
taken_more P (x ∷ es) e legal taken =
    let both = and_parts (takes P x) (is_legal_from (after P x) es) legal in
    and_from (takes P x) (is_legal_from (after P x) (es ++ e ∷ [])) both.0 (taken_more (after P x) es e both.1 taken)

numbered_more : (before es : List Entry) (e : Entry) → is_numbered before es ≡ true → e.call ≡ calls_of e.session (before ++ es) + 1 → is_numbered before (es ++ e ∷ []) ≡ true
numbered_more before [] e numbered next =
    and_from (e.call == calls_of e.session before + 1) true (eq-eqb e.call (calls_of e.session before + 1) (next ∙ ap (λ (xs : List Entry). calls_of e.session xs + 1) (append-nil before))) refl
numbered_more before (x ∷ es) e numbered next =
    let both = and_parts (x.call == calls_of x.session before + 1) (is_numbered (before ++ x ∷ []) es) numbered in
    and_from (x.call == calls_of x.session before + 1) (is_numbered (before ++ x ∷ []) (es ++ e ∷ [])) both.0
    (numbered_more (before ++ x ∷ []) es e both.1 (next ∙ ap (λ (xs : List Entry). calls_of e.session xs + 1) (sym (append_assoc before (x ∷ []) es))))

pub legal_more : (es : List Entry) (e : Entry) → IsLegal es → may_follow es e ≡ true → IsLegal (es ++ e ∷ [])
legal_more es e legal may =
    let both = and_parts (takes (replay es) e) (e.call == calls_of e.session es + 1) may in
    record { taken = taken_more empty es e legal.taken both.0; numbered = numbered_more [] es e legal.numbered (eqb-true e.call (calls_of e.session es + 1) both.1) }

-- the entries in front are legal
legal_front : (P : State) (es more : List Entry) → is_legal_from P (es ++ more) ≡ true → is_legal_from P es ≡ true
legal_front P [] more legal = refl
legal_front P (e ∷ es) more legal =
    let both = and_parts (takes P e) (is_legal_from (after P e) (es ++ more)) legal in
    ap (λ b. b && is_legal_from (after P e) es) both.0 ∙ legal_front (after P e) es more both.1

numbered_front : (before es more : List Entry) → is_numbered before (es ++ more) ≡ true → is_numbered before es ≡ true
numbered_front before [] more numbered = refl
numbered_front before (e ∷ es) more numbered =
    let both = and_parts (e.call == calls_of e.session before + 1) (is_numbered (before ++ e ∷ []) (es ++ more)) numbered in
    ap (λ b. b && is_numbered (before ++ e ∷ []) es) both.0 ∙ numbered_front (before ++ e ∷ []) es more both.1

pub front_legal : (es more : List Entry) → IsLegal (es ++ more) → IsLegal es
front_legal es more legal = record { taken = legal_front empty es more legal.taken; numbered = numbered_front [] es more legal.numbered }
