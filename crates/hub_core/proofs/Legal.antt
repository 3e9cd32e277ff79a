-- What is legal is so in each of its parts, and goes on with an entry that may come next.
use Rattle.std.proofs.Common.{◌≡◌, ◌+◌, true, List, [], ◌∷◌, ◌++◌, fold, refl, sym, subst}
use Rattle.std.proofs.lemmas.List.Sums.{fold-append, fold_push}
use mathlib.Core.List.{IsPrefix}
use Rattle.machine_law.specs.Rules.{Rules, replay, is_legal_from, is_legal, Later}
use Rattle.hub_core.specs.Journal.{calls_of, IsJournal}
use Rattle.hub_core.proofs.Numbers.{both_true, numbered_push}

module _ {S C Q P E K : Type 0} (rules : Rules S C Q P E K) where
  -- the parts of a legal list, at its first entry
  pub legal_head : (s : S) (e : E) (es : List E) → is_legal_from rules s (e ∷ es) ≡ true → (rules.takes s e ≡ true) × (is_legal_from rules (rules.after s e) es ≡ true)
  legal_head s e es h = both_true (rules.takes s e) (is_legal_from rules (rules.after s e) es) h

  pub legal_push : (s : S) (xs : List E) (e : E) → is_legal_from rules s xs ≡ true → rules.takes (fold rules.after s xs) e ≡ true → is_legal_from rules s (xs ++ e ∷ []) ≡ true
  legal_push s [] e h t = rw t refl
  legal_push s (x ∷ xs) e h t = let p = legal_head s x xs h in rw p.0 (legal_push (rules.after s x) xs e p.1 t)

  pub legal_rest : (s : S) (xs ys : List E) → is_legal_from rules s (xs ++ ys) ≡ true → is_legal_from rules (fold rules.after s xs) ys ≡ true
  legal_rest s [] ys h = h
  legal_rest s (x ∷ xs) ys h = let p = legal_head s x (xs ++ ys) h in legal_rest (rules.after s x) xs ys p.1

  -- a beginning of a legal list leaves an earlier state
  pub later_replay : (made all : List E) → IsPrefix made all → is_legal rules all ≡ true → Later rules (replay rules made) (replay rules all)
  later_replay made all p legal = record {
    since = p.0;
    taken = legal_rest rules.start made p.0 (subst (λ (l : List E). is_legal rules l ≡ true) (sym p.1) legal);
    comes_to = subst (λ (l : List E). replay rules l ≡ fold rules.after (replay rules made) p.0) p.1 (fold-append rules.after rules.start made p.0);
  }

  -- an entry that may come next makes a journal of a journal
  pub journal_push : ((s : S) (e : E) → rules.takes s e ≡ true → rules.consistent s → rules.consistent (rules.after s e))
      → (xs : List E) (e : E) → IsJournal rules xs → rules.takes (replay rules xs) e ≡ true → (rules.tag_of e).call ≡ calls_of rules.tag_of (rules.tag_of e).session xs + 1
      → IsJournal rules (xs ++ e ∷ [])
  journal_push keeps xs e kept taken next = record {
    legal = legal_push rules.start xs e kept.legal taken;
    numbered = numbered_push rules.tag_of [] xs e kept.numbered next;
    consistent = subst rules.consistent (sym (fold_push rules.after rules.start xs e)) (keeps (replay rules xs) e taken kept.consistent);
  }
