-- Entries that are counted one after another.
use Rattle.std.proofs.Common.{◌≡◌, ◌+◌, ◌==◌, Bool, true, false, List, [], ◌∷◌, ◌++◌, reverse, refl, sym, ap, ◌∙◌, subst, append_assoc}
use Rattle.std.proofs.lemmas.Bool.{true≢false}
use Rattle.std.proofs.lemmas.List.{reverse-append, append-nil}
use Rattle.machine_law.specs.declared.tags.Tag.{Tag}
use Rattle.machine_law.specs.Rules.{Rules, replay, is_legal}
use Rattle.hub_core.specs.Journal.{calls_of, is_numbered}
use Rattle.snapshot_hub.proofs.Legal.{both_true, legal_next}

-- the next one is behind those before it
pub next_behind : {E : Type 0} → (all before left more : List E) (entry : E) → all ≡ before ++ reverse left → left ≡ more ++ entry ∷ [] → all ≡ before ++ entry ∷ reverse more
next_behind all before left more entry is next =
    is ∙ ap (λ l. before ++ reverse l) next ∙ ap (λ l. before ++ l) (reverse-append more (entry ∷ []))

-- and with it they are one more
pub one_behind : {E : Type 0} → (all before left more : List E) (entry : E) → all ≡ before ++ reverse left → left ≡ more ++ entry ∷ [] → all ≡ (before ++ entry ∷ []) ++ reverse more
one_behind all before left more entry is next =
    next_behind all before left more entry is next ∙ sym (append_assoc before (entry ∷ []) (reverse more))

module _ {E : Type 0} (tag_of : E → Tag) where
  abbrev pub is_turn : List E → E → Bool
  is_turn before e = (tag_of e).call == calls_of tag_of (tag_of e).session before + 1

  numbered_at : (before xs : List E) (e : E) (more : List E) → is_numbered tag_of before (xs ++ e ∷ more) ≡ true → is_turn (before ++ xs) e ≡ true
  numbered_at before [] e more h =
      rw append-nil (both_true (is_turn before e) (is_numbered tag_of (before ++ e ∷ []) more) h).0
  numbered_at before (x ∷ xs) e more h =
      let p = both_true (is_turn before x) (is_numbered tag_of (before ++ x ∷ []) (xs ++ e ∷ more)) h in
      subst (λ (l : List E). is_turn l e ≡ true) (append_assoc before (x ∷ []) xs) (numbered_at (before ++ x ∷ []) xs e more p.1)

  -- where it is not the next call of its session, they are not numbered
  pub never_numbered : (all before more : List E) (e : E) → all ≡ before ++ e ∷ more → is_turn before e ≡ false → is_numbered tag_of [] all ≡ false
  never_numbered all before more e is never = by (is_numbered tag_of [] all) refl
    where
      by : (b : Bool) → is_numbered tag_of [] all ≡ b → b ≡ false
      by false same = refl
      by true same = absurd (true≢false (sym (numbered_at [] before e more (ap (is_numbered tag_of []) (sym is) ∙ same)) ∙ never))

module _ {S C Q P E K : Type 0} (rules : Rules S C Q P E K) where
  -- an entry of a legal list may come next where it stands
  pub taken_behind : (all before more : List E) (e : E) → all ≡ before ++ e ∷ more → is_legal rules all ≡ true → rules.takes (replay rules before) e ≡ true
  taken_behind all before more e is legal = legal_next rules rules.start before e more (ap (is_legal rules) (sym is) ∙ legal)
