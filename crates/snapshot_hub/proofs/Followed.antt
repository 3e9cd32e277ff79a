-- A world that follows entries one by one.
use Rattle.std.proofs.Common.{◌≡◌, ℕ, ◌+◌, ◌<◌, ◌≤◌, Bool, true, false, List, [], ◌∷◌, ◌++◌, length, take, drop, fold, refl, sym, ap, ◌∙◌, subst, take-append-drop, append_assoc, arith}
use Rattle.std.specs.Prelude.{get_or}
use Rattle.std.proofs.lemmas.Bool.{true≢false}
use Rattle.std.proofs.lemmas.List.{take_more, take_all}
use Rattle.std.proofs.lemmas.List.Sums.{fold-append, fold_push}
use Rattle.machine_law.specs.Rules.{Rules, replay, is_legal, is_legal_from}
use Rattle.snapshot_hub.proofs.Legal.{legal_both, legal_first, legal_next, legal_push, legal_rest}

module _ {S C Q P E K : Type 0} (rules : Rules S C Q P E K) where
  -- the state is the one that the first one comes to by these entries, each of which may come next
  pub record Follows (first state : S) (entries : List E) : Type 0 where
    pub after : state ≡ fold rules.after first entries
    pub legal : is_legal_from rules first entries ≡ true

  more_entries : (entries : List E) (i : ℕ) (e : E) → i < length entries → e ≡ get_or entries i e → take (i + 1) entries ≡ take i entries ++ e ∷ []
  more_entries entries i e within is = take_more entries i e within ∙ ap (λ (x : E). take i entries ++ x ∷ []) (sym is)

  -- one entry more
  pub follows_next : (first : S) (entries : List E) (i : ℕ) (e : E) (old new : S) → i < length entries → e ≡ get_or entries i e
      → Follows first old (take i entries) → rules.takes old e ≡ true → new ≡ rules.after old e → Follows first new (take (i + 1) entries)
  follows_next first entries i e old new within is so taken after =
      let more = more_entries entries i e within is in
      let begun = take i entries in
      record {
        after = after ∙ ap (λ (s : S). rules.after s e) so.after ∙ sym (fold_push rules.after first begun e) ∙ ap (fold rules.after first) (sym more);
        legal =
            subst (λ (l : List E). is_legal_from rules first l ≡ true) (sym more)
            (legal_push rules first begun e so.legal (subst (λ (s : S). rules.takes s e ≡ true) so.after taken));
      }

  -- where an entry may not come next they don't all
  pub stops : (first : S) (entries : List E) (i : ℕ) (e : E) (state : S) → i < length entries → e ≡ get_or entries i e → Follows first state (take i entries)
      → rules.takes state e ≡ false → is_legal_from rules first entries ≡ false
  stops first entries i e state within is so never = by (is_legal_from rules first entries) refl
    where
      by : (b : Bool) → is_legal_from rules first entries ≡ b → b ≡ false
      by false same = refl
      by true same =
          let begun = take i entries in
          let rest = drop (i + 1) entries in
          let split : begun ++ e ∷ rest ≡ entries =
          sym (append_assoc begun (e ∷ []) rest) ∙ ap (λ (l : List E). l ++ rest) (sym (more_entries entries i e within is)) ∙ take-append-drop (i + 1) entries in
          let taken = legal_next rules first begun e rest (subst (λ (l : List E). is_legal_from rules first l ≡ true) (sym split) same) in
          absurd (true≢false (sym taken ∙ ap (λ (s : S). rules.takes s e) (sym so.after) ∙ never))

  -- all entries
  pub follows_all : (first : S) (entries : List E) (i : ℕ) (state : S) → length entries ≤ i → Follows first state (take i entries) → Follows first state entries
  follows_all first entries i state all so = subst (Follows first state) (take_all i entries all) so

  -- ---- behind entries that were followed before

  pub legal_behind : (before es : List E) (first : S) → is_legal rules before ≡ true → first ≡ replay rules before → is_legal_from rules first es ≡ true
      → is_legal rules (before ++ es) ≡ true
  legal_behind before es first legal is taken =
      legal_both rules rules.start before es legal (subst (λ (s : S). is_legal_from rules s es ≡ true) is taken)

  pub after_behind : (before es : List E) (first state : S) → first ≡ replay rules before → state ≡ fold rules.after first es → state ≡ replay rules (before ++ es)
  after_behind before es first state is after =
      after ∙ ap (λ (s : S). fold rules.after s es) is ∙ sym (fold-append rules.after rules.start before es)

  -- entries that may not follow are the beginning of nothing legal
  pub refused_behind : (before es : List E) (first : S) → first ≡ replay rules before → is_legal_from rules first es ≡ false → (more : List E)
      → is_legal rules ((before ++ es) ++ more) ≡ false
  refused_behind before es first is never more = by (is_legal rules ((before ++ es) ++ more)) refl
    where
      by : (b : Bool) → is_legal rules ((before ++ es) ++ more) ≡ b → b ≡ false
      by false same = refl
      by true same =
          let both = legal_first rules rules.start (before ++ es) more same in
          let taken = legal_rest rules rules.start before es both in
          absurd (true≢false (sym taken ∙ ap (λ (s : S). is_legal_from rules s es) (sym is) ∙ never))
