-- Entries that are kept one after another.
use Rattle.std.proofs.Common.{◌≡◌, false, true, List, [], ◌∷◌, ◌++◌, reverse, sym, ap, ◌∙◌, subst, append_assoc}
use Rattle.std.proofs.lemmas.Bool.{true≢false}
use Rattle.std.proofs.lemmas.List.{reverse-append}
use Rattle.journal_text.specs.Kept.{may_follow}
use Rattle.osm_model.specs.Journal.{IsLegal}
use Rattle.osm_model.specs.declared.commands.Entry.{Entry}

-- the next one is behind what is kept
next_kept : (read kept left more : List Entry) (entry : Entry) → read ≡ kept ++ reverse left → left ≡ more ++ entry ∷ [] → read ≡ (kept ++ entry ∷ []) ++ reverse more
next_kept read kept left more entry is next =
    is ∙ ap (λ (l : List Entry). kept ++ reverse l) next ∙ ap (λ (l : List Entry). kept ++ l) (reverse-append more (entry ∷ [])) ∙ sym (append_assoc kept (entry ∷ []) (reverse more))

-- over what is legal of a legal list
module _ (follows : (kept : List Entry) (entry : Entry) → IsLegal (kept ++ entry ∷ []) → may_follow kept entry ≡ true)
    (front : (kept more : List Entry) → IsLegal (kept ++ more) → IsLegal kept) where
  -- where the next one may not follow
  pub not_kept : (read kept left more : List Entry) (entry : Entry) → read ≡ kept ++ reverse left → left ≡ more ++ entry ∷ [] → may_follow kept entry ≡ false
      → IsLegal read → ⊥
  not_kept read kept left more entry is next never legal =
      true≢false (sym (follows kept entry (front (kept ++ entry ∷ []) (reverse more) (subst IsLegal (next_kept read kept left more entry is next) legal))) ∙ never)
