-- What a commit tells of the list of entries and of its outlet, a press.
use Rattle.std.proofs.Common.{◌≡◌, ℕ, List, [], ◌∷◌, ◌++◌, length, Option, Some, None, Result, Ok, Err, ap, sym, ◌∙◌}
use Rattle.std.specs.Prelude.{MatchOption, MatchResult, IfSome}
use Rattle.machine_law.specs.declared.tags.Tag.{Tag}
use Rattle.hub_core.specs.Journal.{place_of}
use Rattle.snapshot_hub.specs.Commits.{IsEntered}
use Rattle.snapshot_hub.specs.Editions.{Edition, edition}

module _ {E : Type 0} (tag_of : E → Tag) where
  abbrev pub Offers : Tag → List E → List E → Edition E → Edition E → Option ℕ → Type 0
  Offers tag before after old new place =
      MatchOption place ((after ≡ before) × (new ≡ old)) (λ _. (e : E) × (after ≡ before ++ e ∷ []) × (tag_of e ≡ tag) × (new ≡ edition (old.journal ++ e ∷ []) old.published))

  -- the list of entries is the one that is to be published
  pub journal_kept : (tag : Tag) (before after : List E) (old new : Edition E) (place : Option ℕ) → before ≡ old.journal → Offers tag before after old new place → after ≡ new.journal
  journal_kept tag before after old new None same h = h.0 ∙ (same ∙ ap (λ (x : Edition E). x.journal) (sym h.1))
  journal_kept tag before after old new (Some n) same h = h.1 ∙ (ap (λ (xs : List E). xs ++ h.0 ∷ []) same ∙ ap (λ (x : Edition E). x.journal) (sym h.3))

  -- the place of an entry is the length before it
  placed_at : (entry : Option E) (place : Option ℕ) (before : List E) → place ≡ place_of before entry → IfSome place (λ n. n ≡ length before)
  placed_at None None before is = tt
  placed_at None (Some n) before is = absurd (cc is)
  placed_at (Some e) None before is = tt
  placed_at (Some e) (Some n) before is = cc is

  entered_at : (tag : Tag) (before after : List E) (old new : Edition E) (place : Option ℕ) → IfSome place (λ n. n ≡ length before) → before ≡ old.journal → Offers tag before after old new place
      → IsEntered tag_of tag old.journal new.journal place
  entered_at tag before after old new None at same h = ap (λ (x : Edition E). x.journal) h.1
  entered_at tag before after old new (Some n) at same h = (h.0, ap (λ (x : Edition E). x.journal) h.3, h.2, at ∙ ap length same)

  pub entered : (tag : Tag) (before after : List E) (old new : Edition E) (place : Option ℕ) (entry : Option E) → place ≡ place_of before entry → before ≡ old.journal → Offers tag before after old new place
      → IsEntered tag_of tag old.journal new.journal place
  entered tag before after old new place entry is same h = entered_at tag before after old new place (placed_at entry place before is) same h

-- publishing leaves the journal, also where it finds no memory
pub journal_published : {E A B : Type 0} (result : Result A B) (old new : Edition E)
    → MatchResult result (λ _. new ≡ edition old.journal old.journal) (λ _. new ≡ old) → new.journal ≡ old.journal
journal_published (Ok a) old new h = ap (λ e. e.journal) h
journal_published (Err b) old new h = ap (λ e. e.journal) h
