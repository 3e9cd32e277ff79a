-- What is said of a piece, by what is kept in its place, and back.
use Rattle.std.proofs.Common.{◌≡◌, ◌≢◌, ℕ, ◌+◌, ◌-◌, ◌≤◌, ◌<◌, Bool, true, false, List, length, Option, Some, None, ◌⊎◌, inl, inr, get_or, refl, sym, ap, ◌∙◌, arith}
use Rattle.std.specs.Prelude.{slice_get, ◌==◌, if◌then◌else◌}
use Rattle.std.proofs.lemmas.Bool.{eq-eqb, eqb-true, eqb-false, ne_eqb}
use Rattle.std.proofs.lemmas.Option.{slice_get_past, slice_get_cases}
use Rattle.osm_model.specs.declared.commands.Entry.{Entry}
use Rattle.journal_text.specs.Kept.{may_follow}
use Rattle.replication_feed.specs.declared.pieces.Piece.{Piece}
use Rattle.journal_follower.specs.Taken.{is_same, taken_by, taken}
use Rattle.journal_follower.specs.declared.answers.Taken.{Taken}
use Rattle.journal_follower.specs.declared.answers.Taken.TheVariants.{Folded, Old, Differs, Gap, Illegal}

abbrev pub compared : Bool → Taken
compared same = if same then Old else Differs

abbrev new_by : ℕ → Bool → Bool → Taken
new_by next is_next may = if is_next then (if may then Folded else Illegal) else Gap next

compared_differs : (same : Bool) → compared same ≡ Differs → same ≡ false
compared_differs true is = cc
compared_differs false is = refl

new_differs : (next : ℕ) (is_next may : Bool) → new_by next is_next may ≡ Differs → ⊥
new_differs next true true is = cc
new_differs next true false is = cc
new_differs next false may is = cc

compared_old : (same : Bool) → compared same ≡ Old → same ≡ true
compared_old true is = refl
compared_old false is = cc

new_old : (next : ℕ) (is_next may : Bool) → new_by next is_next may ≡ Old → ⊥
new_old next true true is = cc
new_old next true false is = cc
new_old next false may is = cc

compared_gap : (same : Bool) (next : ℕ) → compared same ≡ Gap next → ⊥
compared_gap true next is = cc
compared_gap false next is = cc

new_gap : (next : ℕ) (is_next may : Bool) (n : ℕ) → new_by next is_next may ≡ Gap n → (is_next ≡ false) × (n ≡ next)
new_gap next true true n is = cc
new_gap next true false n is = cc
new_gap next false may n is = (refl, cc)

compared_illegal : (same : Bool) → compared same ≡ Illegal → ⊥
compared_illegal true is = cc
compared_illegal false is = cc

new_illegal : (next : ℕ) (is_next may : Bool) → new_by next is_next may ≡ Illegal → (is_next ≡ true) × (may ≡ false)
new_illegal next true true is = cc
new_illegal next true false is = (refl, refl)
new_illegal next false may is = cc

module _ (kept : List Entry) (p : Piece) where
  -- ---- from the place to what is said

  pub met : (there : Entry) → slice_get kept (p.number - 1) ≡ Some there → taken kept p ≡ compared (is_same there p.entry)
  met there at = ap (λ (o : Option Entry). taken_by o kept p) at

  new : length kept < p.number → taken kept p ≡ new_by (length kept + 1) (p.number == length kept + 1) (may_follow kept p.entry)
  new past =
      let behind : length kept ≤ p.number - 1 = omega arith in
      ap (λ (o : Option Entry). taken_by o kept p) (slice_get_past kept (p.number - 1) behind)

  pub next : p.number ≡ length kept + 1 → taken kept p ≡ (if may_follow kept p.entry then Folded else Illegal)
  next is =
      let past : length kept < p.number = omega arith in
      new past ∙ ap (λ (b : Bool). new_by (length kept + 1) b (may_follow kept p.entry)) (eq-eqb p.number (length kept + 1) is)

  pub gap : length kept + 1 < p.number → taken kept p ≡ Gap (length kept + 1)
  gap far =
      let past : length kept < p.number = omega arith in
      new past ∙ ap (λ (b : Bool). new_by (length kept + 1) b (may_follow kept p.entry)) (ne_eqb p.number (length kept + 1) (λ is. omega (arith, is)))

  -- ---- from what is said to the place

  -- an entry is kept there
  abbrev Met : Type 0
  Met = (there : Entry) × (p.number - 1 < length kept) × (slice_get kept (p.number - 1) ≡ Some there) × (taken kept p ≡ compared (is_same there p.entry))

  -- none is
  abbrev New : Type 0
  New = (length kept ≤ p.number - 1) × (taken kept p ≡ new_by (length kept + 1) (p.number == length kept + 1) (may_follow kept p.entry))

  placed : Met ⊎ New
  placed = by (slice_get_cases kept (p.number - 1)).1
    where
      by : ((x : Entry) × (p.number - 1 < length kept) × (slice_get kept (p.number - 1) ≡ Some x) × (get_or kept (p.number - 1) x ≡ x)) ⊎ ((length kept ≤ p.number - 1) × (slice_get kept (p.number - 1) ≡ None)) → Met ⊎ New
      by (inl h) = inl (h.0, h.1, h.2, met h.0 h.2)
      by (inr h) = inr (h.0, ap (λ (o : Option Entry). taken_by o kept p) h.1)

  pub from_differs : taken kept p ≡ Differs → (there : Entry) × (p.number - 1 < length kept) × (slice_get kept (p.number - 1) ≡ Some there) × (is_same there p.entry ≡ false)
  from_differs is = by placed
    where
      by : Met ⊎ New → (there : Entry) × (p.number - 1 < length kept) × (slice_get kept (p.number - 1) ≡ Some there) × (is_same there p.entry ≡ false)
      by (inl h) = (h.0, h.1, h.2, compared_differs (is_same h.0 p.entry) (sym h.3 ∙ is))
      by (inr h) = absurd (new_differs (length kept + 1) (p.number == length kept + 1) (may_follow kept p.entry) (sym h.1 ∙ is))

  pub from_old : taken kept p ≡ Old → (there : Entry) × (p.number - 1 < length kept) × (slice_get kept (p.number - 1) ≡ Some there) × (is_same there p.entry ≡ true)
  from_old is = by placed
    where
      by : Met ⊎ New → (there : Entry) × (p.number - 1 < length kept) × (slice_get kept (p.number - 1) ≡ Some there) × (is_same there p.entry ≡ true)
      by (inl h) = (h.0, h.1, h.2, compared_old (is_same h.0 p.entry) (sym h.3 ∙ is))
      by (inr h) = absurd (new_old (length kept + 1) (p.number == length kept + 1) (may_follow kept p.entry) (sym h.1 ∙ is))

  pub from_gap : (n : ℕ) → 1 ≤ p.number → taken kept p ≡ Gap n → (length kept + 1 < p.number) × (n ≡ length kept + 1)
  from_gap n counted is = by placed
    where
      by : Met ⊎ New → (length kept + 1 < p.number) × (n ≡ length kept + 1)
      by (inl h) = absurd (compared_gap (is_same h.0 p.entry) n (sym h.3 ∙ is))
      by (inr h) =
          let told = new_gap (length kept + 1) (p.number == length kept + 1) (may_follow kept p.entry) n (sym h.1 ∙ is) in
          let other : p.number ≢ length kept + 1 = eqb-false p.number (length kept + 1) told.0 in
          let behind = h.0 in
          (grind (arith, other, behind, counted), told.1)

  pub from_illegal : taken kept p ≡ Illegal → (p.number ≡ length kept + 1) × (may_follow kept p.entry ≡ false)
  from_illegal is = by placed
    where
      by : Met ⊎ New → (p.number ≡ length kept + 1) × (may_follow kept p.entry ≡ false)
      by (inl h) = absurd (compared_illegal (is_same h.0 p.entry) (sym h.3 ∙ is))
      by (inr h) =
          let told = new_illegal (length kept + 1) (p.number == length kept + 1) (may_follow kept p.entry) (sym h.1 ∙ is) in
          (eqb-true p.number (length kept + 1) told.0, told.1)
