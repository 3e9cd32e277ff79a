-- The query of changesets, from the newest on.
use Rattle.std.proofs.Common.{◌≡◌, ℕ, zero, suc, ◌+◌, ◌-◌, ◌<◌, ◌≤◌, Bool, true, false, cond, ◌⊎◌, ⊎_elim, List, [], ◌∷◌, ◌++◌, length, take, Option, Some, None, refl, sym, ap, ◌∙◌, append_assoc, append-nil, length-append, arith}
use Rattle.std.specs.Prelude.{filter, filter_map, reverse, option_map}
use Rattle.std.specs.List.{cons_option}
use Rattle.std.specs.Option.{option_map_or}
use Rattle.std.proofs.lemmas.Bool.{false≢true}
use Rattle.std.proofs.lemmas.List.{reverse-append}
use Rattle.osm_change.specs.declared.answers.ChangesetRow.{ChangesetRow}
use Rattle.changeset_core.specs.declared.records.ChangesetRecord.{ChangesetRecord}
use Rattle.osm_model.specs.Changeset.{changeset_row}
use Rattle.osm_model.specs.ChangesetReads.{passes_at, row_at}
use Rattle.osm_model.specs.State.{changeset}
use Rattle.osm_model.specs.declared.states.State.{State}
use Rattle.rising_lists.specs.Ids.{ids_to}

module _ {Y : Type 0} (row : ℕ → Option Y) (p : ℕ → Bool) (each : (id : ℕ) → p id ≡ true → (y : Y) × (row id ≡ Some y)) where
  -- the rows that the changesets up to one will give, where some are wanted
  abbrev pub older : ℕ → ℕ → List Y
  older wanted id = filter_map row (take wanted (filter p (reverse (ids_to id))))

  newest-first : (id : ℕ) → reverse (ids_to (suc id)) ≡ suc id ∷ reverse (ids_to id)
  newest-first id = reverse-append (ids_to id) (suc id ∷ [])

  -- one more that is looked at
  pub looked :
      (limit id : ℕ) (rows next : List Y)
      → length rows < limit
      → next ≡ rows ++ filter_map row (filter p (suc id ∷ []))
      → (length next ≤ limit) × (next ++ older (limit - length next) id ≡ rows ++ older (limit - length rows) (suc id))
  looked limit id rows next few more = by_test (p (suc id)) refl
    where
      by_test : (b : Bool) → p (suc id) ≡ b → (length next ≤ limit) × (next ++ older (limit - length next) id ≡ rows ++ older (limit - length rows) (suc id))
      by_test true passes =
          let found = each (suc id) passes in
          let added : next ≡ rows ++ found.0 ∷ [] = more ∙ ap (λ (b : Bool). rows ++ filter_map row (cond b (suc id ∷ []) [])) passes ∙ ap (λ (o : Option Y). rows ++ cons_option o []) found.1 in
          let longer : length next ≡ length rows + 1 = ap length added ∙ length-append rows (found.0 ∷ []) in
          let wanted : limit - length rows ≡ suc (limit - length next) = omega (arith, few, longer) in (
            omega (arith, few, longer),
            ap (λ (ys : List Y). ys ++ older (limit - length next) id) added
                ∙ append_assoc rows (found.0 ∷ []) (older (limit - length next) id)
                ∙ sym (ap (λ (ids : List ℕ). rows ++ filter_map row (take (limit - length rows) (filter p ids))) (newest-first id)
                ∙ ap (λ (b : Bool). rows ++ filter_map row (take (limit - length rows) (cond b (suc id ∷ filter p (reverse (ids_to id))) (filter p (reverse (ids_to id)))))) passes
                ∙ ap (λ (n : ℕ). rows ++ filter_map row (take n (suc id ∷ filter p (reverse (ids_to id))))) wanted
                ∙ ap (λ (o : Option Y). rows ++ cons_option o (older (limit - length next) id)) found.1),
          )
      by_test false fails =
          let same : next ≡ rows = more ∙ ap (λ (b : Bool). rows ++ filter_map row (cond b (suc id ∷ []) [])) fails ∙ append-nil rows in
          let as_long : length next ≡ length rows = ap length same in (
            omega (arith, few, as_long),
            ap (λ (ys : List Y). ys ++ older (limit - length ys) id) same
                ∙ sym (ap (λ (ids : List ℕ). rows ++ filter_map row (take (limit - length rows) (filter p ids))) (newest-first id)
                ∙ ap (λ (b : Bool). rows ++ filter_map row (take (limit - length rows) (cond b (suc id ∷ filter p (reverse (ids_to id))) (filter p (reverse (ids_to id)))))) fails),
          )

  -- none is older, or no more are wanted
  all_looked : (wanted : ℕ) (rows : List Y) → rows ++ older wanted 0 ≡ rows
  all_looked zero rows = append-nil rows
  all_looked (suc n) rows = append-nil rows

  all_wanted : (id : ℕ) (rows : List Y) → rows ++ older 0 id ≡ rows
  all_wanted id rows = append-nil rows

  pub none_left : (wanted id : ℕ) (rows : List Y) → (id ≡ 0) ⊎ (wanted ≡ 0) → rows ++ older wanted id ≡ rows
  none_left wanted id rows ended =
      ⊎_elim
      (λ first. ap (λ (i : ℕ). rows ++ older wanted i) first ∙ all_looked wanted rows)
      (λ full. ap (λ (n : ℕ). rows ++ older n id) full ∙ all_wanted id rows)
      ended

-- a changeset that passes has a row
pub row_there : (P : State) (t : ℕ) (pass : ChangesetRecord → Bool) (id : ℕ) → passes_at P pass id ≡ true → (y : ChangesetRow) × (row_at P t id ≡ Some y)
row_there P t pass id passes = of_record (changeset P id) passes
  where
    of_record : (o : Option ChangesetRecord) → option_map_or pass o false ≡ true → (y : ChangesetRow) × (option_map (λ r. changeset_row id r t) o ≡ Some y)
    of_record None passes = absurd (false≢true passes)
    of_record (Some r) passes = (changeset_row id r t, refl)
