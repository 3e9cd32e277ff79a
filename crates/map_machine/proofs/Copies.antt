-- Copied rows, whose tags and owners stand apart.
use Rattle.std.proofs.Common.{◌≡◌, ℕ, ◌+◌, ◌<◌, List, [], ◌∷◌, ◌++◌, map, take, length, get_or, refl, sym, ◌∙◌, arith, length-append}
use Rattle.std.specs.Prelude.{Option, None, Some, IfSome}
use Rattle.std.specs.List.{All}
use Rattle.std.proofs.Math.ListN.{get_or-append}
use Rattle.std.proofs.lemmas.List.{take_more, map-append}
use Rattle.std.proofs.lemmas.List.Elements.{All-head, All-tail, All-push, All-weaker}
use Rattle.osm_base.specs.declared.people.Owner.{Owner}
use Rattle.osm_element.specs.Tags.{Tag}
use Rattle.osm_change.specs.ElementRows.{ShownVersion}
use Rattle.map_machine.specs.declared.copied.CopiedRow.{CopiedRow}
use Rattle.map_machine.specs.Copied.{nobody, list_of, whole_row, HasParts, KeepsRow}

-- ---- what stands apart grows

module _ (lists more_lists : List (List Tag)) (owners more_owners : List Owner) where
  within_more : (place : Option ℕ) → IfSome place (λ i. i < length lists) → IfSome place (λ i. i < length (lists ++ more_lists))
  within_more None within = within
  within_more (Some i) within = omega (arith, within, length-append lists more_lists)

  list_stays : (place : Option ℕ) → IfSome place (λ i. i < length lists) → list_of (lists ++ more_lists) place ≡ list_of lists place
  list_stays None within = refl
  list_stays (Some i) within = get_or-append lists more_lists [] i within

  parts_stay : (row : CopiedRow) → HasParts lists owners row → HasParts (lists ++ more_lists) (owners ++ more_owners) row
  parts_stay row has = record { tags = within_more row.tags has.tags; owner = omega (arith, has.owner, length-append owners more_owners) }

  row_stays : (row : CopiedRow) → HasParts lists owners row → whole_row (lists ++ more_lists) (owners ++ more_owners) row ≡ whole_row lists owners row
  row_stays row has = rw (list_stays row.tags has.tags, get_or-append owners more_owners nobody row.owner has.owner) refl

  rows_stay : (rows : List CopiedRow) → All (HasParts lists owners) rows → map (whole_row (lists ++ more_lists) (owners ++ more_owners)) rows ≡ map (whole_row lists owners) rows
  rows_stay [] all = refl
  rows_stay (row ∷ rows) all =
      rw (row_stays row (All-head (HasParts lists owners) row rows all), rows_stay rows (All-tail (HasParts lists owners) row rows all)) refl

-- ---- rows that are copied one by one

pub record AreCopied (given : List ShownVersion) (count : ℕ) (lists : List (List Tag)) (owners : List Owner) (rows : List CopiedRow) : Type 0 where
  pub parts : All (HasParts lists owners) rows
  pub whole : map (whole_row lists owners) rows ≡ take count given

pub one_more_copied :
    (given : List ShownVersion) (count : ℕ) (lists : List (List Tag)) (owners : List Owner) (rows : List CopiedRow) (shown : ShownVersion)
    (new_lists : List (List Tag)) (new_owners : List Owner) (row : CopiedRow) (new_rows : List CopiedRow)
    → count < length given
    → shown ≡ get_or given count shown
    → AreCopied given count lists owners rows
    → KeepsRow lists owners new_lists new_owners row shown
    → new_rows ≡ rows ++ row ∷ []
    → AreCopied given (count + 1) new_lists new_owners new_rows
one_more_copied given count lists owners rows shown new_lists new_owners row new_rows within is are keeps all =
    let L = lists ++ keeps.more_lists in
    let O = owners ++ keeps.more_owners in
    let parts : HasParts L O row = rw (sym keeps.lists_added, sym keeps.owners_added) keeps.parts in
    let whole : whole_row L O row ≡ shown = rw (sym keeps.lists_added, sym keeps.owners_added) keeps.whole in
    rw (all, keeps.lists_added, keeps.owners_added)
    record {
      parts = All-push (HasParts L O) rows row (All-weaker (HasParts lists owners) (HasParts L O) (parts_stay lists keeps.more_lists owners keeps.more_owners) rows are.parts) parts;
      whole =
          map-append (whole_row L O) rows (row ∷ [])
          ∙ rw (rows_stay lists keeps.more_lists owners keeps.more_owners rows are.parts, are.whole, whole) (sym (take_more given count shown within ∙ rw (sym is) refl));
    }
