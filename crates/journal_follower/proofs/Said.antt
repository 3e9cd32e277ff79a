-- Why each answer is said.
use Rattle.std.proofs.Common.{◌≡◌, ◌+◌, ◌-◌, ◌≤◌, ◌<◌, Bool, true, false, List, [], ◌∷◌, ◌++◌, length, get_or, Some, refl, sym, ap, ◌∙◌, arith}
use Rattle.std.specs.Prelude.{slice_get, All, if◌then◌else◌}
use Rattle.std.proofs.lemmas.Bool.{true≢false}
use Rattle.std.proofs.lemmas.Option.{slice_get-get_or}
use Rattle.std.proofs.lemmas.Slice.Eq.{bytes_eq-Decides}
use Rattle.osm_model.specs.Journal.{IsLegal}
use Rattle.osm_model.specs.declared.commands.Entry.{Entry}
use Rattle.journal_text.specs.Kept.{may_follow}
use Rattle.journal_text.specs.Line.{line, IsEntry}
use Rattle.replication_feed.specs.declared.pieces.Piece.{Piece}
use Rattle.journal_follower.specs.Taken.{is_same, taken}
use Rattle.journal_follower.specs.declared.answers.Taken.{Taken}
use Rattle.journal_follower.specs.declared.answers.Taken.TheVariants.{Folded, Old, Differs, Illegal}
use Rattle.journal_follower.proofs.Places.{compared, met, next, from_old, from_differs, from_illegal}

pub same_as_itself : (e : Entry) → is_same e e ≡ true
same_as_itself e = (bytes_eq-Decides (line e) (line e)).1 refl

some_same : (e other : Entry) → Some e ≡ Some other → e ≡ other
some_same e other same = cc

pub why_old :
    ((entry other : Entry) → IsEntry entry → IsEntry other → line entry ≡ line other → entry ≡ other)
    → (kept : List Entry) (p : Piece) → All IsEntry kept → IsEntry p.entry → 1 ≤ p.number
    → (taken kept p ≡ Old → slice_get kept (p.number - 1) ≡ Some p.entry)
    × (slice_get kept (p.number - 1) ≡ Some p.entry → taken kept p ≡ Old)
why_old tell kept p typed is_entry counted = (to, from)
  where
    to : taken kept p ≡ Old → slice_get kept (p.number - 1) ≡ Some p.entry
    to is =
        let told = from_old kept p is in
        let within = told.1 in
        let there : Entry = get_or kept (p.number - 1) p.entry in
        let at = slice_get-get_or kept (p.number - 1) p.entry within in
        let alike = ap (λ (e : Entry). is_same e p.entry) (some_same there told.0 (sym at ∙ told.2)) ∙ told.3 in
        let same = tell there p.entry (typed (p.number - 1) p.entry within) is_entry ((bytes_eq-Decides (line there) (line p.entry)).0 alike) in
        at ∙ ap (λ (e : Entry). Some e) same

    from : slice_get kept (p.number - 1) ≡ Some p.entry → taken kept p ≡ Old
    from at = met kept p p.entry at ∙ ap compared (same_as_itself p.entry)

pub why_differs :
    ((entry other : Entry) → IsEntry entry → IsEntry other → line entry ≡ line other → entry ≡ other)
    → (kept : List Entry) (p : Piece) → All IsEntry kept → IsEntry p.entry → 1 ≤ p.number
    → (taken kept p ≡ Differs → (p.number ≤ length kept) × (slice_get kept (p.number - 1) ≡ Some p.entry → ⊥))
    × ((p.number ≤ length kept) × (slice_get kept (p.number - 1) ≡ Some p.entry → ⊥) → taken kept p ≡ Differs)
why_differs tell kept p typed is_entry counted = (to, from)
  where
    to : taken kept p ≡ Differs → (p.number ≤ length kept) × (slice_get kept (p.number - 1) ≡ Some p.entry → ⊥)
    to is =
        let told = from_differs kept p is in
        let within = told.1 in
        (omega (arith, within), λ at. let same = some_same p.entry told.0 (sym at ∙ told.2) in true≢false (sym (same_as_itself p.entry) ∙ ap (λ (e : Entry). is_same e p.entry) same ∙ told.3))

    from : (p.number ≤ length kept) × (slice_get kept (p.number - 1) ≡ Some p.entry → ⊥) → taken kept p ≡ Differs
    from h =
        let bound = h.0 in
        let within : p.number - 1 < length kept = omega (arith, bound, counted) in
        by within (is_same (get_or kept (p.number - 1) p.entry) p.entry) refl
      where
        by : p.number - 1 < length kept → (b : Bool) → is_same (get_or kept (p.number - 1) p.entry) p.entry ≡ b → taken kept p ≡ Differs
        by within true e =
            let there : Entry = get_or kept (p.number - 1) p.entry in
            let same = tell there p.entry (typed (p.number - 1) p.entry within) is_entry ((bytes_eq-Decides (line there) (line p.entry)).0 e) in
            absurd (h.1 (slice_get-get_or kept (p.number - 1) p.entry within ∙ ap (λ (e : Entry). Some e) same))
        by within false e = met kept p (get_or kept (p.number - 1) p.entry) (slice_get-get_or kept (p.number - 1) p.entry within) ∙ ap compared e

pub why_illegal :
    ((journal : List Entry) (entry : Entry) → IsLegal journal → may_follow journal entry ≡ true → IsLegal (journal ++ entry ∷ []))
    → ((journal : List Entry) (entry : Entry) → IsLegal (journal ++ entry ∷ []) → may_follow journal entry ≡ true)
    → (kept : List Entry) (p : Piece) → IsLegal kept
    → (taken kept p ≡ Illegal → (p.number ≡ length kept + 1) × (IsLegal (kept ++ p.entry ∷ []) → ⊥))
    × ((p.number ≡ length kept + 1) × (IsLegal (kept ++ p.entry ∷ []) → ⊥) → taken kept p ≡ Illegal)
why_illegal more follows kept p legal = (to, from)
  where
    to : taken kept p ≡ Illegal → (p.number ≡ length kept + 1) × (IsLegal (kept ++ p.entry ∷ []) → ⊥)
    to is = let told = from_illegal kept p is in (told.0, λ longer. true≢false (sym (follows kept p.entry longer) ∙ told.1))

    from : (p.number ≡ length kept + 1) × (IsLegal (kept ++ p.entry ∷ []) → ⊥) → taken kept p ≡ Illegal
    from h = next kept p h.0 ∙ by (may_follow kept p.entry) refl
      where
        by : (b : Bool) → may_follow kept p.entry ≡ b → ◌≡◌ {A = Taken} (if b then Folded else Illegal) Illegal
        by true e = absurd (h.1 (more kept p.entry legal e))
        by false e = refl
