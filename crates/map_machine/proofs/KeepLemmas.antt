-- An entry that is kept by the map's book.
use Rattle.std.proofs.Common.{◌≡◌, ℕ, ◌+◌, Bool, true, false, ◌&&◌, List, [], ◌∷◌, ◌++◌, is_ok, Option, Some, None, Result, Ok, Err, refl, sym, ap, ◌∙◌}
use Rattle.std.specs.Prelude.{◌==◌, MatchOption}
use Rattle.std.specs.Option.{is_some}
use Rattle.std.proofs.lemmas.Bool.{and_parts, eqb-true}
use Rattle.hub_core.specs.Journal.{extended, place_of}
use Rattle.osm_base.specs.Stamp.{stamp_after}
use Rattle.osm_base.specs.declared.memory.Memory.{Memory}
use Rattle.osm_change.specs.declared.refusals.Refusal.{Refusal}
use Rattle.osm_model.specs.Act.{Effect, judge}
use Rattle.osm_model.specs.Journal.{calls_of, entry_of, replay}
use Rattle.osm_model.specs.declared.commands.Entry.{Entry}
use Rattle.hub_core.specs.declared.outlets.LastOutlet.{LastOutlet}
use Rattle.map_machine.specs.Kept.{IsLastOf}
use Rattle.map_machine.specs.Machine.{entry_if}
use Rattle.journal_text.specs.Kept.{may_follow, kept_by, is_in_turn}

and_true : (b : Bool) → ((b && true) && true) ≡ b
and_true true = refl
and_true false = refl

module _ (es : List Entry) (e : Entry) where
  in_turn : is_in_turn es e ≡ true → (e.call == calls_of e.session es + 1) ≡ true
  in_turn turn = (and_parts (e.call == calls_of e.session es + 1) (stamp_after (replay es).last e.stamp == e.stamp) turn).0

  at_own : is_in_turn es e ≡ true → (stamp_after (replay es).last e.stamp == e.stamp) ≡ true
  at_own turn = (and_parts (e.call == calls_of e.session es + 1) (stamp_after (replay es).last e.stamp == e.stamp) turn).1

  may_by : is_in_turn es e ≡ true → may_follow es e ≡ is_ok (judge (replay es) e.user e.stamp e.command)
  may_by turn =
      let verdict : Result Effect Refusal = judge (replay es) e.user e.stamp e.command in
      ap (λ b. (is_ok verdict && b) && (e.call == calls_of e.session es + 1)) (at_own turn) ∙ ap (λ b. (is_ok verdict && true) && b) (in_turn turn) ∙ and_true (is_ok verdict)

  -- the call's number is the next one of its session
  pub next : is_in_turn es e ≡ true → e.call ≡ calls_of e.session es + 1
  next turn = eqb-true e.call (calls_of e.session es + 1) (in_turn turn)

  -- what the entry's command comes to at the entry's stamp, which stands
  entry_by : is_in_turn es e ≡ true
      → entry_if (judge (replay es) e.user (stamp_after (replay es).last e.stamp) e.command) (entry_of (replay es) e.session e.call e.user e.stamp e.command)
      ≡ entry_if (judge (replay es) e.user e.stamp e.command) e
  entry_by turn =
      ap (λ t. entry_if (judge (replay es) e.user t e.command) (record { session = e.session; call = e.call; user = e.user; stamp = t; command = e.command }))
      (eqb-true (stamp_after (replay es).last e.stamp) e.stamp (at_own turn))

  placed_by : (j : Result Effect Refusal) → is_some (place_of es (entry_if j e)) ≡ is_ok j
  placed_by (Ok done) = refl
  placed_by (Err r) = refl

  kept_so : (j : Result Effect Refusal) → extended es (entry_if j e) ≡ kept_by {E = Memory} (Ok (is_ok j)) es e
  kept_so (Ok done) = refl
  kept_so (Err r) = refl

  -- it has a place exactly where it may come next
  pub placed : (entry : Option Entry) (place : Option ℕ) → is_in_turn es e ≡ true
      → entry ≡ entry_if (judge (replay es) e.user (stamp_after (replay es).last e.stamp) e.command) (entry_of (replay es) e.session e.call e.user e.stamp e.command)
      → place ≡ place_of es entry → is_some place ≡ may_follow es e
  placed entry place turn is at =
      ap (λ (p : Option ℕ). is_some p) (at ∙ ap (place_of es) (is ∙ entry_by turn)) ∙ placed_by (judge (replay es) e.user e.stamp e.command) ∙ sym (may_by turn)

  -- and then it is the last one
  pub kept_at : (entry : Option Entry) (new : List Entry) → is_in_turn es e ≡ true
      → entry ≡ entry_if (judge (replay es) e.user (stamp_after (replay es).last e.stamp) e.command) (entry_of (replay es) e.session e.call e.user e.stamp e.command)
      → new ≡ extended es entry → new ≡ kept_by {E = Memory} (Ok (may_follow es e)) es e
  kept_at entry new turn is at =
      at ∙ ap (extended es) (is ∙ entry_by turn) ∙ kept_so (judge (replay es) e.user e.stamp e.command)
      ∙ ap (λ (b : Bool). kept_by {E = Memory} (Ok b) es e) (sym (may_by turn))

-- a commit leaves the last entry at hand, if one was
pub handed : (place : Option ℕ) (old new : List Entry) (had has : LastOutlet Entry) (Tagged : Entry → Type 0) → IsLastOf old had.last
    → MatchOption place ((new ≡ old) × (has ≡ had)) (λ place. (e : Entry) × (new ≡ old ++ e ∷ []) × Tagged e × (has.last ≡ Some e))
    → IsLastOf new has.last
handed None old new had has Tagged was same = rw (same.0, same.1) was
handed (Some place) old new had has Tagged was one = rw one.3 (old, one.1)
