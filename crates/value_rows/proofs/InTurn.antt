-- An entry that is the next one of its session is kept where its command is accepted.
use Rattle.std.proofs.Common.{◌≡◌, ◌+◌, Bool, true, false, ◌&&◌, List, [], ◌∷◌, length, is_ok, Result, Ok, Err, refl, sym, ap, ◌∙◌, arith, length-append}
use Rattle.std.specs.Prelude.{◌==◌, nat_lt}
use Rattle.std.proofs.lemmas.Bool.{and_parts, eqb-true, lt-ltb}
use Rattle.osm_base.specs.Stamp.{stamp_after}
use Rattle.osm_change.specs.declared.refusals.Refusal.{Refusal}
use Rattle.osm_model.specs.Act.{Effect, judge}
use Rattle.osm_model.specs.Journal.{calls_of, replay, appended, journal_after}
use Rattle.osm_model.specs.declared.commands.Entry.{Entry}
use Rattle.journal_text.specs.Kept.{may_follow, kept_by, is_in_turn}

abbrev Judged : Type 0
Judged = Result Effect Refusal

pub lengths_same : (es es' new new' : List Entry) → es' ≡ es → new' ≡ new → nat_lt (length es) (length new) ≡ nat_lt (length es') (length new')
lengths_same es es' new new' a b = ap (λ xs. nat_lt (length xs) (length new)) (sym a) ∙ ap (λ xs. nat_lt (length es') (length xs)) (sym b)

and_true : (b : Bool) → ((b && true) && true) ≡ b
and_true true = refl
and_true false = refl

module _ (es : List Entry) (e : Entry) where
  verdict : Judged
  verdict = judge (replay es) e.user e.stamp e.command

  in_turn : is_in_turn es e ≡ true → (e.call ≡ calls_of e.session es + 1) × (stamp_after (replay es).last e.stamp ≡ e.stamp)
  in_turn turn =
      let both = and_parts (e.call == calls_of e.session es + 1) (stamp_after (replay es).last e.stamp == e.stamp) turn in
      (eqb-true e.call (calls_of e.session es + 1) both.0, eqb-true (stamp_after (replay es).last e.stamp) e.stamp both.1)

  may_by : is_in_turn es e ≡ true → may_follow es e ≡ is_ok verdict
  unfolding verdict
  may_by turn =
      let both = and_parts (e.call == calls_of e.session es + 1) (stamp_after (replay es).last e.stamp == e.stamp) turn in
      ap (λ b. (is_ok verdict && b) && (e.call == calls_of e.session es + 1)) both.1 ∙ ap (λ b. (is_ok verdict && true) && b) both.0 ∙ and_true (is_ok verdict)

  after_by : is_in_turn es e ≡ true → journal_after es e.session e.user e.stamp e.command ≡ appended es e verdict
  unfolding verdict
  after_by turn =
      let parts = in_turn turn in
      ap (λ n. appended es (record { session = e.session; call = n; user = e.user; stamp = stamp_after (replay es).last e.stamp; command = e.command }) (judge (replay es) e.user (stamp_after (replay es).last e.stamp) e.command)) (sym parts.0)
      ∙ ap (λ t. appended es (record { session = e.session; call = e.call; user = e.user; stamp = t; command = e.command }) (judge (replay es) e.user t e.command)) parts.1

  grown_by : (j : Judged) (new : List Entry) → new ≡ appended es e j → nat_lt (length es) (length new) ≡ is_ok j
  grown_by (Ok done) new same = lt-ltb (length es) (length new) (omega (arith, ap length same, length-append es (e ∷ [])))
  grown_by (Err r) new same = by (nat_lt (length es) (length new)) refl
    where
      by : (b : Bool) → nat_lt (length es) (length new) ≡ b → b ≡ false
      by b is = let e = ap length same in grind (arith, is, e)

  kept_so : (E : Type 0) (j : Judged) (b : Bool) (new : List Entry) → new ≡ appended es e j → b ≡ is_ok j → new ≡ kept_by {E = E} (Ok b) es e
  kept_so E (Ok done) b new same is = same ∙ ap (λ b. kept_by {E = E} (Ok b) es e) (sym is)
  kept_so E (Err r) b new same is = same ∙ ap (λ b. kept_by {E = E} (Ok b) es e) (sym is)

  -- the journal grew exactly where the entry may come next
  pub grown : (new : List Entry) → is_in_turn es e ≡ true → new ≡ journal_after es e.session e.user e.stamp e.command → nat_lt (length es) (length new) ≡ may_follow es e
  grown new turn is = grown_by verdict new (is ∙ after_by turn) ∙ sym (may_by turn)

  -- and then by the entry
  pub grown_so : (E : Type 0) (new : List Entry) → is_in_turn es e ≡ true → new ≡ journal_after es e.session e.user e.stamp e.command → new ≡ kept_by {E = E} (Ok (nat_lt (length es) (length new))) es e
  grown_so E new turn is = kept_so E verdict (nat_lt (length es) (length new)) new (is ∙ after_by turn) (grown_by verdict new (is ∙ after_by turn))
