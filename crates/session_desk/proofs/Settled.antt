-- A session that was settled before it is answered.
use Rattle.std.proofs.Common.{◌≡◌, ℕ, ◌≤◌, false, length, refl, sym, ap, ◌∙◌, subst, arith, List, Option}
use mathlib.Core.List.{IsPrefix}
use Rattle.machine_law.specs.Rules.{Rules}
use Rattle.hub_core.specs.Journal.{calls_of}
use Rattle.snapshot_hub.specs.Known.{Known, caught_up}
use Rattle.session_desk.specs.Rows.{Request, Place, IsRow}
use Rattle.session_desk.specs.Steps.{place_at, Answers}
use Rattle.session_desk.specs.Answered.{IsFresh, IsSettled}
use Rattle.session_desk.proofs.Lists.{prefix_self, prefix_trans, prefix_length}

module _ {E : Type 0} where
  -- what `Hub::freshen` says of a session that owed
  pub settled_of : (old new : Known E) → IsPrefix old.front new.front → new ≡ caught_up old new.front old.calls → IsSettled old new
  settled_of old new longer is = record {
    begins = longer;
    number = ap (λ (k : Known E). k.number) is;
    calls = ap (λ (k : Known E). k.calls) is;
    debts = ap (λ (k : Known E). k.debts) is;
    owes = ap (λ (k : Known E). k.owes) is;
  }

  pub rested : (it : Known E) → it.owes ≡ false → IsSettled it it
  rested it owes = record { begins = prefix_self it.front; number = refl; calls = refl; debts = refl; owes = owes }

module _ {S C Q P E K : Type 0} (rules : Rules S C Q P E K) where
  -- and all that it says
  pub fresh_of : (old new : Known E) → IsPrefix old.front new.front → new ≡ caught_up old new.front old.calls → old.calls ≡ calls_of rules.tag_of old.number new.front → IsFresh rules old new
  fresh_of old new longer is calls = record { begins = longer; comes_to = is; calls = calls }

  -- what it is answered then, it is answered from what it knew before
  pub answers_settled : (old mid new : Known E) (request : Request C Q) (moment : ℕ) (bytes : Option (List ℕ))
      → IsSettled old mid → Answers rules mid request moment bytes new → Answers rules old request moment bytes new
  answers_settled old mid new request moment bytes settled answers = record {
    number = answers.number ∙ settled.number;
    begins = prefix_trans old.front mid.front new.front settled.begins answers.begins;
    row = λ point le.
        let inside : point ≤ length mid.front = omega (arith, le, prefix_length old.front mid.front settled.begins) in
        let row = answers.row point inside in
        let same : place_at mid point ≡ place_at old point = λ i. record { point = point; calls = settled.calls i; debts = settled.debts i } in (
          row.0,
          row.1,
          subst (λ (n : ℕ). IsRow rules new.front n (place_at old point) request moment bytes (place_at new row.0)) settled.number
              (subst (λ (p : Place). IsRow rules new.front mid.number p request moment bytes (place_at new row.0)) same row.2),
        );
  }
