-- What was answered is so of a session that was freshened then.
use Rattle.std.proofs.Common.{◌≡◌, ℕ, true, ◌⊎◌, inl, inr, List, length, sym, ap, ◌∙◌, subst, arith}
use mathlib.Core.List.{IsPrefix}
use Rattle.http_wire.specs.declared.message.Message.{Message}
use Rattle.http_link.specs.declared.desk.Reply.{Reply}
use Rattle.durable_log.specs.Receipts.{Receipt}
use Rattle.machine_law.specs.Rules.{Rules}
use Rattle.session_desk.specs.Rows.{Place}
use Rattle.session_desk.specs.Steps.{place_at}
use Rattle.session_desk.specs.Answered.{RowOf, RowsStay, Allows, IsFresh, StaysOrFreshens}
use Rattle.session_desk.proofs.Lists.{prefix_self, prefix_trans, prefix_length}
use Rattle.snapshot_hub.specs.Known.{Known}
use Rattle.kept_desk.specs.Kept.{AtKept, AllowsKept}

module _ {S C Q P E K : Type 0} (rules : Rules S C Q P E K) where
  -- what a session that may have been freshened still has
  pub record Still (old new : Known E) : Type 0 where
    pub number : new.number ≡ old.number
    pub begins : IsPrefix old.front new.front
    pub calls : new.calls ≡ old.calls
    pub debts : new.debts ≡ old.debts

  pub still : (old new : Known E) → (new ≡ old) ⊎ IsFresh rules old new → Still old new
  still old new (inl same) = record {
    number = ap (λ (k : Known E). k.number) same;
    begins = subst (λ (k : Known E). IsPrefix old.front k.front) (sym same) (prefix_self old.front);
    calls = ap (λ (k : Known E). k.calls) same;
    debts = ap (λ (k : Known E). k.debts) same;
  }
  still old new (inr fresh) = record {
    number = ap (λ (k : Known E). k.number) fresh.comes_to;
    begins = fresh.begins;
    calls = ap (λ (k : Known E). k.calls) fresh.comes_to;
    debts = ap (λ (k : Known E). k.debts) fresh.comes_to;
  }

  pub same_place : (old new : Known E) (point : ℕ) → Still old new → place_at old point ≡ place_at new point
  same_place old new point s = λ i. record { point = point; calls = (sym s.calls) i; debts = (sym s.debts) i }

  -- what was allowed is allowed of the desk then
  pub allowed_still : (row : RowOf E) → RowsStay row → (old mid new : AtKept E) (message : Message) (moment : ℕ) (reply : Reply)
      → StaysOrFreshens rules mid.desk new.desk → new.tells_of ≡ mid.tells_of → IsPrefix mid.receipts new.receipts → (mid.failed ≡ true → new.failed ≡ true)
      → AllowsKept row old message moment reply mid → AllowsKept row old message moment reply new
  allowed_still row stay old mid new message moment reply fresh same receipts failed h =
      let s = still mid.desk.known new.desk.known fresh.known in record {
        users = fresh.users ∙ h.users;
        number = s.number ∙ h.number;
        begins = prefix_trans old.desk.known.front mid.desk.known.front new.desk.known.front h.begins s.begins;
        within = omega (arith, same, h.within, prefix_length mid.desk.known.front new.desk.known.front s.begins);
        answers = λ point le.
            let step = h.answers point le in (
              step.0,
              omega (arith, step.1, same),
              subst (λ (p : Place). row old.desk.users old.desk.known.number new.desk.known.front (place_at old.desk.known point) message moment reply p)
                  (same_place mid.desk.known new.desk.known step.0 s)
                  (stay old.desk.users old.desk.known.number mid.desk.known.front new.desk.known.front (place_at old.desk.known point)
                  (place_at mid.desk.known step.0) message moment reply s.begins (omega (arith, step.1, h.within)) step.2),
            );
        receipts = prefix_trans old.receipts mid.receipts new.receipts h.receipts receipts;
        failed = λ was. failed (h.failed was);
      }

module _ {E : Type 0} (row : RowOf E) where
  -- the reply may tell of the whole front that the session was answered on
  pub answered_so : (old new : AtKept E) (message : Message) (moment : ℕ) (reply : Reply) → Allows row old.desk message moment reply new.desk
      → new.tells_of ≡ length new.desk.known.front → new.receipts ≡ old.receipts → new.failed ≡ old.failed → AllowsKept row old message moment reply new
  answered_so old new message moment reply h all same unfailed = record {
    users = h.users;
    number = h.replies.number;
    begins = h.replies.begins;
    within = omega (arith, all);
    answers = λ point le.
        let step = h.replies.answers point le in
        (step.0, omega (arith, step.1, all), step.2);
    receipts = subst (λ (l : List Receipt). IsPrefix old.receipts l) (sym same) (prefix_self old.receipts);
    failed = λ was. unfailed ∙ was;
  }
