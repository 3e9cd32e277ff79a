-- What a session of a hub is answered, message by message, whatever machine the hub has.
use Rattle.std.specs.Prelude.{◌≡◌, ℕ, ◌≤◌, ◌⊎◌, false, List, [], ◌∷◌, length}
use mathlib.Core.List.{IsPrefix}
use Rattle.http_wire.specs.declared.message.Message.{Message}
use Rattle.http_link.specs.declared.desk.Reply.{Reply}
use Rattle.http_link.specs.Exchange.{Exchange}
use Rattle.machine_law.specs.Rules.{Rules}
use Rattle.session_desk.specs.Rows.{Place}
use Rattle.session_desk.specs.Steps.{place_at}
use Rattle.hub_core.specs.Journal.{calls_of}
use Rattle.snapshot_hub.specs.Known.{Known, caught_up}
use Rattle.user_table.specs.Users.{Users}

-- what a desk works with: the users, and what its session knows
pub record AtDesk (E : Type 0) : Type 0 where
  pub users : Users
  pub known : Known E

-- The session owes nothing, and has seen all that it had seen before, and all its calls.
pub record IsFresh {S C Q P E K : Type 0} (rules : Rules S C Q P E K) (old new : Known E) : Type 0 where
  pub begins : IsPrefix old.front new.front
  pub comes_to : new ≡ caught_up old new.front old.calls
  pub calls : old.calls ≡ calls_of rules.tag_of old.number new.front

-- No request was answered: the session is what it was, or it was freshened.
pub record StaysOrFreshens {S C Q P E K : Type 0} (rules : Rules S C Q P E K) (old new : AtDesk E) : Type 0 where
  pub users : new.users ≡ old.users
  pub known : (new.known ≡ old.known) ⊎ IsFresh rules old.known new.known

-- what one message may be answered by a session of that number, against a list of entries, from a place of the session to the next
abbrev pub RowOf : Type 0 → Type 1
RowOf E = Users → ℕ → List E → Place → Message → ℕ → Reply → Place → Type 0

-- over what one message may be answered
module _ {E : Type 0} (row : RowOf E) where
  -- One message was answered: wherever in its old front the session was last answered, this is a row on its new front, at a point of it
  -- that is no earlier. Nothing of the old front is lost.
  pub record Replies (users : Users) (old : Known E) (message : Message) (moment : ℕ) (reply : Reply) (new : Known E) : Type 0 where
    pub number : new.number ≡ old.number
    pub begins : IsPrefix old.front new.front
    pub answers : (point : ℕ) → point ≤ length old.front
        → (next : ℕ) × (next ≤ length new.front) × row users old.number new.front (place_at old point) message moment reply (place_at new next)

  -- What the desk may answer, from what it was to what it is then.
  pub record Allows (old : AtDesk E) (message : Message) (moment : ℕ) (reply : Reply) (new : AtDesk E) : Type 0 where
    pub users : new.users ≡ old.users
    pub replies : Replies old.users old.known message moment reply new.known

  -- The messages were answered so, one after the other, at points within the entries.
  abbrev pub AreAnswered : Users → ℕ → List E → Place → List Exchange → Place → Type 0
  AreAnswered users session F before [] after = (after ≡ before) × (before.point ≤ length F)
  AreAnswered users session F before (e ∷ exchanges) after =
      (mid : Place) × (mid.point ≤ length F) × row users session F before e.message e.moment e.answer mid × AreAnswered users session F mid exchanges after

  -- All exchanges are answered on the front that the session has then.
  pub record HasServed (users : Users) (old : Known E) (point : ℕ) (exchanges : List Exchange) (new : Known E) : Type 0 where
    pub number : new.number ≡ old.number
    pub begins : IsPrefix old.front new.front
    pub last : ℕ
    pub within : last ≤ length new.front
    pub answered : AreAnswered users old.number new.front (place_at old point) exchanges (place_at new last)

  -- what is answered against entries is so against more
  abbrev pub RowsStay : Type 0
  RowsStay = (users : Users) (session : ℕ) (F G : List E) (before after : Place) (message : Message) (moment : ℕ) (reply : Reply)
      → IsPrefix F G → after.point ≤ length F → row users session F before message moment reply after → row users session G before message moment reply after

-- ---- for private clauses

-- The session owes nothing, and no request was answered: its front may be longer.
pub record IsSettled {E : Type 0} (old new : Known E) : Type 0 where
  pub begins : IsPrefix old.front new.front
  pub number : new.number ≡ old.number
  pub calls : new.calls ≡ old.calls
  pub debts : new.debts ≡ old.debts
  pub owes : new.owes ≡ false
