-- What a desk is answered that keeps before it tells, and what its replies come to.
use Rattle.std.specs.Prelude.{◌≡◌, ℕ, ◌≤◌, Bool, true, false, IsTrue, ⊤, List, [], ◌∷◌, length, map, take}
use Rattle.std.proofs.Common.{inl, refl, arith}
use mathlib.Core.List.{IsPrefix}
use Rattle.osm_outside.specs.Event.{Shown}
use Rattle.http_wire.specs.declared.message.Message.{Message}
use Rattle.http_link.specs.declared.desk.Reply.{Reply}
use Rattle.http_link.specs.declared.desk.Withheld.{Withheld}
use Rattle.http_link.specs.declared.desk.Withheld.TheVariants.{Failed, Memory, Full, Mismatched}
use Rattle.http_link.specs.Exchange.{Exchange}
use Rattle.http_link.specs.declared.end.LinkEnd.{LinkEnd}
use Rattle.http_link.specs.declared.end.LinkEnd.TheVariants.{Unkept}
use Rattle.durable_log.specs.Receipts.{last_count}
use Rattle.durable_log.specs.Receipts.{Receipt}
use Rattle.session_desk.specs.Rows.{Place}
use Rattle.session_desk.specs.Steps.{place_at}
use Rattle.machine_law.specs.Rules.{Rules}
use Rattle.session_desk.specs.Answered.{AtDesk, RowOf, Allows, StaysOrFreshens}
use Rattle.user_table.specs.Users.{Users}

-- what its inner desk keeps, how many entries its last reply may tell of, the receipts that it has in hand, and whether it has withheld a
-- reply because keeping failed
pub record AtKept (E : Type 0) : Type 0 where
  pub desk : AtDesk E
  pub tells_of : ℕ
  pub receipts : List Receipt
  pub failed : Bool

abbrev pub at_kept : {E : Type 0} → AtDesk E → ℕ → List Receipt → Bool → AtKept E
at_kept desk tells_of receipts failed = record { desk = desk; tells_of = tells_of; receipts = receipts; failed = failed }

-- a keeper: how many entries the last reply of its desk may tell of, the receipts that it has in hand, and whether keeping failed
pub record InHand : Type 0 where
  pub tells_of : ℕ
  pub receipts : List Receipt
  pub failed : Bool

-- a desk and its keeper
abbrev pub kept_by : {E : Type 0} → AtDesk E → InHand → AtKept E
kept_by desk keeper = at_kept desk keeper.tells_of keeper.receipts keeper.failed

-- Its last receipt in hand is for all that its last reply may tell of.
abbrev pub Tells : {E : Type 0} → AtKept E → Type 0
Tells it = it.tells_of ≤ last_count it.receipts

-- by what it lets its last reply be sent: the receipts that it has in hand, which the link is shown once
abbrev pub shows_kept : {E : Type 0} → AtKept E → List Shown
shows_kept it = it.receipts ∷ []

-- why it may withhold its last reply: keeping failed, which it notes; or there was no memory, the file or the list of its receipts was full,
-- or they and the desk weren't of one list as far as could be seen, and of these nothing is said
abbrev pub Withholds : {E : Type 0} → AtKept E → Withheld → Type 0
Withholds it Failed = it.failed ≡ true
Withholds it Memory = ⊤
Withholds it Full = ⊤
Withholds it Mismatched = ⊤

-- it had that cause, where a link ended with a reply withheld
abbrev pub HasWithheld : {E : Type 0} → LinkEnd → AtKept E → Type 0
HasWithheld (Unkept why) it = Withholds it why
HasWithheld other it = ⊤

-- an exchange, and whether its reply was sent, if only in part
pub record Sending : Type 0 where
  pub exchange : Exchange
  pub sent : Bool

abbrev pub exchanges_in : List Sending → List Exchange
exchanges_in sendings = map (λ s. s.exchange) sendings

-- each reply was sent
abbrev pub sent_ones : List Exchange → List Sending
sent_ones exchanges = map (λ e. record { exchange = e; sent = true }) exchanges

-- each reply was sent but the last
abbrev pub sent_but_last : List Exchange → List Sending
sent_but_last [] = []
sent_but_last (e ∷ []) = record { exchange = e; sent = false } ∷ []
sent_but_last (e ∷ f ∷ exchanges) = record { exchange = e; sent = true } ∷ sent_but_last (f ∷ exchanges)

-- The exchanges of a link that ended so: all replies were sent, but for the last one where that was held back.
abbrev pub sendings : LinkEnd → List Exchange → List Sending
sendings (Unkept why) exchanges = sent_but_last exchanges
sendings other exchanges = sent_ones exchanges

-- a desk that is left alone
pub stays : {S C Q P E K : Type 0} (rules : Rules S C Q P E K) (it : AtDesk E) → StaysOrFreshens rules it it
stays rules it = record { users = refl; known = inl refl }

-- over what one message may be answered
module _ {E : Type 0} (row : RowOf E) where
  -- One message was answered: wherever in its old front the session was last answered, this is a row on its new front, at a point that
  -- the reply may tell of. Nothing of the old front is lost, and no receipt.
  pub record AllowsKept (old : AtKept E) (message : Message) (moment : ℕ) (reply : Reply) (new : AtKept E) : Type 0 where
    pub users : new.desk.users ≡ old.desk.users
    pub number : new.desk.known.number ≡ old.desk.known.number
    pub begins : IsPrefix old.desk.known.front new.desk.known.front
    pub within : new.tells_of ≤ length new.desk.known.front
    pub answers : (point : ℕ) → point ≤ length old.desk.known.front
        → (next : ℕ) × (next ≤ new.tells_of)
        × row old.desk.users old.desk.known.number new.desk.known.front (place_at old.desk.known point) message moment reply (place_at new.desk.known next)
    pub receipts : IsPrefix old.receipts new.receipts
    pub failed : old.failed ≡ true → new.failed ≡ true

  -- what is allowed so is a row at the inner desk
  pub allowed_at_desk : (old new : AtKept E) (message : Message) (moment : ℕ) (reply : Reply) → AllowsKept old message moment reply new
      → Allows row old.desk message moment reply new.desk
  allowed_at_desk old new message moment reply h = record {
    users = h.users;
    replies = record {
      number = h.number;
      begins = h.begins;
      answers = λ point le.
          let step = h.answers point le in
          (step.0, omega (arith, step.1, h.within), step.2);
    };
  }

  -- The messages were answered so, one after the other, at points within the entries. Before anything of a reply was sent, the link was shown
  -- the receipts in hand, of which the last is for its point at least. They are the first ones of these receipts, so many of them, and never
  -- fewer than before.
  abbrev pub AreKeptAndTold : Users → ℕ → List E → List Receipt → Place → ℕ → List Sending → Place → Type 0
  AreKeptAndTold users session F receipts before had [] after = (after ≡ before) × (before.point ≤ length F)
  AreKeptAndTold users session F receipts before had (s ∷ sendings) after =
      (mid : Place) × (in_hand : ℕ) × (had ≤ in_hand) × (in_hand ≤ length receipts) × (mid.point ≤ length F)
      × (IsTrue s.sent → (s.exchange.shown ≡ take in_hand receipts ∷ []) × (mid.point ≤ last_count (take in_hand receipts)))
      × row users session F before s.exchange.message s.exchange.moment s.exchange.answer mid
      × AreKeptAndTold users session F receipts mid in_hand sendings after

  -- All messages were answered so, on the front that the session has then, with the receipts that it has then.
  pub record HasKeptAndTold (users : Users) (old : AtKept E) (point : ℕ) (sendings : List Sending) (new : AtKept E) : Type 0 where
    pub number : new.desk.known.number ≡ old.desk.known.number
    pub begins : IsPrefix old.desk.known.front new.desk.known.front
    pub receipts : IsPrefix old.receipts new.receipts
    pub failed : old.failed ≡ true → new.failed ≡ true
    pub last : ℕ
    pub within : last ≤ length new.desk.known.front
    pub told : AreKeptAndTold users old.desk.known.number new.desk.known.front new.receipts (place_at old.desk.known point) (length old.receipts)
        sendings (place_at new.desk.known last)
