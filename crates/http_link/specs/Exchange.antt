-- Messages and their replies, one after another.
use Rattle.std.specs.Prelude.{◌≡◌, ℕ, ◌+◌, ◌==◌, ◌||◌, Bool, List, [], ◌∷◌, ◌++◌, map}
use Rattle.osm_base.specs.declared.limits.TheConstants.{REQUEST_LIMIT}
use Rattle.osm_outside.specs.Event.{Shown}
use Rattle.http_wire.specs.declared.message.Message.{Message}
use Rattle.http_wire.specs.Reply.{reply}
use Rattle.http_link.specs.declared.desk.Reply.{Reply}

-- a message, the moment when it was whole, its reply, and the receipts that the link was shown, each time, before anything of the reply was sent
pub record Exchange : Type 0 where
  pub message : Message
  pub moment : ℕ
  pub answer : Reply
  pub shown : List Shown

-- their messages, in order
abbrev pub messages_of : List Exchange → List Message
messages_of exchanges = map (λ e. e.message) exchanges

-- the moments at which their messages were whole, in order
abbrev pub moments_of : List Exchange → List ℕ
moments_of exchanges = map (λ e. e.moment) exchanges

-- From old the desk comes to new by these exchanges, each as the relation says.
abbrev pub ChainBy : {D : Type 0} → (D → Exchange → D → Type 0) → D → List Exchange → D → Type 0
ChainBy by old [] new = new ≡ old
ChainBy {D} by old (e ∷ exchanges) new = (mid : D) × by old e mid × ChainBy by mid exchanges new

-- what is allowed
abbrev pub Allowing : {D : Type 0} → (D → Message → ℕ → Reply → D → Type 0) → D → Exchange → D → Type 0
Allowing allows old e new = allows old e.message e.moment e.answer new

-- what is allowed, where the desk lets the reply be sent, and the link was shown just what the desk shows
abbrev pub Telling : {D : Type 0} → (D → Message → ℕ → Reply → D → Type 0) → (D → Type 0) → (D → List Shown) → D → Exchange → D → Type 0
Telling allows tells shows old e new = allows old e.message e.moment e.answer new × tells new × (e.shown ≡ shows new)

-- From old the desk comes to new by these exchanges, each allowed by its relation.
abbrev pub Chain : {D : Type 0} → (D → Message → ℕ → Reply → D → Type 0) → D → List Exchange → D → Type 0
Chain allows = ChainBy (Allowing allows)

-- whether the reply to a message ends the link, before which so many requests were answered
abbrev pub closes : ℕ → Message → Bool
closes count message = message.close || (count + 1 == REQUEST_LIMIT)

-- the bytes of a reply
abbrev pub text_of : ℕ → Exchange → List ℕ
text_of count e = reply e.answer.status e.answer.body (closes count e.message)

-- the bytes of the replies, the first of which so many others precede
abbrev pub texts_from : ℕ → List Exchange → List ℕ
texts_from count [] = []
texts_from count (e ∷ exchanges) = text_of count e ++ texts_from (count + 1) exchanges
