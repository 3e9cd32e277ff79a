-- What serving a link by any desk does on the link.
use Rattle.std.specs.Prelude.{◌≡◌, ℕ, ◌+◌, ◌≤◌, List, [], ◌++◌, length, IfSome}
use Rattle.std.specs.List.{AllByRecursion}
use Rattle.std.specs.Io.KnownBytes.{Consumes}
use Rattle.osm_base.specs.declared.limits.TheConstants.{BODY_LIMIT, REQUEST_LIMIT}
use Rattle.osm_outside.specs.Event.{Shown, given, answered}
use Rattle.osm_outside.specs.Told.{Told}
use Rattle.http_wire.specs.declared.message.Message.{Message}
use Rattle.http_wire.specs.Message.{HasMessages}
use Rattle.http_link.specs.declared.desk.Reply.{Reply}
use Rattle.http_link.specs.declared.desk.Withheld.{Withheld}
use Rattle.http_link.specs.declared.end.LinkEnd.{LinkEnd}
use Rattle.http_link.specs.Exchange.{Exchange, Chain, messages_of, moments_of}
use Rattle.http_link.specs.Input.{EndsByInput}
use Rattle.http_link.specs.Turns.{Turn, Ending, AreRead, events_of, exchanges_of}
use Rattle.http_link.specs.Link.{LinkEnds, AreTold, rest_limit}

-- `body_limit` is the most bytes that a body may have.
module _ (body_limit : ℕ) where
  -- What happened on the link until that end, for these messages with their moments and replies, at most 1,000.
  pub record OnLinkWithin (before after : Told) (exchanges : List Exchange) (end : LinkEnd) : Type 0 where
    -- one turn for each message, in order: what was read of it, its moment, which receipts were shown, and what was written of its reply; then
    -- what an end was read of, and what was written of its answer. Nothing else happened
    pub turns : List Turn
    pub ending : Ending
    pub trace : after.trace ≡ before.trace ++ events_of turns ending
    pub exchanges_are : exchanges ≡ exchanges_of turns
    pub few : length exchanges ≤ REQUEST_LIMIT
    -- the messages are the first of the bytes that reads gave, however these were cut
    pub bytes : List ℕ
    pub rest : List ℕ
    pub input : bytes ≡ given (events_of turns ending)
    pub messages : HasMessages body_limit bytes (messages_of exchanges) rest
    pub taken : length exchanges + length rest ≤ length bytes
    -- what is read and is no answered message is bounded
    pub limit : length rest ≤ rest_limit body_limit end
    -- where the source knows what is left, these bytes are the front of it
    pub consumed : Consumes before.left after.left bytes
    -- the clock answered one moment for each message
    pub moments : answered (events_of turns ending) ≡ moments_of exchanges
    pub fixed : IfSome before.fixed (λ at. AllByRecursion (λ e. e.moment ≡ at) exchanges)
    -- and the clock stays fixed, or free, as it was
    pub stays : after.fixed ≡ before.fixed
    -- each message was read in its own turn, and nothing more once it was whole; this is left behind the last
    pub left : List ℕ
    pub read : AreRead body_limit [] turns left
    -- each reply was written whole in its turn, so before anything more was read; and how the link ended
    pub ends : LinkEnds body_limit before after turns left ending end
    -- the other way round: where nothing failed, the bytes that were read tell the end, and so does the whole input of a
    -- source that knows it
    pub by_bytes : EndsByInput body_limit bytes exchanges end
    pub by_input : IfSome before.left (λ input. EndsByInput body_limit input exchanges end)
    pub read_faults : before.read_faults ≤ after.read_faults
    pub write_faults : before.write_faults ≤ after.write_faults

  -- The messages of the link were answered by a desk until that end, each as its relation allows.
  pub record AnswersLinkWithin {D : Type 0} (allows : D → Message → ℕ → Reply → D → Type 0)
      (old new : D) (before after : Told) (end : LinkEnd) : Type 0 where
    -- the messages that were answered, with their moments and replies
    pub exchanges : List Exchange
    pub link : OnLinkWithin before after exchanges end
    pub answered : Chain allows old exchanges new

  -- The same, and the desk let each reply be sent and showed what it shows before it was, or had a cause to withhold the last one.
  pub record AnswersLinkToldWithin {D : Type 0} (allows : D → Message → ℕ → Reply → D → Type 0) (tells : D → Type 0) (shows : D → List Shown) (withholds : D → Withheld → Type 0)
      (old new : D) (before after : Told) (end : LinkEnd) : Type 0 where
    pub answers : AnswersLinkWithin allows old new before after end
    pub told : AreTold allows tells shows withholds old answers.exchanges new end

-- The same, where a body has no more bytes than a server reads.
abbrev pub OnLink : Told → Told → List Exchange → LinkEnd → Type 0
OnLink = OnLinkWithin BODY_LIMIT

abbrev pub AnswersLink : {D : Type 0} → (D → Message → ℕ → Reply → D → Type 0) → D → D → Told → Told → LinkEnd → Type 0
AnswersLink = AnswersLinkWithin BODY_LIMIT

abbrev pub AnswersLinkTold : {D : Type 0} → (D → Message → ℕ → Reply → D → Type 0) → (D → Type 0) → (D → List Shown) → (D → Withheld → Type 0) → D → D → Told → Told → LinkEnd → Type 0
AnswersLinkTold = AnswersLinkToldWithin BODY_LIMIT
