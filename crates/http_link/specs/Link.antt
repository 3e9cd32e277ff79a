-- What serving a link does.
use Rattle.std.specs.Prelude.{◌≡◌, ℕ, ◌+◌, ◌<◌, ◌≤◌, ◌⊎◌, List, [], ◌∷◌, ◌++◌, length, IfSome, IsTrue, IsFalse, ⊤}
use Rattle.std.specs.List.{AllByRecursion, concat}
use Rattle.std.specs.Io.KnownBytes.{Consumes}
use Rattle.osm_base.specs.declared.limits.TheConstants.{HEAD_LIMIT, REQUEST_LIMIT}
use Rattle.osm_outside.specs.Event.{Shown}
use Rattle.osm_outside.specs.Told.{Told, Rose}
use Rattle.http_wire.specs.declared.message.Message.{Message}
use Rattle.http_wire.specs.declared.end.WireEnd.{WireEnd}
use Rattle.http_wire.specs.declared.end.WireEnd.TheVariants as wire
use Rattle.http_wire.specs.Message.{HasMessages}
use Rattle.http_wire.specs.Received.{HaveBytes}
use Rattle.http_wire.specs.Wire.{end_limit}
use Rattle.http_link.specs.declared.desk.Reply.{Reply}
use Rattle.http_link.specs.declared.desk.Withheld.{Withheld}
use Rattle.http_link.specs.declared.end.LinkEnd.{LinkEnd}
use Rattle.http_link.specs.declared.end.LinkEnd.TheVariants.{Ended, Closed, Budget, Refused, ReadFault, WriteFault, Unkept, Memory}
use Rattle.http_link.specs.Exchange.{Exchange, ChainBy, Allowing, Telling, messages_of, text_of}
use Rattle.http_link.specs.Input.{EndsByInput}
use Rattle.http_link.specs.Refusal.{refusal, IsRefusal}
use Rattle.http_link.specs.Turns.{Turn, Ending, no_ending, events_of, exchanges_of, bytes_of, AreRead, AreWritten, ReadsEnd}

-- no request said close
abbrev pub NoneCloses : List Exchange → Type 0
NoneCloses exchanges = AllByRecursion (λ e. IsFalse e.message.close) exchanges

-- The link could go on after these: fewer than may be were answered, and none said close.
abbrev pub GoesOn : List Exchange → Type 0
GoesOn exchanges = NoneCloses exchanges × (length exchanges < REQUEST_LIMIT)

-- The last reply was written in part, and nothing was read or written behind it.
pub record LacksReply (turns : List Turn) (ending : Ending) : Type 0 where
  pub front : List Turn
  pub last : Turn
  pub turns_are : turns ≡ front ++ last ∷ []
  pub going_on : GoesOn (exchanges_of front)
  pub replies : AreWritten 0 front
  pub missing : List ℕ
  pub whole : text_of (length front) last.exchange ≡ concat last.writes ++ missing
  pub nothing_else : ending ≡ no_ending

-- The last reply was held back: nothing of it was written, and nothing was read or written behind it.
pub record IsUnkept (turns : List Turn) (ending : Ending) : Type 0 where
  pub lacks : LacksReply turns ending
  pub unsent : lacks.last.writes ≡ []

-- From start the desk came to now by these exchanges; before anything of a reply was sent, the desk let it be, and the link was shown what
-- the desk shows then. Where the link ended as unkept, the last one was allowed and not sent, nothing was shown for it, and the desk had that
-- cause to withhold it.
abbrev pub AreTold : {D : Type 0} → (D → Message → ℕ → Reply → D → Type 0) → (D → Type 0) → (D → List Shown) → (D → Withheld → Type 0) → D → List Exchange → D → LinkEnd → Type 0
AreTold {D} allows tells shows withholds start exchanges now (Unkept why) =
    (front : List Exchange) × (last : Exchange) × (mid : D) × (exchanges ≡ front ++ last ∷ [])
    × ChainBy (Telling allows tells shows) start front mid × allows mid last.message last.moment last.answer now
    × (last.shown ≡ []) × withholds now why
AreTold allows tells shows withholds start exchanges now other = ChainBy (Telling allows tells shows) start exchanges now

-- no reply was withheld
abbrev pub TellsAll : LinkEnd → Type 0
TellsAll (Unkept why) = ⊥
TellsAll other = ⊤

-- The last request said close, and nothing was read or written behind its reply.
pub record IsClosed (turns : List Turn) (ending : Ending) : Type 0 where
  pub front : List Turn
  pub last : Turn
  pub turns_are : turns ≡ front ++ last ∷ []
  pub going_on : GoesOn (exchanges_of front)
  pub close : IsTrue last.exchange.message.close
  pub replies : AreWritten 0 turns
  pub nothing_else : ending ≡ no_ending

-- As many requests as may be were answered, none said close, and nothing was read or written behind the last reply.
pub record IsFull (turns : List Turn) (ending : Ending) : Type 0 where
  pub none : NoneCloses (exchanges_of turns)
  pub full : length turns ≡ REQUEST_LIMIT
  pub replies : AreWritten 0 turns
  pub nothing_else : ending ≡ no_ending

-- There was no memory for the wire, and nothing happened.
pub record IsUnserved (before after : Told) (turns : List Turn) (ending : Ending) : Type 0 where
  pub untouched : after ≡ before
  pub no_turn : turns ≡ []
  pub nothing_else : ending ≡ no_ending

-- `body_limit` is the most bytes that a body may have.
module _ (body_limit : ℕ) where
  -- These turns were taken, and then came this ending: nothing else happened on the link.
  pub record Served {D : Type 0} (by : D → Exchange → D → Type 0)
      (start now : D) (before after : Told) (left : List ℕ) (turns : List Turn) (ending : Ending) : Type 0 where
    pub trace : after.trace ≡ before.trace ++ events_of turns ending
    -- each message was read in its own turn, and this is left behind the last
    pub read : AreRead body_limit [] turns left
    pub input : Consumes before.left after.left (bytes_of turns ending)
    pub answered : ChainBy by start (exchanges_of turns) now
    -- a clock that was fixed gave that moment each time
    pub fixed : IfSome before.fixed (λ at. AllByRecursion (λ e. e.moment ≡ at) (exchanges_of turns))
    pub stays : after.fixed ≡ before.fixed
    pub read_faults : before.read_faults ≤ after.read_faults
    pub write_faults : before.write_faults ≤ after.write_faults

  -- Each message was answered whole in its turn, and what came in the place of the next is that end, answered whole if it has an answer.
  pub record ComesTo (after : Told) (turns : List Turn) (left : List ℕ) (ending : Ending) (why : WireEnd) : Type 0 where
    pub going_on : GoesOn (exchanges_of turns)
    pub replies : AreWritten 0 turns
    pub reads : ReadsEnd body_limit left ending.reads why after.left
    pub writes : concat ending.writes ≡ refusal why
    pub some : HaveBytes ending.writes

  -- Each message was answered whole, and the reply to an end was written in part.
  pub record LacksRefusal (after : Told) (turns : List Turn) (left : List ℕ) (ending : Ending) : Type 0 where
    pub why : WireEnd
    pub going_on : GoesOn (exchanges_of turns)
    pub replies : AreWritten 0 turns
    pub reads : ReadsEnd body_limit left ending.reads why after.left
    pub missing : List ℕ
    pub whole : refusal why ≡ concat ending.writes ++ missing

  -- How a link ends after these turns, with that left behind the last message, and this ending.
  abbrev pub LinkEnds : Told → Told → List Turn → List ℕ → Ending → LinkEnd → Type 0
  LinkEnds before after turns left ending Ended = ComesTo after turns left ending wire.End
  LinkEnds before after turns left ending Closed = IsClosed turns ending
  LinkEnds before after turns left ending Budget = IsFull turns ending
  LinkEnds before after turns left ending (Refused why) = IsRefusal why × ComesTo after turns left ending why
  -- each whole message before the fault was answered
  LinkEnds before after turns left ending ReadFault =
      ComesTo after turns left ending wire.ReadFault × Rose before.read_faults after.read_faults
  LinkEnds before after turns left ending WriteFault =
      (LacksReply turns ending ⊎ LacksRefusal after turns left ending) × Rose before.write_faults after.write_faults
  LinkEnds before after turns left ending (Unkept why) = IsUnkept turns ending
  LinkEnds before after turns left ending Memory =
      IsUnserved before after turns ending ⊎ ComesTo after turns left ending wire.Memory

  -- The most bytes that are read and are part of no answered message: those of a head, or, where a message was being read,
  -- those of a message and of a head.
  abbrev pub rest_limit : LinkEnd → ℕ
  rest_limit Ended = HEAD_LIMIT
  rest_limit Closed = HEAD_LIMIT
  rest_limit Budget = HEAD_LIMIT
  rest_limit (Refused why) = end_limit body_limit why
  rest_limit ReadFault = end_limit body_limit wire.ReadFault
  rest_limit WriteFault = end_limit body_limit wire.Memory
  rest_limit (Unkept why) = HEAD_LIMIT
  rest_limit Memory = end_limit body_limit wire.Memory

  -- What the bytes that were read tell: the answered messages, the rest behind them, and that the link ended as they say.
  pub record AgreesWithBytes (before : Told) (bytes rest : List ℕ) (exchanges : List Exchange) (end : LinkEnd) : Type 0 where
    pub messages : HasMessages body_limit bytes (messages_of exchanges) rest
    -- each message took a byte at least
    pub taken : length exchanges + length rest ≤ length bytes
    pub limit : length rest ≤ rest_limit end
    pub by_bytes : EndsByInput body_limit bytes exchanges end
    -- the same of the whole input, where the source knows what is left
    pub by_input : IfSome before.left (λ input. EndsByInput body_limit input exchanges end)

  -- What serving a link does, from its beginning to that end.
  pub record ServesBy {D : Type 0} (by : D → Exchange → D → Type 0)
      (start now : D) (before after : Told) (end : LinkEnd) : Type 0 where
    pub turns : List Turn
    pub few : length turns ≤ REQUEST_LIMIT
    pub left : List ℕ
    pub ending : Ending
    pub served : Served by start now before after left turns ending
    pub ends : LinkEnds before after turns left ending end
    pub agrees : AgreesWithBytes before (bytes_of turns ending) (left ++ concat ending.reads) (exchanges_of turns) end

  -- The same, each exchange as a relation allows it.
  abbrev pub Serves : {D : Type 0} → (D → Message → ℕ → Reply → D → Type 0) → D → D → Told → Told → LinkEnd → Type 0
  Serves allows = ServesBy (Allowing allows)

  -- The same, and no reply was withheld.
  pub record ServesTelling {D : Type 0} (allows : D → Message → ℕ → Reply → D → Type 0)
      (start now : D) (before after : Told) (end : LinkEnd) : Type 0 where
    pub serves : Serves allows start now before after end
    pub tells : TellsAll end

  -- The same, and the desk let each reply be sent and showed what it shows before it was, or had a cause to withhold the last one.
  pub record ServesTold {D : Type 0} (allows : D → Message → ℕ → Reply → D → Type 0) (tells : D → Type 0) (shows : D → List Shown) (withholds : D → Withheld → Type 0)
      (start now : D) (before after : Told) (end : LinkEnd) : Type 0 where
    pub serves : Serves allows start now before after end
    pub told : AreTold allows tells shows withholds start (exchanges_of serves.turns) now end
