-- A message, and a list of messages, in bytes.
use Rattle.std.specs.Prelude.{◌≡◌, ℕ, ◌≤◌, List, [], ◌∷◌, ◌++◌, length, slice_range, drop, Result, Ok, Err}
use Rattle.osm_base.specs.declared.limits.TheConstants.{HEAD_LIMIT, BODY_LIMIT}
use Rattle.http_wire.specs.declared.end.WireEnd.{WireEnd}
use Rattle.http_wire.specs.declared.head.Head.{Head}
use Rattle.http_wire.specs.declared.message.Message.{Message}
use Rattle.http_wire.specs.Block.{IsBlockAt}
use Rattle.http_wire.specs.Head.{ReadsHead}
use Rattle.http_wire.specs.End.{EndsAs}

-- the message with that head and that body
abbrev pub message_of : Head → List ℕ → Message
message_of kept body = record {
  method = kept.method;
  target = kept.target;
  close = kept.close;
  authorization = kept.authorization;
  media = kept.media;
  body = body;
}

-- `body_limit` is the most bytes that a body may have.
module _ (body_limit : ℕ) where
  -- The text is one message: line ends that are skipped, the head block, and the body.
  pub record IsMessage (text : List ℕ) (message : Message) : Type 0 where
    pub begin : ℕ
    pub end : ℕ
    pub block : IsBlockAt text begin end
    pub limit : end ≤ HEAD_LIMIT
    pub kept : Head
    pub head : ReadsHead body_limit (slice_range text begin end) kept
    pub body : length (drop end text) ≡ kept.length
    pub message_is : message ≡ message_of kept (drop end text)

  -- The bytes begin with that message, and the rest follows.
  abbrev pub BeginsWithin : List ℕ → Message → List ℕ → Type 0
  BeginsWithin bytes message rest = (text : List ℕ) × IsMessage text message × (bytes ≡ text ++ rest)

  -- The bytes begin with these messages, and the rest follows.
  abbrev pub HasMessages : List ℕ → List Message → List ℕ → Type 0
  HasMessages bytes [] rest = bytes ≡ rest
  HasMessages bytes (message ∷ messages) rest =
      (behind : List ℕ) × BeginsWithin bytes message behind × HasMessages behind messages rest

  -- The whole messages at the front of the bytes are these, and then comes that end.
  abbrev pub AreMessages : List ℕ → List Message → WireEnd → Type 0
  AreMessages bytes messages end = (rest : List ℕ) × HasMessages bytes messages rest × EndsAs body_limit rest end

  -- What was read of the bytes: the message that they begin with, or the end that they come to.
  abbrev pub Gives : List ℕ → Result Message WireEnd → List ℕ → Type 0
  Gives bytes (Ok message) rest = BeginsWithin bytes message rest
  Gives bytes (Err end) rest = EndsAs body_limit bytes end

-- The bytes begin with that message, whose body has no more bytes than a server reads, and the rest follows.
abbrev pub BeginsWith : List ℕ → Message → List ℕ → Type 0
BeginsWith = BeginsWithin BODY_LIMIT
