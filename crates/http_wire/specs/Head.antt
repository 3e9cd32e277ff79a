-- What is read of a head block.
use Rattle.std.specs.Prelude.{◌≡◌, ℕ, ◌<◌, ◌≤◌, List, [], Some, length, map, codes, IsNone, IsSomeAnd, slice_range, ⊤}
use Rattle.httparse.specs.Grammar.{RequestHead, ReadsRequest}
use Rattle.httparse.specs.Spans.{name_and_value}
use Rattle.osm_base.specs.declared.limits.TheConstants.{HEAD_LIMIT, FIELD_LIMIT}
use Rattle.http_wire.specs.declared.head.Head.{Head}
use Rattle.http_wire.specs.declared.end.WireEnd.{WireEnd}
use Rattle.http_wire.specs.declared.end.WireEnd.TheVariants.{BadHead, Coded, BadLength, BodyLong, Memory}
use Rattle.http_wire.specs.Fields.{NamedValue, first_value}
use Rattle.http_wire.specs.Length.{body_length}
use Rattle.http_wire.specs.Close.{ends_link}
use Rattle.http_wire.specs.Block.{IsBlockAt}

-- The block is, in full, that request head, and has no more fields than it may have.
pub record IsHeadOf (block : List ℕ) (head : RequestHead) : Type 0 where
  pub reads : ReadsRequest block head []
  pub few_fields : length head.fields ≤ FIELD_LIMIT

-- It is no such head.
abbrev pub HasNoHead : List ℕ → Type 0
HasNoHead block = (head : RequestHead) → ¬ (IsHeadOf block head)

-- the names and the values of the fields
abbrev pub fields_of : RequestHead → List NamedValue
fields_of head = map name_and_value head.fields

-- The body has no transfer coding.
abbrev pub IsPlain : RequestHead → Type 0
IsPlain head = IsNone (first_value (codes "transfer-encoding") (fields_of head))

-- `body_limit` is the most bytes that a body may have.
module _ (body_limit : ℕ) where
  -- The block is a head, and this is what a message needs of it.
  pub record ReadsHead (block : List ℕ) (kept : Head) : Type 0 where
    pub head : RequestHead
    pub whole : IsHeadOf block head
    pub plain : IsPlain head
    pub length : body_length (fields_of head) ≡ Some kept.length
    pub fits : kept.length ≤ body_limit
    pub method : kept.method ≡ head.method
    pub target : kept.target ≡ head.target
    pub close : kept.close ≡ ends_link head.minor (fields_of head)
    pub authorization : kept.authorization ≡ first_value (codes "authorization") (fields_of head)
    pub media : kept.media ≡ first_value (codes "content-type") (fields_of head)

  -- Why the block gives no message. The tests are made in this order.
  abbrev pub RefusesHead : List ℕ → WireEnd → Type 0
  RefusesHead block BadHead = HasNoHead block
  RefusesHead block Coded = (head : RequestHead) × IsHeadOf block head × ¬ (IsPlain head)
  RefusesHead block BadLength =
      (head : RequestHead) × IsHeadOf block head × IsPlain head × IsNone (body_length (fields_of head))
  RefusesHead block BodyLong =
      (head : RequestHead) × IsHeadOf block head × IsPlain head
      × IsSomeAnd (body_length (fields_of head)) (λ n. body_limit < n)
  RefusesHead block Memory = ⊤
  RefusesHead block other = ⊥

  -- The bytes begin with a whole head block, and nothing is kept of it.
  pub record RefusesBlock (bytes : List ℕ) (why : WireEnd) : Type 0 where
    pub begin : ℕ
    pub end : ℕ
    pub block : IsBlockAt bytes begin end
    pub limit : end ≤ HEAD_LIMIT
    pub refused : RefusesHead (slice_range bytes begin end) why
