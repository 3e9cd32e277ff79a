-- Every byte string has a reading: messages, and an end behind them.
use Rattle.std.proofs.Common.{◌≡◌, ℕ, zero, suc, ◌+◌, ◌-◌, ◌<◌, ◌≤◌, ◌⊎◌, inl, inr, Bool, true, false, not, List, [], ◌∷◌, length, take, drop, slice_index, codes, Option, Some, None, is_some, refl, sym, subst, ◌∙◌, arith, append-nil, take-append-drop, length-take, take_all, length-take-le}
use Rattle.std.proofs.lemmas.Bool.{cases_lt, false≢true}
use Rattle.httparse.specs.Grammar.{RequestHead}
use Rattle.osm_base.specs.declared.limits.TheConstants.{HEAD_LIMIT}
use Rattle.http_wire.specs.declared.end.WireEnd.{WireEnd}
use Rattle.http_wire.specs.declared.end.WireEnd.TheVariants.{End, Truncated, BadHead, HeadLong, BadLength, BodyLong, Coded}
use Rattle.http_wire.specs.declared.head.Head.{Head}
use Rattle.http_wire.specs.declared.message.Message.{Message}
use Rattle.http_wire.specs.Block.{is_line_byte, ends_empty_line, BeginsAt, IsBlockAt, HasNoBlock}
use Rattle.http_wire.specs.Close.{ends_link}
use Rattle.http_wire.specs.Fields.{first_value}
use Rattle.http_wire.specs.Length.{body_length}
use Rattle.http_wire.specs.Head.{IsHeadOf, IsPlain, ReadsHead, RefusesHead, RefusesBlock, fields_of}
use Rattle.http_wire.specs.End.{EndsAs, IsTold}
use Rattle.http_wire.specs.Message.{message_of, BeginsWithin, AreMessages}
use Rattle.http_wire.proofs.BlockLemmas.{IsBlockAt-append, HasNoBlock-from_search}
use Rattle.http_wire.proofs.EndLemmas.{HasBlock, block_of, BeginsWith-shorter}
use Rattle.http_wire.proofs.HeadLemmas.{head_decided}
use Rattle.http_wire.proofs.MessageLemmas.{BeginsWith-from_parts}

-- ---- the search for a head block

-- the first place from `from` on where the test doesn't answer as usual
record IsFirstOther (test : ℕ → Bool) (usual : Bool) (from place : ℕ) : Type 0 where
  other : test place ≡ not usual
  before : (at : ℕ) → from ≤ at → at < place → test at ≡ usual
  order : from ≤ place

-- at the n places from `from` on the test answers as usual, or there is a first other place among them
abbrev FirstOtherOrNone : (ℕ → Bool) → Bool → ℕ → ℕ → Type 0
FirstOtherOrNone test usual from n =
    ((at : ℕ) → from ≤ at → at < from + n → test at ≡ usual)
    ⊎ ((place : ℕ) × (place < from + n) × IsFirstOther test usual from place)

same_or_not : (b usual : Bool) → (b ≡ usual) ⊎ (b ≡ not usual)
same_or_not true true = inl refl
same_or_not true false = inr refl
same_or_not false true = inr refl
same_or_not false false = inl refl

first_other : (test : ℕ → Bool) (usual : Bool) (from n : ℕ) → FirstOtherOrNone test usual from n
first_other test usual from zero = inl (λ at low high. absurd (omega arith))
first_other test usual from (suc n) = by_front (first_other test usual from n)
  where
    by_last : ((at : ℕ) → from ≤ at → at < from + n → test at ≡ usual)
        → (test (from + n) ≡ usual) ⊎ (test (from + n) ≡ not usual) → FirstOtherOrNone test usual from (suc n)
    by_last all (inl same) =
        inl (λ at low high. elim (cases_lt at (from + n)) [
          | inl below ↦ all at low below
          | inr over ↦ let here : at ≡ from + n = omega arith in rw here same
        ])
    by_last all (inr other) =
        inr (from + n, omega arith, record { other = other; before = all; order = omega arith })

    by_front : FirstOtherOrNone test usual from n → FirstOtherOrNone test usual from (suc n)
    by_front (inl all) = by_last all (same_or_not (test (from + n)) usual)
    by_front (inr found) = inr (found.0, omega (arith, found.1), found.2)

-- a whole head block stands in the bytes, or none
abbrev BlockOrNone : List ℕ → Type 0
BlockOrNone bytes = ((begin : ℕ) × (end : ℕ) × IsBlockAt bytes begin end) ⊎ HasNoBlock bytes

block_or_none : (bytes : List ℕ) → BlockOrNone bytes
block_or_none bytes = by_begin (first_other (λ at. is_line_byte (slice_index bytes at)) true 0 (length bytes))
  where
    by_end : (begin : ℕ) → BeginsAt bytes begin → FirstOtherOrNone (ends_empty_line bytes) false begin (length bytes - begin)
        → BlockOrNone bytes
    by_end begin begins (inl none) =
        inr (HasNoBlock-from_search bytes (Some begin) (begins, λ at low high. none at low (omega arith)))
    by_end begin begins (inr (place, below, found)) =
        inl (
          begin,
          place + 1,
          record {
            begins = begins;
            first = λ at low high. found.before at low (omega arith);
            last = let here : place + 1 - 1 ≡ place = omega arith in rw here found.other;
            after = omega (arith, found.order);
            within = omega (arith, begins.within);
          },
        )

    by_begin : FirstOtherOrNone (λ at. is_line_byte (slice_index bytes at)) true 0 (length bytes) → BlockOrNone bytes
    by_begin (inl blank) = inr (HasNoBlock-from_search bytes None (λ at below. blank at (omega arith) (omega arith)))
    by_begin (inr (place, below, found)) =
        by_end place
        (record { skipped = λ at low. found.before at (omega arith) low; begun = found.other; within = omega arith })
        (first_other (ends_empty_line bytes) false place (length bytes - place))

-- `body_limit` is the most bytes that a body may have.
module _ (body_limit : ℕ) where
  -- the bytes come to an end that they tell
  abbrev HasEnd : List ℕ → Type 0
  HasEnd bytes = (e : WireEnd) × IsTold e × EndsAs body_limit bytes e

  -- a whole block stands at the front of the bytes, or they end without one
  block_or_end : (bytes : List ℕ) → HasBlock bytes ⊎ HasEnd bytes
  block_or_end bytes = by_block (block_or_none (take HEAD_LIMIT bytes))
    where
      by_length : HasNoBlock (take HEAD_LIMIT bytes) → (length bytes < HEAD_LIMIT) ⊎ (HEAD_LIMIT ≤ length bytes) → HasEnd bytes
      by_length none (inl short) = by_kind (subst HasNoBlock (take_all HEAD_LIMIT bytes (omega arith)) none)
        where
          by_kind : HasNoBlock bytes → HasEnd bytes
          by_kind (inl blank) = (End, tt, (blank, short))
          by_kind (inr begun) = (Truncated, tt, inl (begun, short))
      by_length none (inr long) = (HeadLong, tt, (long, none))

      by_block : BlockOrNone (take HEAD_LIMIT bytes) → HasBlock bytes ⊎ HasEnd bytes
      by_block (inl (begin, end, block)) =
          inl (record {
            begin = begin;
            end = end;
            block =
                subst (λ (l : List ℕ). IsBlockAt l begin end) (take-append-drop HEAD_LIMIT bytes)
                (IsBlockAt-append (take HEAD_LIMIT bytes) (drop HEAD_LIMIT bytes) begin end block);
            limit = omega (arith, block.within, length-take HEAD_LIMIT bytes);
          })
      by_block (inr none) = inr (by_length none (cases_lt (length bytes) HEAD_LIMIT))

  -- ---- what stands behind the search

  -- the bytes begin with a message, or come to an end
  abbrev MessageOrEnd : List ℕ → Type 0
  MessageOrEnd bytes = ((m : Message) × (rest : List ℕ) × BeginsWithin body_limit bytes m rest) ⊎ HasEnd bytes

  -- what a message needs of a head, with a body of n bytes
  abbrev kept_of : RequestHead → ℕ → Head
  kept_of head n = record {
    method = head.method;
    target = head.target;
    close = ends_link head.minor (fields_of head);
    authorization = first_value (codes "authorization") (fields_of head);
    media = first_value (codes "content-type") (fields_of head);
    length = n;
  }

  module _ (bytes : List ℕ) (w : HasBlock bytes) where
    refused : (e : WireEnd) → RefusesHead body_limit (block_of bytes w) e → RefusesBlock body_limit bytes e
    refused e r = record { begin = w.begin; end = w.end; block = w.block; limit = w.limit; refused = r }

    -- the body is whole, or it isn't
    by_body : (kept : Head) → ReadsHead body_limit (block_of bytes w) kept
        → (length (drop w.end bytes) < kept.length) ⊎ (kept.length ≤ length (drop w.end bytes)) → MessageOrEnd bytes
    by_body kept head (inl short) =
        inr (
          Truncated,
          tt,
          inr (record { begin = w.begin; end = w.end; block = w.block; limit = w.limit; kept = kept; head = head; short = short }),
        )
    by_body kept head (inr enough) =
        let behind = drop w.end bytes in
        let body = take kept.length behind in
        let after = drop kept.length behind in
        inl (
          message_of kept body,
          after,
          subst (λ (l : List ℕ). BeginsWithin body_limit l (message_of kept body) after) (append-nil bytes)
              (BeginsWith-from_parts body_limit bytes [] body after w.begin w.end kept w.block w.limit head
              (append-nil behind ∙ sym (take-append-drop kept.length behind)) (length-take-le kept.length behind enough)),
        )

    module _ (head : RequestHead) (whole : IsHeadOf (block_of bytes w) head) where
      by_limit : IsPlain head → (n : ℕ) → body_length (fields_of head) ≡ Some n → (body_limit < n) ⊎ (n ≤ body_limit) → MessageOrEnd bytes
      by_limit plain n size (inl many) = inr (BodyLong, tt, refused BodyLong (head, whole, plain, rw size many))
      by_limit plain n size (inr fits) =
          let kept = kept_of head n in
          let reads : ReadsHead body_limit (block_of bytes w) kept = record {
            head = head;
            whole = whole;
            plain = plain;
            length = size;
            fits = fits;
            method = refl;
            target = refl;
            close = refl;
            authorization = refl;
            media = refl;
          } in
          by_body kept reads (cases_lt (length (drop w.end bytes)) n)

      by_length : IsPlain head → (size : Option ℕ) → body_length (fields_of head) ≡ size → MessageOrEnd bytes
      by_length plain None none = inr (BadLength, tt, refused BadLength (head, whole, plain, rw none refl))
      by_length plain (Some n) size = by_limit plain n size (cases_lt body_limit n)

      by_coding : (coded : Bool) → is_some (first_value (codes "transfer-encoding") (fields_of head)) ≡ coded → MessageOrEnd bytes
      by_coding true coded = inr (Coded, tt, refused Coded (head, whole, λ plain. false≢true (sym plain ∙ coded)))
      by_coding false plain = by_length plain (body_length (fields_of head)) refl

    by_head : Dec ((head : RequestHead) × IsHeadOf (block_of bytes w) head) → MessageOrEnd bytes
    by_head (yes (head, whole)) = by_coding head whole (is_some (first_value (codes "transfer-encoding") (fields_of head))) refl
    by_head (no none) = inr (BadHead, tt, refused BadHead (λ head whole. none (head, whole)))

  message_or_end : (bytes : List ℕ) → MessageOrEnd bytes
  message_or_end bytes = by (block_or_end bytes)
    where
      by : HasBlock bytes ⊎ HasEnd bytes → MessageOrEnd bytes
      by (inl w) = by_head bytes w (head_decided (block_of bytes w))
      by (inr ends) = inr ends

  -- ---- the messages, and the end behind them

  abbrev HasReading : List ℕ → Type 0
  HasReading bytes = (messages : List Message) × (e : WireEnd) × IsTold e × AreMessages body_limit bytes messages e

  -- by the length, since what follows a message is shorter
  reading_within : (n : ℕ) (bytes : List ℕ) → length bytes < n → HasReading bytes
  reading_within zero bytes below = absurd (omega arith)
  reading_within (suc n) bytes below = by (message_or_end bytes) (λ rest shorter. reading_within n rest (omega arith))
    where
      with_message : (m : Message) (rest : List ℕ) → BeginsWithin body_limit bytes m rest → HasReading rest → HasReading bytes
      with_message m rest begins (messages, e, told, (last, more, ends)) = (m ∷ messages, e, told, (last, (rest, begins, more), ends))

      by : MessageOrEnd bytes → ((rest : List ℕ) → length rest < length bytes → HasReading rest) → HasReading bytes
      by (inl (m, rest, begins)) behind =
          with_message m rest begins (behind rest (BeginsWith-shorter body_limit bytes rest m begins))
      by (inr (e, told, ends)) behind = ([], e, told, (bytes, refl, ends))

  pub some_reading : (bytes : List ℕ) → HasReading bytes
  some_reading bytes = reading_within (suc (length bytes)) bytes (omega arith)
