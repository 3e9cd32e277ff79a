-- What reading a message gives.
use Rattle.std.proofs.Common.{◌≡◌, ℕ, ◌<◌, ◌≤◌, List, [], ◌∷◌, ◌++◌, take, drop, length, slice_range, Option, Some, None, Ok, Err, inl, inr, refl, sym, ap, ◌∙◌, append_assoc, append-nil, arith, length-append, length-drop}
use Rattle.std.specs.List.{concat}
use Rattle.std.proofs.lemmas.List.{take-append-drop, length-take-le, drop_at, drop-append-le}
use Rattle.osm_outside.specs.Told.{Told}
use Rattle.osm_base.specs.declared.limits.TheConstants.{HEAD_LIMIT}
use Rattle.http_wire.specs.declared.end.WireEnd.{WireEnd}
use Rattle.http_wire.specs.declared.end.WireEnd.TheVariants.{Truncated, BadHead, BadLength, BodyLong, Coded, ReadFault, Memory}
use Rattle.http_wire.specs.declared.head.Head.{Head}
use Rattle.http_wire.specs.Received.{Taken, Fills, HaveBytes, AgreesWithInput}
use Rattle.http_wire.specs.Block.{IsBlockAt, IsSearched}
use Rattle.http_wire.specs.Body.{AreShort, Delivers, LacksBody, BodyStops}
use Rattle.http_wire.specs.Head.{ReadsHead, RefusesHead}
use Rattle.http_wire.specs.End.{EndsAs, IsOpenBody, IsUnfinished, input_ended}
use Rattle.http_wire.specs.Message.{BeginsWithin, message_of}
use Rattle.http_wire.specs.Wire.{AreNeeded, Gathers, Reads, end_limit}
use Rattle.http_wire.proofs.ListLemmas.{slice_range-append, slice_range-front}
use Rattle.http_wire.proofs.BlockLemmas.{IsBlockAt-take, IsBlockAt-append, HasNoBlock-from_search}
use Rattle.http_wire.proofs.ReceivedLemmas.{concat-append, concat-push, Taken-trans, HaveBytes-append, GaveAll-push, AgreesWithInput-behind, AreNeeded-append, AreNeeded-push, AreShort-push, nothing}

-- ---- where no head block is whole

agrees_at_none : (begin : Option ℕ) (b c : Told) (pieces : List (List ℕ)) (now after : List ℕ) → HaveBytes pieces
    → (f : Fills b c now after 0) → AgreesWithInput (input_ended begin) (pieces ++ f.piece ∷ []) c.left
agrees_at_none None b c pieces now after some f = GaveAll-push pieces f.piece c.left some f.size (f.at_end refl)
agrees_at_none (Some begin) b c pieces now after some f = GaveAll-push pieces f.piece c.left some f.size (f.at_end refl)

-- `body_limit` is the most bytes that a body may have.
module _ (body_limit : ℕ) where
  pub Reads-from_end : (a b : Told) (before now after : List ℕ) (end : WireEnd) → (g : Gathers body_limit a b before now)
      → AgreesWithInput end g.pieces b.left → length now ≤ end_limit body_limit end → EndsAs body_limit now end → Reads body_limit a b before (Err end) after
  Reads-from_end a b before now after end g agrees limit ends = record {
    pieces = g.pieces;
    taken = g.taken;
    needed = g.needed;
    stops = agrees;
    limit = rw g.joined at limit;
    gives = rw g.joined at ends;
  }

  unfinished : (now : List ℕ) (begin : Option ℕ) → IsSearched now begin (length now) → length now < HEAD_LIMIT → IsUnfinished body_limit now
  unfinished now begin searched short = inl (HasNoBlock-from_search now begin searched, short)

  at_none : (now : List ℕ) (begin : Option ℕ) → IsSearched now begin (length now) → length now < HEAD_LIMIT
      → EndsAs body_limit now (input_ended begin) × (length now ≤ end_limit body_limit (input_ended begin))
  at_none now None searched short = ((searched, short), omega arith)
  at_none now (Some begin) searched short =
      (inl (record { begin = begin; begins = searched.0; no_end = searched.1 }, short), omega arith)

  -- the input ended
  pub Reads-from_none : (a b c : Told) (before now next after : List ℕ) (begin : Option ℕ) → Gathers body_limit a b before now
      → IsSearched now begin (length now) → length now < HEAD_LIMIT → Fills b c now next 0 → Reads body_limit a c before (Err (input_ended begin)) after
  Reads-from_none a b c before now next after begin g searched short f =
      let pieces = g.pieces ++ f.piece ∷ [] in
      let same : before ++ concat pieces ≡ now =
      ap (λ l. before ++ l) (concat-push g.pieces f.piece) ∙ sym (append_assoc before (concat g.pieces) f.piece)
      ∙ ap (λ l. l ++ f.piece) (sym g.joined) ∙ ap (λ l. now ++ l) (nothing f.piece f.size) ∙ append-nil now in
      let told = at_none now begin searched short in
      record {
        pieces = pieces;
        taken = Taken-trans a b c g.pieces (f.piece ∷ []) g.taken f.taken;
        needed = AreNeeded-push body_limit before g.pieces f.piece g.needed (rw g.joined at (unfinished now begin searched short));
        stops = agrees_at_none begin b c g.pieces now next g.some f;
        limit = rw same told.1;
        gives = rw same told.0;
      }

  -- reading failed
  Gathers-still : (a b c : Told) (before now : List ℕ) → Gathers body_limit a b before now → Taken b c [] → Gathers body_limit a c before now
  Gathers-still a b c before now g taken = record {
    pieces = g.pieces;
    taken = rw (append-nil g.pieces) at (Taken-trans a b c g.pieces [] g.taken taken);
    needed = g.needed;
    some = g.some;
    joined = g.joined;
  }

  pub Reads-from_fault : (a b c : Told) (before now after : List ℕ) (begin : Option ℕ) → Gathers body_limit a b before now
      → IsSearched now begin (length now) → length now < HEAD_LIMIT → Taken b c [] → Reads body_limit a c before (Err ReadFault) after
  unfolding Gathers-still
  Reads-from_fault a b c before now after begin g searched short taken =
      let still = Gathers-still a b c before now g taken in
      Reads-from_end a c before now after ReadFault still g.some (omega arith) (unfinished now begin searched short)

-- ---- where the body stops

pub BodyStops-no_memory : (a b : Told) (before : List ℕ) (size : ℕ) (part kept : List ℕ) → Delivers a b before size part kept
    → length part ≤ size → length kept ≤ HEAD_LIMIT → BodyStops a b before size Memory
BodyStops-no_memory a b before size part kept d fits few = record {
  pieces = d.pieces;
  taken = d.taken;
  short = d.short;
  agrees = d.some;
  lacks = rw d.joined (omega (arith, length-append part kept));
}

pub BodyStops-cut : (a b c : Told) (before : List ℕ) (size : ℕ) (part kept after : List ℕ) → Delivers a b before size part kept
    → length (part ++ kept) < size → Fills b c kept after 0 → BodyStops a c before size Truncated
BodyStops-cut a b c before size part kept after d lacks f =
    let pieces = d.pieces ++ f.piece ∷ [] in
    let lack : length (before ++ concat d.pieces) < size = rw (← d.joined) at lacks in
    let same : before ++ concat pieces ≡ before ++ concat d.pieces =
    ap (λ l. before ++ l) (concat-push d.pieces f.piece ∙ ap (λ l. concat d.pieces ++ l) (nothing f.piece f.size) ∙ append-nil (concat d.pieces)) in
    record {
      pieces = pieces;
      taken = Taken-trans a b c d.pieces (f.piece ∷ []) d.taken f.taken;
      short = AreShort-push before size d.pieces f.piece d.short lack;
      agrees = GaveAll-push d.pieces f.piece c.left d.some f.size (f.at_end refl);
      lacks = rw same lack;
    }

pub BodyStops-fault : (a b c : Told) (before : List ℕ) (size : ℕ) (part kept : List ℕ) → Delivers a b before size part kept
    → length (part ++ kept) < size → Taken b c [] → BodyStops a c before size ReadFault
BodyStops-fault a b c before size part kept d lacks taken = record {
  pieces = d.pieces;
  taken = rw (append-nil d.pieces) at (Taken-trans a b c d.pieces [] d.taken taken);
  short = d.short;
  agrees = d.some;
  lacks = rw (← d.joined) at lacks;
}

-- ---- a head and what follows it

-- `body_limit` is the most bytes that a body may have.
module _ (body_limit : ℕ) where
  -- the head block stands in what was kept, and the body behind it
  pub BeginsWith-from_parts : (bytes more body after : List ℕ) (begin end : ℕ) (kept : Head)
      → IsBlockAt bytes begin end → end ≤ HEAD_LIMIT → ReadsHead body_limit (slice_range bytes begin end) kept
      → drop end bytes ++ more ≡ body ++ after → length body ≡ kept.length
      → BeginsWithin body_limit (bytes ++ more) (message_of kept body) after
  BeginsWith-from_parts bytes more body after begin end kept block limit head rest size =
      let front = take end bytes in
      let front_len : length front ≡ end = length-take-le end bytes block.within in
      let behind : drop end (front ++ body) ≡ body = drop_at front body end front_len in (
        front ++ body,
        record {
          begin = begin;
          end = end;
          block = IsBlockAt-append front body begin end (IsBlockAt-take bytes end begin end (omega arith) block);
          limit = limit;
          kept = kept;
          head = rw (slice_range-front bytes body end begin end (omega arith) block.within) head;
          body = ap length behind ∙ size;
          message_is = ap (message_of kept) (sym behind);
        },
        ap (λ l. l ++ more) (sym (take-append-drop end bytes)) ∙ append_assoc front (drop end bytes) more
            ∙ ap (λ l. front ++ l) rest ∙ sym (append_assoc front body after),
      )

  pub IsOpenBody-from_parts : (bytes more : List ℕ) (begin end : ℕ) (kept : Head)
      → IsBlockAt bytes begin end → end ≤ HEAD_LIMIT → ReadsHead body_limit (slice_range bytes begin end) kept
      → length (drop end bytes ++ more) < kept.length → IsOpenBody body_limit (bytes ++ more)
  IsOpenBody-from_parts bytes more begin end kept block limit head short = record {
    begin = begin;
    end = end;
    block = IsBlockAt-append bytes more begin end block;
    limit = limit;
    kept = kept;
    head = rw (slice_range-append bytes more begin end block.within) head;
    short = rw (drop-append-le end bytes more block.within) short;
  }

  -- the head block gives no message
  pub Reads-from_refusal : (a b : Told) (before now after : List ℕ) (begin end : ℕ) (why : WireEnd) → Gathers body_limit a b before now
      → IsBlockAt now begin end → length now ≤ HEAD_LIMIT → RefusesHead body_limit (slice_range now begin end) why
      → Reads body_limit a b before (Err why) after
  Reads-from_refusal a b before now after begin end why g block few refused = by why refused
    where
      limit : end ≤ HEAD_LIMIT
      limit = omega (arith, block.within)

      by : (why : WireEnd) → RefusesHead body_limit (slice_range now begin end) why → Reads body_limit a b before (Err why) after
      by BadHead r =
          Reads-from_end body_limit a b before now after BadHead g g.some few
          (record { begin = begin; end = end; block = block; limit = limit; refused = r })
      by Coded r =
          Reads-from_end body_limit a b before now after Coded g g.some few
          (record { begin = begin; end = end; block = block; limit = limit; refused = r })
      by BadLength r =
          Reads-from_end body_limit a b before now after BadLength g g.some few
          (record { begin = begin; end = end; block = block; limit = limit; refused = r })
      by BodyLong r =
          Reads-from_end body_limit a b before now after BodyLong g g.some few
          (record { begin = begin; end = end; block = block; limit = limit; refused = r })
      by Memory r = Reads-from_end body_limit a b before now after Memory g g.some (omega arith) tt
      by other r = absurd r

  -- what is read of a body is needed for the message
  AreNeeded-from_short : (bytes more : List ℕ) (begin end : ℕ) (kept : Head) (pieces : List (List ℕ)) → IsBlockAt bytes begin end
      → end ≤ HEAD_LIMIT → ReadsHead body_limit (slice_range bytes begin end) kept → AreShort (drop end bytes ++ more) kept.length pieces
      → AreNeeded body_limit (bytes ++ more) pieces
  AreNeeded-from_short bytes more begin end kept [] block limit head short = tt
  AreNeeded-from_short bytes more begin end kept (piece ∷ pieces) block limit head short = (
    inr (IsOpenBody-from_parts bytes more begin end kept block limit head short.0),
    rw (append_assoc bytes more piece)
        (AreNeeded-from_short bytes (more ++ piece) begin end kept pieces block limit head
        (rw (append_assoc (drop end bytes) more piece) at short.1)),
  )

  -- what was read for the head and for the body was needed
  all_needed : (a b : Told) (before now : List ℕ) (begin end : ℕ) (kept : Head) (pieces : List (List ℕ)) (g : Gathers body_limit a b before now)
      → IsBlockAt now begin end → end ≤ HEAD_LIMIT → ReadsHead body_limit (slice_range now begin end) kept
      → AreShort (drop end now) kept.length pieces → AreNeeded body_limit before (g.pieces ++ pieces)
  all_needed a b before now begin end kept pieces g block limit head short =
      let none : drop end now ++ [] ≡ drop end now = append-nil (drop end now) in
      let needed = AreNeeded-from_short now [] begin end kept pieces block limit head (rw none short) in
      AreNeeded-append body_limit before g.pieces pieces g.needed (rw (append-nil now, g.joined) at needed)

  joined_with : (a b : Told) (before now : List ℕ) (pieces : List (List ℕ)) (g : Gathers body_limit a b before now)
      → now ++ concat pieces ≡ before ++ concat (g.pieces ++ pieces)
  joined_with a b before now pieces g =
      ap (λ l. l ++ concat pieces) g.joined ∙ append_assoc before (concat g.pieces) (concat pieces)
      ∙ ap (λ l. before ++ l) (sym (concat-append g.pieces pieces))

  -- the body was read too
  pub Reads-from_body : (a b c : Told) (before now body after : List ℕ) (begin end : ℕ) (kept : Head) → Gathers body_limit a b before now
      → IsBlockAt now begin end → end ≤ HEAD_LIMIT → ReadsHead body_limit (slice_range now begin end) kept
      → Delivers b c (drop end now) kept.length body after → length body ≡ kept.length → length after ≤ HEAD_LIMIT
      → Reads body_limit a c before (Ok (message_of kept body)) after
  Reads-from_body a b c before now body after begin end kept g block limit head d size few = record {
    pieces = g.pieces ++ d.pieces;
    taken = Taken-trans a b c g.pieces d.pieces g.taken d.taken;
    needed = all_needed a b before now begin end kept d.pieces g block limit head d.short;
    stops = HaveBytes-append g.pieces d.pieces g.some d.some;
    limit = few;
    gives = rw (joined_with a b before now d.pieces g) at
        (BeginsWith-from_parts now (concat d.pieces) body after begin end kept block limit head d.joined size);
  }

  -- what there is where a body stops
  ends_in_body : (bytes more : List ℕ) (begin end : ℕ) (kept : Head) (why : WireEnd) → IsBlockAt bytes begin end → end ≤ HEAD_LIMIT
      → ReadsHead body_limit (slice_range bytes begin end) kept → LacksBody (drop end bytes ++ more) kept.length why
      → EndsAs body_limit (bytes ++ more) why × (length (bytes ++ more) ≤ end_limit body_limit why)
  ends_in_body bytes more begin end kept Truncated block limit head lacks = (
    inr (IsOpenBody-from_parts bytes more begin end kept block limit head lacks),
    omega (arith, lacks, limit, block.within, head.fits, length-drop end bytes, length-append (drop end bytes) more, length-append bytes more),
  )
  ends_in_body bytes more begin end kept ReadFault block limit head lacks = (
    inr (IsOpenBody-from_parts bytes more begin end kept block limit head lacks),
    omega (arith, lacks, limit, block.within, head.fits, length-drop end bytes, length-append (drop end bytes) more, length-append bytes more),
  )
  ends_in_body bytes more begin end kept Memory block limit head lacks = (
    tt,
    omega (arith, lacks, limit, block.within, head.fits, length-drop end bytes, length-append (drop end bytes) more, length-append bytes more),
  )
  ends_in_body bytes more begin end kept other block limit head lacks = absurd lacks

  pub Reads-from_stop : (a b c : Told) (before now after : List ℕ) (begin end : ℕ) (kept : Head) (why : WireEnd) → Gathers body_limit a b before now
      → IsBlockAt now begin end → end ≤ HEAD_LIMIT → ReadsHead body_limit (slice_range now begin end) kept
      → BodyStops b c (drop end now) kept.length why → Reads body_limit a c before (Err why) after
  Reads-from_stop a b c before now after begin end kept why g block limit head s =
      let told = ends_in_body now (concat s.pieces) begin end kept why block limit head s.lacks in
      let same = joined_with a b before now s.pieces g in
      record {
        pieces = g.pieces ++ s.pieces;
        taken = Taken-trans a b c g.pieces s.pieces g.taken s.taken;
        needed = all_needed a b before now begin end kept s.pieces g block limit head s.short;
        stops = AgreesWithInput-behind why g.pieces s.pieces c.left g.some s.agrees;
        limit = rw same at told.1;
        gives = rw same at told.0;
      }
