-- Bytes come to one end at most, and to none where a message begins.
use Rattle.std.proofs.Common.{◌≡◌, ℕ, suc, ◌-◌, ◌<◌, ◌≤◌, ◌⊎◌, inl, inr, Bool, true, false, nat_le, nat_lt, List, [], ◌∷◌, ◌++◌, length, take, get_or, slice_range, codes, Option, Some, None, IsNone, IsSomeAnd, is_some, if◌then◌else◌, refl, sym, ap, subst, ◌∙◌, arith, append_assoc, length-append, length-drop}
use Rattle.std.specs.List.{list_all}
use Rattle.std.proofs.lemmas.Bool.{false≢true, and_from}
use Rattle.std.proofs.lemmas.Bool.Decides.{nat_tests}
use Rattle.std.proofs.lemmas.List.Folds.{list_all_at}
use Rattle.std.proofs.lemmas.List.{take-append-le}
use Rattle.httparse.specs.Grammar.{RequestHead}
use Rattle.httparse.proofs.GrammarLemmas.{request_unique}
use Rattle.osm_base.specs.declared.limits.TheConstants.{HEAD_LIMIT}
use Rattle.http_wire.specs.declared.end.WireEnd.{WireEnd}
use Rattle.http_wire.specs.declared.end.WireEnd.TheVariants.{End, Truncated, BadHead, HeadLong, BadLength, BodyLong, Coded, ReadFault, Memory}
use Rattle.http_wire.specs.declared.head.Head.{Head}
use Rattle.http_wire.specs.declared.message.Message.{Message}
use Rattle.http_wire.specs.Block.{is_line_byte, IsBlockAt, IsBlank, IsOpenBlock, HasNoBlock}
use Rattle.http_wire.specs.Fields.{first_value}
use Rattle.http_wire.specs.Length.{body_length}
use Rattle.http_wire.specs.Head.{IsHeadOf, HasNoHead, ReadsHead, RefusesHead, RefusesBlock, fields_of, IsPlain}
use Rattle.http_wire.specs.End.{EndsAs, IsCut, IsOpenBody, IsUnfinished, IsTold, IsSettled}
use Rattle.http_wire.specs.Message.{BeginsWithin, HasMessages, AreMessages}
use Rattle.http_wire.proofs.BlockLemmas.{IsBlockAt-append, IsBlockAt-take}
use Rattle.http_wire.proofs.ListLemmas.{slice_range-append}
use Rattle.http_wire.proofs.UniqueLemmas.{one_begin, one_end, same_head, one_message}

-- a whole head block stands at the front of the bytes
pub record HasBlock (bytes : List ℕ) : Type 0 where
  pub begin : ℕ
  pub end : ℕ
  pub block : IsBlockAt bytes begin end
  pub limit : end ≤ HEAD_LIMIT

blank_no_block : (bytes : List ℕ) → IsBlank bytes → ¬ (HasBlock bytes)
blank_no_block bytes blank w =
    false≢true (sym w.block.begins.begun ∙ blank w.begin w.block.begins.within)

open_no_block : (bytes : List ℕ) → IsOpenBlock bytes → ¬ (HasBlock bytes)
open_no_block bytes o w =
    let begins : o.begin ≡ w.begin = one_begin bytes o.begin w.begin o.begins w.block.begins in
    false≢true (sym (o.no_end (w.end - 1) (omega (arith, w.block.after)) (omega (arith, w.block.after, w.block.within))) ∙ w.block.last)

no_block : (bytes : List ℕ) → HasNoBlock bytes → ¬ (HasBlock bytes)
no_block bytes (inl blank) w = blank_no_block bytes blank w
no_block bytes (inr o) w = open_no_block bytes o w

long_no_block : (bytes : List ℕ) → HasNoBlock (take HEAD_LIMIT bytes) → ¬ (HasBlock bytes)
long_no_block bytes none w =
    no_block (take HEAD_LIMIT bytes) none (record {
      begin = w.begin;
      end = w.end;
      block = IsBlockAt-take bytes HEAD_LIMIT w.begin w.end w.limit w.block;
      limit = w.limit;
    })

-- two whole head blocks at the front are one
same_begin : (bytes : List ℕ) (v w : HasBlock bytes) → v.begin ≡ w.begin
same_begin bytes v w = one_begin bytes v.begin w.begin v.block.begins w.block.begins

same_end : (bytes : List ℕ) (v w : HasBlock bytes) → v.end ≡ w.end
same_end bytes v w =
    one_end bytes v.begin v.end w.end v.block
    (subst (λ (b : ℕ). IsBlockAt bytes b w.end) (sym (same_begin bytes v w)) w.block)

abbrev pub block_of : (bytes : List ℕ) → HasBlock bytes → List ℕ
block_of bytes w = slice_range bytes w.begin w.end

same_block : (bytes : List ℕ) (v w : HasBlock bytes) → block_of bytes v ≡ block_of bytes w
same_block bytes v w = λ i. slice_range bytes (same_begin bytes v w i) (same_end bytes v w i)

-- the end of bytes with no head block
lacking_end : List ℕ → WireEnd
lacking_end bytes =
    if nat_le HEAD_LIMIT (length bytes) then HeadLong else (if list_all is_line_byte bytes then End else Truncated)

-- `body_limit` is the most bytes that a body may have.
module _ (body_limit : ℕ) where
  -- the end of bytes with this head, where they come to one
  abbrev end_by_length : Option ℕ → WireEnd
  end_by_length None = BadLength
  end_by_length (Some n) = if nat_lt body_limit n then BodyLong else Truncated

  abbrev end_by_head : RequestHead → WireEnd
  end_by_head head = if is_some (first_value (codes "transfer-encoding") (fields_of head)) then Coded else end_by_length (body_length (fields_of head))

  abbrev OnBlock : List ℕ → WireEnd → Type 0
  OnBlock block e = (HasNoHead block × (e ≡ BadHead)) ⊎ ((head : RequestHead) × IsHeadOf block head × (e ≡ end_by_head head))

  -- what an end says, without a head block and with one
  abbrev Sides : List ℕ → WireEnd → Type 0
  Sides bytes e = ((¬ (HasBlock bytes)) × (e ≡ lacking_end bytes)) ⊎ ((w : HasBlock bytes) × OnBlock (block_of bytes w) e)

  same_head_tree : (block : List ℕ) (g h : RequestHead) → IsHeadOf block g → IsHeadOf block h → g ≡ h
  same_head_tree block g h x y = (request_unique block g h [] [] x.reads y.reads).0

  one_on_block : (block : List ℕ) (e f : WireEnd) → OnBlock block e → OnBlock block f → e ≡ f
  one_on_block block e f (inl x) (inl y) = x.1 ∙ sym y.1
  one_on_block block e f (inl x) (inr y) = absurd (x.0 y.0 y.1)
  one_on_block block e f (inr x) (inl y) = absurd (y.0 x.0 x.1)
  one_on_block block e f (inr x) (inr y) = x.2 ∙ ap end_by_head (same_head_tree block x.0 y.0 x.1 y.1) ∙ sym y.2

  one_of_sides : (bytes : List ℕ) (e f : WireEnd) → Sides bytes e → Sides bytes f → e ≡ f
  one_of_sides bytes e f (inl x) (inl y) = x.1 ∙ sym y.1
  one_of_sides bytes e f (inl x) (inr y) = absurd (x.0 y.0)
  one_of_sides bytes e f (inr x) (inl y) = absurd (y.0 x.0)
  one_of_sides bytes e f (inr x) (inr y) =
      one_on_block (block_of bytes x.0) e f x.1
      (subst (λ (block : List ℕ). OnBlock block f) (same_block bytes y.0 x.0) y.1)

  all_from_places : (p : ℕ → Bool) (xs : List ℕ) → ((at : ℕ) → at < length xs → p (get_or xs at 0) ≡ true) → list_all p xs ≡ true
  all_from_places p [] each = refl
  all_from_places p (x ∷ xs) each =
      and_from (p x) (list_all p xs) (each 0 (omega arith)) (all_from_places p xs (λ at below. each (suc at) (omega arith)))

  -- no byte but line ends
  all_line_bytes : (bytes : List ℕ) → IsBlank bytes → list_all is_line_byte bytes ≡ true
  all_line_bytes bytes blank = all_from_places is_line_byte bytes blank

  other_byte : (bytes : List ℕ) → IsOpenBlock bytes → list_all is_line_byte bytes ≡ false
  other_byte bytes o = list_all_at is_line_byte bytes o.begin 0 o.begins.within o.begins.begun

  lacking_blank : (bytes : List ℕ) → IsBlank bytes → length bytes < HEAD_LIMIT → End ≡ lacking_end bytes
  unfolding lacking_end
  lacking_blank bytes blank short =
      let test : nat_le HEAD_LIMIT (length bytes) ≡ false = grind (arith, nat_tests) in
      rw (test, all_line_bytes bytes blank) refl

  lacking_open : (bytes : List ℕ) → IsOpenBlock bytes → length bytes < HEAD_LIMIT → Truncated ≡ lacking_end bytes
  unfolding lacking_end
  lacking_open bytes o short =
      let test : nat_le HEAD_LIMIT (length bytes) ≡ false = grind (arith, nat_tests) in
      rw (test, other_byte bytes o) refl

  lacking_long : (bytes : List ℕ) → HEAD_LIMIT ≤ length bytes → HeadLong ≡ lacking_end bytes
  unfolding lacking_end
  lacking_long bytes long =
      let test : nat_le HEAD_LIMIT (length bytes) ≡ true = grind (arith, nat_tests) in
      rw test refl

  -- a head without a coding and with a length that fits comes to no refusal
  end_by_fitting : (head : RequestHead) (n : ℕ) → IsPlain head → body_length (fields_of head) ≡ Some n → n ≤ body_limit
      → Truncated ≡ end_by_head head
  end_by_fitting head n plain size fits =
      let test : nat_lt body_limit n ≡ false = grind (arith, nat_tests) in
      rw (plain, size, test) refl

  end_by_coding : (head : RequestHead) → ¬ (IsPlain head) → Coded ≡ end_by_head head
  end_by_coding head coded = by_test (is_some (first_value (codes "transfer-encoding") (fields_of head))) refl
    where
      by_test : (b : Bool) → is_some (first_value (codes "transfer-encoding") (fields_of head)) ≡ b → Coded ≡ end_by_head head
      by_test true e = rw e refl
      by_test false e = absurd (coded e)

  bad_length : (size : Option ℕ) → IsNone size → BadLength ≡ end_by_length size
  bad_length None none = refl
  bad_length (Some n) none = absurd (false≢true (sym none))

  long_body : (size : Option ℕ) → IsSomeAnd size (λ n. body_limit < n) → BodyLong ≡ end_by_length size
  long_body None some = absurd some
  long_body (Some n) some =
      let test : nat_lt body_limit n ≡ true = grind (arith, nat_tests) in
      rw test refl

  -- the refusal of a head block
  OnBlock-from_refusal : (block : List ℕ) (e : WireEnd) → IsTold e → RefusesHead body_limit block e → OnBlock block e
  OnBlock-from_refusal block BadHead told none = inl (none, refl)
  OnBlock-from_refusal block Coded told r = inr (r.0, r.1, end_by_coding r.0 r.2)
  OnBlock-from_refusal block BadLength told r = inr (r.0, r.1, rw r.2 (bad_length (body_length (fields_of r.0)) r.3))
  OnBlock-from_refusal block BodyLong told r = inr (r.0, r.1, rw r.2 (long_body (body_length (fields_of r.0)) r.3))
  OnBlock-from_refusal block Memory told r = absurd told
  OnBlock-from_refusal block other told r = absurd r

  Sides-from_refusal : (bytes : List ℕ) (e : WireEnd) → IsTold e → RefusesBlock body_limit bytes e → Sides bytes e
  Sides-from_refusal bytes e told r =
      inr (
        record { begin = r.begin; end = r.end; block = r.block; limit = r.limit },
        OnBlock-from_refusal (slice_range bytes r.begin r.end) e told r.refused,
      )

  Sides-from_cut : (bytes : List ℕ) → IsCut body_limit bytes → Sides bytes Truncated
  Sides-from_cut bytes (inl o) = inl (open_no_block bytes o.0, lacking_open bytes o.0 o.1)
  Sides-from_cut bytes (inr o) =
      inr (
        record { begin = o.begin; end = o.end; block = o.block; limit = o.limit },
        inr (o.head.head, o.head.whole, end_by_fitting o.head.head o.kept.length o.head.plain o.head.length o.head.fits),
      )

  sides : (bytes : List ℕ) (e : WireEnd) → IsTold e → EndsAs body_limit bytes e → Sides bytes e
  sides bytes End told ends = inl (blank_no_block bytes ends.0, lacking_blank bytes ends.0 ends.1)
  sides bytes Truncated told ends = Sides-from_cut bytes ends
  sides bytes HeadLong told ends = inl (long_no_block bytes ends.1, lacking_long bytes ends.0)
  sides bytes BadHead told ends = Sides-from_refusal bytes BadHead tt ends
  sides bytes Coded told ends = Sides-from_refusal bytes Coded tt ends
  sides bytes BadLength told ends = Sides-from_refusal bytes BadLength tt ends
  sides bytes BodyLong told ends = Sides-from_refusal bytes BodyLong tt ends
  sides bytes ReadFault told ends = absurd told
  sides bytes Memory told ends = absurd told

  -- bytes come to one end at most
  pub one_end_of : (bytes : List ℕ) (e f : WireEnd) → IsTold e → IsTold f → EndsAs body_limit bytes e → EndsAs body_limit bytes f → e ≡ f
  one_end_of bytes e f told tell ends comes = one_of_sides bytes e f (sides bytes e told ends) (sides bytes f tell comes)

  HasBlock-from_message : (bytes rest : List ℕ) (m : Message) → BeginsWithin body_limit bytes m rest → HasBlock bytes
  HasBlock-from_message bytes rest m (text, message, joined) = record {
    begin = message.begin;
    end = message.end;
    block = subst (λ (l : List ℕ). IsBlockAt l message.begin message.end) (sym joined) (IsBlockAt-append text rest message.begin message.end message.block);
    limit = message.limit;
  }

  -- what stands in the block of a message
  head_of_message : (bytes rest : List ℕ) (m : Message) (begins : BeginsWithin body_limit bytes m rest)
      → ReadsHead body_limit (block_of bytes (HasBlock-from_message bytes rest m begins)) begins.1.kept
  unfolding HasBlock-from_message
  head_of_message bytes rest m (text, message, joined) =
      rw (joined, slice_range-append text rest message.begin message.end message.block.within) message.head

  told_is_truncated : (bytes rest : List ℕ) (m : Message) (e : WireEnd) → BeginsWithin body_limit bytes m rest → IsTold e → EndsAs body_limit bytes e → e ≡ Truncated
  told_is_truncated bytes rest m e begins told ends = by_side (sides bytes e told ends)
    where
      w : HasBlock bytes
      w = HasBlock-from_message bytes rest m begins

      reads : ReadsHead body_limit (block_of bytes w) begins.1.kept
      reads = head_of_message bytes rest m begins

      by_side : Sides bytes e → e ≡ Truncated
      by_side (inl x) = absurd (x.0 w)
      by_side (inr x) =
          one_on_block (block_of bytes w) e Truncated
          (subst (λ (block : List ℕ). OnBlock block e) (same_block bytes x.0 w) x.1)
          (inr (reads.head, reads.whole, end_by_fitting reads.head begins.1.kept.length reads.plain reads.length reads.fits))

  open_body_no_message : (bytes rest : List ℕ) (m : Message) → BeginsWithin body_limit bytes m rest → ¬ (IsOpenBody body_limit bytes)
  unfolding HasBlock-from_message
  open_body_no_message bytes rest m (text, message, joined) o =
      let v : HasBlock bytes = record { begin = o.begin; end = o.end; block = o.block; limit = o.limit } in
      let w : HasBlock bytes = HasBlock-from_message bytes rest m (text, message, joined) in
      let ends : o.end ≡ message.end = same_end bytes v w in
      let reads : ReadsHead body_limit (block_of bytes v) message.kept =
      subst (λ (block : List ℕ). ReadsHead body_limit block message.kept) (same_block bytes w v)
      (head_of_message bytes rest m (text, message, joined)) in
      let kept : o.kept ≡ message.kept = same_head body_limit (block_of bytes v) o.kept message.kept o.head reads in
      let size : o.kept.length ≡ message.kept.length = ap (λ (k : Head). k.length) kept in
      omega (arith, o.short, message.body, size, ends, length-drop o.end bytes, length-drop message.end text, ap length joined, length-append text rest, message.block.within)

  not_truncated : (bytes rest : List ℕ) (m : Message) → BeginsWithin body_limit bytes m rest → ¬ (IsCut body_limit bytes)
  not_truncated bytes rest m begins (inl o) = open_no_block bytes o.0 (HasBlock-from_message bytes rest m begins)
  not_truncated bytes rest m begins (inr o) = open_body_no_message bytes rest m begins o

  -- bytes that begin with a message come to no end there
  pub no_end_at : (bytes rest : List ℕ) (m : Message) (e : WireEnd) → BeginsWithin body_limit bytes m rest → IsTold e → ¬ (EndsAs body_limit bytes e)
  no_end_at bytes rest m e begins told ends =
      not_truncated bytes rest m begins
      (subst (λ (f : WireEnd). EndsAs body_limit bytes f) (told_is_truncated bytes rest m e begins told ends) ends)

  -- nothing more is needed where a message is whole
  pub not_unfinished : (bytes rest : List ℕ) (m : Message) → BeginsWithin body_limit bytes m rest → ¬ (IsUnfinished body_limit bytes)
  not_unfinished bytes rest m begins (inl o) = no_block bytes o.0 (HasBlock-from_message bytes rest m begins)
  not_unfinished bytes rest m begins (inr o) = open_body_no_message bytes rest m begins o

  pub BeginsWith-shorter : (bytes rest : List ℕ) (m : Message) → BeginsWithin body_limit bytes m rest → length rest < length bytes
  BeginsWith-shorter bytes rest m (text, message, joined) =
      omega (arith, ap length joined, length-append text rest, message.block.within, message.block.after)

  pub BeginsWith-append : (bytes more rest : List ℕ) (m : Message) → BeginsWithin body_limit bytes m rest
      → BeginsWithin body_limit (bytes ++ more) m (rest ++ more)
  BeginsWith-append bytes more rest m (text, message, joined) =
      (text, message, ap (λ l. l ++ more) joined ∙ append_assoc text rest more)

  RefusesBlock-append : (bytes more : List ℕ) (e : WireEnd) → RefusesBlock body_limit bytes e → RefusesBlock body_limit (bytes ++ more) e
  RefusesBlock-append bytes more e r = record {
    begin = r.begin;
    end = r.end;
    block = IsBlockAt-append bytes more r.begin r.end r.block;
    limit = r.limit;
    refused = rw (slice_range-append bytes more r.begin r.end r.block.within) r.refused;
  }

  pub EndsAs-append : (bytes more : List ℕ) (e : WireEnd) → IsSettled e → EndsAs body_limit bytes e → EndsAs body_limit (bytes ++ more) e
  EndsAs-append bytes more HeadLong settled ends = (
    omega (arith, ends.0, length-append bytes more),
    rw (take-append-le HEAD_LIMIT bytes more ends.0) ends.1,
  )
  EndsAs-append bytes more BadHead settled ends = RefusesBlock-append bytes more BadHead ends
  EndsAs-append bytes more Coded settled ends = RefusesBlock-append bytes more Coded ends
  EndsAs-append bytes more BadLength settled ends = RefusesBlock-append bytes more BadLength ends
  EndsAs-append bytes more BodyLong settled ends = RefusesBlock-append bytes more BodyLong ends
  EndsAs-append bytes more End settled ends = absurd settled
  EndsAs-append bytes more Truncated settled ends = absurd settled
  EndsAs-append bytes more ReadFault settled ends = absurd settled
  EndsAs-append bytes more Memory settled ends = absurd settled

  -- the messages of bytes, and the end behind them, are the only ones
  pub one_reading_of : (bytes : List ℕ) (messages others : List Message) (e f : WireEnd) → IsTold e → IsTold f
      → AreMessages body_limit bytes messages e → AreMessages body_limit bytes others f → (messages ≡ others) × (e ≡ f)
  one_reading_of bytes [] [] e f told tell (rest, same, ends) (left, equal, comes) = (
    refl,
    one_end_of bytes e f told tell (subst (λ (l : List ℕ). EndsAs body_limit l e) (sym same) ends) (subst (λ (l : List ℕ). EndsAs body_limit l f) (sym equal) comes),
  )
  one_reading_of bytes [] (n ∷ others) e f told tell (rest, same, ends) (left, (behind, begins, more), comes) =
      absurd (no_end_at bytes behind n e begins told (subst (λ (l : List ℕ). EndsAs body_limit l e) (sym same) ends))
  one_reading_of bytes (m ∷ messages) [] e f told tell (rest, (behind, begins, more), ends) (left, equal, comes) =
      absurd (no_end_at bytes behind m f begins tell (subst (λ (l : List ℕ). EndsAs body_limit l f) (sym equal) comes))
  one_reading_of bytes (m ∷ messages) (n ∷ others) e f told tell (rest, (behind, begins, more), ends) (left, (after, starts, others_follow), comes) =
      let one = one_message body_limit bytes behind after m n begins starts in
      let same : behind ≡ after = one.1 in
      let further = one_reading_of behind messages others e f told tell (rest, more, ends)
      (left, subst (λ (l : List ℕ). HasMessages body_limit l others left) (sym same) others_follow, comes) in
      ((λ i. one.0 i ∷ further.0 i), further.1)
