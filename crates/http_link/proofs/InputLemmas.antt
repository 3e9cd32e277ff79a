-- What the bytes that were read tell of a link.
use Rattle.std.proofs.Common.{◌≡◌, ℕ, ◌+◌, ◌<◌, ◌≤◌, ◌==◌, ◌||◌, inl, inr, Bool, true, false, Option, Some, None, IfSome, List, [], ◌∷◌, ◌++◌, length, IsTrue, IsFalse, if◌then◌else◌, refl, sym, ap, subst, ◌∙◌, append_assoc, append-nil, arith, ne_eqb, eq-eqb}
use Rattle.std.specs.Prelude.{⊤}
use Rattle.std.specs.List.{concat}
use Rattle.std.proofs.lemmas.List.{map-append, length-map}
use Rattle.std.specs.Io.KnownBytes.{Consumes}
use Rattle.osm_base.specs.declared.limits.TheConstants.{HEAD_LIMIT, REQUEST_LIMIT}
use Rattle.osm_outside.specs.Told.{Told}
use Rattle.http_wire.specs.declared.message.Message.{Message}
use Rattle.http_wire.specs.declared.end.WireEnd.{WireEnd}
use Rattle.http_wire.specs.declared.end.WireEnd.TheVariants as wire
use Rattle.http_wire.specs.Message.{BeginsWithin, HasMessages, AreMessages}
use Rattle.http_wire.specs.End.{EndsAs, IsTold, IsSettled}
use Rattle.http_wire.specs.Received.{AgreesWithInput}
use Rattle.http_wire.specs.Wire.{end_limit}
use Rattle.http_link.specs.declared.end.LinkEnd.{LinkEnd}
use Rattle.http_link.specs.declared.end.LinkEnd.TheVariants as ends
use Rattle.http_link.specs.Exchange.{Exchange, messages_of}
use Rattle.http_link.specs.Refusal.{end_of, IsRefusal}
use Rattle.http_link.specs.Input.{answered_from, end_from, IsByInput, EndsByInput}
use Rattle.http_link.specs.Turns.{Turn, Ending, no_ending, exchanges_of, bytes_of, AreRead}
use Rattle.http_link.specs.Link.{NoneCloses, GoesOn, LinkEnds, rest_limit, AgreesWithBytes}
use Rattle.http_link.proofs.LinkLemmas.{exchanges_of-push}

-- `body_limit` is the most bytes that a body may have.
module _ (body_limit : ℕ) where
  -- the laws of messages in bytes, as http_wire gives them
  pub record WireLaws : Type 0 where
    pub one_message : (bytes rest others : List ℕ) (m n : Message) → BeginsWithin body_limit bytes m rest → BeginsWithin body_limit bytes n others
        → (m ≡ n) × (rest ≡ others)
    pub no_empty_message : (bytes rest : List ℕ) (m : Message) → BeginsWithin body_limit bytes m rest → length rest < length bytes
    pub no_end : (bytes rest : List ℕ) (m : Message) (e : WireEnd) → BeginsWithin body_limit bytes m rest → IsTold e → ¬ (EndsAs body_limit bytes e)
    pub message_stays : (bytes more rest : List ℕ) (m : Message) → BeginsWithin body_limit bytes m rest → BeginsWithin body_limit (bytes ++ more) m (rest ++ more)
    pub end_stays : (bytes more : List ℕ) (e : WireEnd) → IsSettled e → EndsAs body_limit bytes e → EndsAs body_limit (bytes ++ more) e
    pub one_reading : (bytes : List ℕ) (messages others : List Message) (e f : WireEnd) → IsTold e → IsTold f
        → AreMessages body_limit bytes messages e → AreMessages body_limit bytes others f → (messages ≡ others) × (e ≡ f)
    pub some_reading : (bytes : List ℕ) → (messages : List Message) × (e : WireEnd) × IsTold e × AreMessages body_limit bytes messages e

  -- behind the messages that were taken the reading of the input goes on
  pub reading_goes_on : (laws : WireLaws) (input rest : List ℕ) (taken messages : List Message) (why : WireEnd) → IsTold why
      → HasMessages body_limit input taken rest → AreMessages body_limit input messages why → (more : List Message) × (messages ≡ taken ++ more)
  reading_goes_on laws input rest [] messages why told h a = (messages, refl)
  reading_goes_on laws input rest (m ∷ taken) [] why told h (r, same, end) =
      absurd (laws.no_end input h.0 m why h.1 told (subst (λ (l : List ℕ). EndsAs body_limit l why) (sym same) end))
  reading_goes_on laws input rest (m ∷ taken) (n ∷ messages) why told h (r, others, end) =
      let one = laws.one_message input h.0 others.0 m n h.1 others.1 in
      let behind = subst (λ (l : List ℕ). HasMessages body_limit l messages r) (sym one.1) others.2 in
      let more = reading_goes_on laws h.0 rest taken messages why told h.2 (r, behind, end) in
      (more.0, ap (λ l. n ∷ l) more.1 ∙ ap (λ (k : Message). k ∷ (taken ++ more.0)) (sym one.0))

  -- ---- the end, by the messages

  end_behind : (close : Bool) (count : ℕ) (end : LinkEnd) → IsFalse close → count + 1 < REQUEST_LIMIT
      → (if close then ends.Closed else (if count + 1 == REQUEST_LIMIT then ends.Budget else end)) ≡ end
  end_behind close count end none room =
      let few : (count + 1 == REQUEST_LIMIT) ≡ false = ne_eqb (count + 1) REQUEST_LIMIT (λ same. omega (arith, same, room)) in
      rw (none, few) refl

  answered_behind : (close : Bool) (count : ℕ) (rest : List Message) → IsFalse close → count + 1 < REQUEST_LIMIT
      → (if close || (count + 1 == REQUEST_LIMIT) then [] else rest) ≡ rest
  answered_behind close count rest none room =
      let few : (count + 1 == REQUEST_LIMIT) ≡ false = ne_eqb (count + 1) REQUEST_LIMIT (λ same. omega (arith, same, room)) in
      rw (none, few) refl

  -- messages that don't end the link are passed over
  end_from-front : (count : ℕ) (front : List Exchange) (more : List Message) (why : WireEnd) → NoneCloses front
      → count + length front < REQUEST_LIMIT
      → end_from count (messages_of front ++ more) why ≡ end_from (count + length front) more why
  end_from-front count [] more why none room = ap (λ (k : ℕ). end_from k more why) (omega arith)
  end_from-front count (e ∷ front) more why none room =
      end_behind e.message.close count (end_from (count + 1) (messages_of front ++ more) why) none.0 (omega (arith, room))
      ∙ end_from-front (count + 1) front more why none.1 (omega (arith, room))
      ∙ ap (λ (k : ℕ). end_from k more why) (omega arith)

  answered_from-front : (count : ℕ) (front : List Exchange) (more : List Message) → NoneCloses front
      → count + length front < REQUEST_LIMIT
      → answered_from count (messages_of front ++ more) ≡ messages_of front ++ answered_from (count + length front) more
  answered_from-front count [] more none room = ap (λ (k : ℕ). answered_from k more) (omega arith)
  answered_from-front count (e ∷ front) more none room =
      ap (λ l. e.message ∷ l)
      (answered_behind e.message.close count (answered_from (count + 1) (messages_of front ++ more)) none.0 (omega (arith, room))
      ∙ answered_from-front (count + 1) front more none.1 (omega (arith, room))
      ∙ ap (λ (k : ℕ). messages_of front ++ answered_from k more) (omega arith))

  -- as many as may be were answered
  end_from-full : (count : ℕ) (e : Exchange) (behind : List Exchange) (more : List Message) (why : WireEnd)
      → NoneCloses (e ∷ behind) → count + length (e ∷ behind) ≡ REQUEST_LIMIT
      → (end_from count (messages_of (e ∷ behind) ++ more) why ≡ ends.Budget)
      × (answered_from count (messages_of (e ∷ behind) ++ more) ≡ messages_of (e ∷ behind))
  end_from-full count e [] more why none full =
      let last : (count + 1 == REQUEST_LIMIT) ≡ true = eq-eqb (count + 1) REQUEST_LIMIT (omega (arith, full)) in
      (rw (none.0, last) refl, rw (none.0, last) refl)
  end_from-full count e (f ∷ behind) more why none full =
      let rest = end_from-full (count + 1) f behind more why none.1 (omega (arith, full)) in (
        end_behind e.message.close count _ none.0 (omega (arith, full)) ∙ rest.0,
        ap (λ l. e.message ∷ l) (answered_behind e.message.close count _ none.0 (omega (arith, full)) ∙ rest.1),
      )

  nothing_left : (rest left : List ℕ) (why : WireEnd) → left ≡ [] → EndsAs body_limit rest why → EndsAs body_limit (rest ++ left) why
  nothing_left rest left why none end =
      subst (λ (l : List ℕ). EndsAs body_limit l why) (sym (ap (λ l. rest ++ l) none ∙ append-nil rest)) end

  -- an end that tells the end of the input has nothing left
  abbrev NoneLeft : WireEnd → List ℕ → Type 0
  NoneLeft wire.End left = left ≡ []
  NoneLeft wire.Truncated left = left ≡ []
  NoneLeft other left = ⊤

  -- the bytes that are left don't change an end that was answered
  still_ends : (laws : WireLaws) (why : WireEnd) (rest left : List ℕ) → IsRefusal why → EndsAs body_limit rest why → NoneLeft why left
      → EndsAs body_limit (rest ++ left) why
  still_ends laws wire.End rest left r end none = absurd r
  still_ends laws wire.Truncated rest left r end none = nothing_left rest left wire.Truncated none end
  still_ends laws wire.BadHead rest left r end none = laws.end_stays rest left wire.BadHead tt end
  still_ends laws wire.HeadLong rest left r end none = laws.end_stays rest left wire.HeadLong tt end
  still_ends laws wire.BadLength rest left r end none = laws.end_stays rest left wire.BadLength tt end
  still_ends laws wire.BodyLong rest left r end none = laws.end_stays rest left wire.BodyLong tt end
  still_ends laws wire.Coded rest left r end none = laws.end_stays rest left wire.Coded tt end
  still_ends laws wire.ReadFault rest left r end none = absurd r
  still_ends laws wire.Memory rest left r end none = absurd r

  refusal_told : (why : WireEnd) → IsRefusal why → IsTold why × (ends.Refused why ≡ end_of why)
  refusal_told wire.End r = absurd r
  refusal_told wire.Truncated r = (tt, refl)
  refusal_told wire.BadHead r = (tt, refl)
  refusal_told wire.HeadLong r = (tt, refl)
  refusal_told wire.BadLength r = (tt, refl)
  refusal_told wire.BodyLong r = (tt, refl)
  refusal_told wire.Coded r = (tt, refl)
  refusal_told wire.ReadFault r = absurd r
  refusal_told wire.Memory r = absurd r

  -- ---- the end that came is the one that the input tells

  abbrev Told_by : LinkEnd → List Exchange → List Message → WireEnd → Type 0
  Told_by end exchanges messages why =
      (end ≡ end_from 0 messages why) × (messages_of exchanges ≡ answered_from 0 messages)

  all_answered : (exchanges : List Exchange) (why : WireEnd) → GoesOn exchanges
      → Told_by (end_of why) exchanges (messages_of exchanges) why
  all_answered exchanges why (none, room) =
      let whole : messages_of exchanges ++ [] ≡ messages_of exchanges = append-nil (messages_of exchanges) in
      subst (λ (l : List Message). (end_of why ≡ end_from 0 l why) × (messages_of exchanges ≡ answered_from 0 l)) whole (
        sym (end_from-front 0 exchanges [] why none (omega (arith, room))),
        sym (answered_from-front 0 exchanges [] none (omega (arith, room)) ∙ whole),
      )

  closed_at : (front : List Exchange) (last : Exchange) (more : List Message) (why : WireEnd) → GoesOn front
      → IsTrue last.message.close
      → Told_by ends.Closed (front ++ last ∷ []) (messages_of (front ++ last ∷ []) ++ more) why
  closed_at front last more why (none, room) close =
      let all : messages_of (front ++ last ∷ []) ≡ messages_of front ++ last.message ∷ [] = map-append (λ e. e.message) front (last ∷ []) in
      let joined : messages_of front ++ (last.message ∷ more) ≡ messages_of (front ++ last ∷ []) ++ more =
      sym (append_assoc (messages_of front) (last.message ∷ []) more) ∙ ap (λ l. l ++ more) (sym all) in
      subst (λ (l : List Message). (ends.Closed ≡ end_from 0 l why) × (messages_of (front ++ last ∷ []) ≡ answered_from 0 l)) joined (
        sym (end_from-front 0 front (last.message ∷ more) why none (omega (arith, room)) ∙ rw close refl),
        all ∙ sym (answered_from-front 0 front (last.message ∷ more) none (omega (arith, room)) ∙ rw close refl),
      )

  full_at : (exchanges : List Exchange) (more : List Message) (why : WireEnd) → NoneCloses exchanges
      → length exchanges ≡ REQUEST_LIMIT → Told_by ends.Budget exchanges (messages_of exchanges ++ more) why
  full_at [] more why none full = absurd (omega (arith, full))
  full_at (e ∷ behind) more why none full =
      let told = end_from-full 0 e behind more why none (omega (arith, full)) in
      (sym told.0, sym told.1)

  -- what an end says of the bytes that are left
  abbrev AgreesWithLeft : List ℕ → LinkEnd → Type 0
  AgreesWithLeft left ends.Ended = left ≡ []
  AgreesWithLeft left (ends.Refused why) = NoneLeft why left
  AgreesWithLeft left other = ⊤

  none_left : (why : WireEnd) (reads : List (List ℕ)) (left : List ℕ) → AgreesWithInput why reads (Some left) → NoneLeft why left
  none_left wire.End reads left a = a.at_end
  none_left wire.Truncated reads left a = a.at_end
  none_left wire.BadHead reads left a = tt
  none_left wire.HeadLong reads left a = tt
  none_left wire.BadLength reads left a = tt
  none_left wire.BodyLong reads left a = tt
  none_left wire.Coded reads left a = tt
  none_left wire.ReadFault reads left a = tt
  none_left wire.Memory reads left a = tt

  nothing_is_left : (why : WireEnd) → NoneLeft why []
  nothing_is_left wire.End = refl
  nothing_is_left wire.Truncated = refl
  nothing_is_left wire.BadHead = tt
  nothing_is_left wire.HeadLong = tt
  nothing_is_left wire.BadLength = tt
  nothing_is_left wire.BodyLong = tt
  nothing_is_left wire.Coded = tt
  nothing_is_left wire.ReadFault = tt
  nothing_is_left wire.Memory = tt

  nothing_left_at : (end : LinkEnd) → AgreesWithLeft [] end
  nothing_left_at ends.Ended = refl
  nothing_left_at ends.Closed = tt
  nothing_left_at ends.Budget = tt
  nothing_left_at (ends.Refused why) = nothing_is_left why
  nothing_left_at ends.ReadFault = tt
  nothing_left_at ends.WriteFault = tt
  nothing_left_at (ends.Unkept why) = tt
  nothing_left_at ends.Memory = tt

  HasMessages-more : (laws : WireLaws) (bytes more kept : List ℕ) (messages : List Message) → HasMessages body_limit bytes messages kept
      → HasMessages body_limit (bytes ++ more) messages (kept ++ more)
  HasMessages-more laws bytes more kept [] h = ap (λ l. l ++ more) h
  HasMessages-more laws bytes more kept (m ∷ messages) h =
      (h.0 ++ more, laws.message_stays bytes more h.0 m h.1, HasMessages-more laws h.0 more kept messages h.2)

  -- each message takes a byte at least
  shorter : (laws : WireLaws) (bytes rest : List ℕ) (messages : List Message) → HasMessages body_limit bytes messages rest
      → length messages + length rest ≤ length bytes
  shorter laws bytes rest [] h = omega (arith, ap length h)
  shorter laws bytes rest (m ∷ messages) h =
      omega (arith, laws.no_empty_message bytes h.0 m h.1, shorter laws h.0 rest messages h.2)

  -- the bytes that were read have the messages of the turns
  HasMessages-from_read : (laws : WireLaws) (kept left : List ℕ) (turns : List Turn) (ending : Ending) → AreRead body_limit kept turns left
      → HasMessages body_limit (kept ++ bytes_of turns ending) (messages_of (exchanges_of turns)) (left ++ concat ending.reads)
  HasMessages-from_read laws kept left [] ending same = ap (λ l. l ++ concat ending.reads) (sym same)
  HasMessages-from_read laws kept left (turn ∷ turns) ending (behind, first, more) = (
    behind ++ bytes_of turns ending,
    rw (← append_assoc kept (concat turn.reads) (bytes_of turns ending))
        (laws.message_stays (kept ++ concat turn.reads) (bytes_of turns ending) behind turn.exchange.message first.begins),
    HasMessages-from_read laws behind left turns ending more,
  )

  left_limit : (kept left : List ℕ) (turns : List Turn) → AreRead body_limit kept turns left → length kept ≤ HEAD_LIMIT → length left ≤ HEAD_LIMIT
  left_limit kept left [] same few = omega (arith, ap length same)
  left_limit kept left (turn ∷ turns) (behind, first, more) few = left_limit behind left turns more first.limit

  -- the end that tells most
  most : (why : WireEnd) → end_limit body_limit why ≤ end_limit body_limit wire.Memory
  most wire.End = omega arith
  most wire.Truncated = omega arith
  most wire.BadHead = omega arith
  most wire.HeadLong = omega arith
  most wire.BadLength = omega arith
  most wire.BodyLong = omega arith
  most wire.Coded = omega arith
  most wire.ReadFault = omega arith
  most wire.Memory = omega arith

  unread : (left : List ℕ) (ending : Ending) → ending ≡ no_ending → left ++ concat ending.reads ≡ left
  unread left ending none = ap (λ (e : Ending). left ++ concat e.reads) none ∙ append-nil left

  module _ (laws : WireLaws) (before after : Told) (turns : List Turn) (left : List ℕ) (ending : Ending) (read : AreRead body_limit [] turns left) where
    abbrev bytes : List ℕ
    bytes = bytes_of turns ending

    abbrev rest : List ℕ
    rest = left ++ concat ending.reads

    abbrev exchanges : List Exchange
    exchanges = exchanges_of turns

    h : HasMessages body_limit bytes (messages_of exchanges) rest
    h = HasMessages-from_read laws [] left turns ending read

    rest_at : (end : LinkEnd) → LinkEnds body_limit before after turns left ending end → length rest ≤ rest_limit body_limit end
    rest_at ends.Ended facts = facts.reads.limit
    rest_at ends.Closed facts = rw (unread left ending facts.nothing_else) (left_limit [] left turns read (omega arith))
    rest_at ends.Budget facts = rw (unread left ending facts.nothing_else) (left_limit [] left turns read (omega arith))
    rest_at (ends.Refused why) facts = facts.1.reads.limit
    rest_at ends.ReadFault facts = facts.0.reads.limit
    rest_at ends.WriteFault (inl facts, rose) =
        rw (unread left ending facts.nothing_else) (omega (arith, left_limit [] left turns read (omega arith)))
    rest_at ends.WriteFault (inr facts, rose) = omega (arith, facts.reads.limit, most facts.why)
    rest_at (ends.Unkept why) facts = rw (unread left ending facts.lacks.nothing_else) (left_limit [] left turns read (omega arith))
    rest_at ends.Memory (inl facts) =
        rw (unread left ending facts.nothing_else) (omega (arith, left_limit [] left turns read (omega arith)))
    rest_at ends.Memory (inr facts) = facts.reads.limit

    module _ (more : List ℕ) (messages : List Message) (why : WireEnd) (told : IsTold why)
        (reading : AreMessages body_limit (bytes ++ more) messages why) where
      in_input : HasMessages body_limit (bytes ++ more) (messages_of exchanges) (rest ++ more)
      in_input = HasMessages-more laws bytes more rest (messages_of exchanges) h

      stopped_at : (e : WireEnd) → IsTold e → EndsAs body_limit (rest ++ more) e → GoesOn exchanges
          → Told_by (end_of e) exchanges messages why
      stopped_at e told_e end going_on =
          let same = laws.one_reading (bytes ++ more) (messages_of exchanges) messages e why told_e told (rest ++ more, in_input, end) reading in
          let all = all_answered exchanges e going_on in
          (all.0 ∙ ap (λ l. end_from 0 l e) same.0 ∙ ap (λ w. end_from 0 messages w) same.1, all.1 ∙ ap (answered_from 0) same.0)

      more_messages : (others : List Message) × (messages ≡ messages_of exchanges ++ others)
      more_messages = reading_goes_on laws (bytes ++ more) (rest ++ more) (messages_of exchanges) messages why told in_input reading

      by_reading : (end : LinkEnd) → AgreesWithLeft more end → LinkEnds body_limit before after turns left ending end → IsByInput end
          → Told_by end exchanges messages why
      by_reading ends.Ended at facts ok = stopped_at wire.End tt (nothing_left rest more wire.End at facts.reads.ends) facts.going_on
      by_reading ends.Closed at facts ok =
          let others = more_messages in
          let same : exchanges_of facts.front ++ facts.last.exchange ∷ [] ≡ exchanges =
          sym (ap exchanges_of facts.turns_are ∙ exchanges_of-push facts.front facts.last) in
          let P : List Message → Type 0 = λ l. Told_by ends.Closed exchanges l why in
          subst P (sym others.1)
          (subst (λ (es : List Exchange). Told_by ends.Closed es (messages_of es ++ others.0) why) same
          (closed_at (exchanges_of facts.front) facts.last.exchange others.0 why facts.going_on facts.close))
      by_reading ends.Budget at facts ok =
          let others = more_messages in
          let P : List Message → Type 0 = λ l. Told_by ends.Budget exchanges l why in
          subst P (sym others.1)
          (full_at exchanges others.0 why facts.none (length-map turns (λ t. t.exchange) ∙ facts.full))
      by_reading (ends.Refused e) at facts ok =
          let known = refusal_told e facts.0 in
          let all = stopped_at e known.0 (still_ends laws e rest more facts.0 facts.1.reads.ends at) facts.1.going_on in
          (known.1 ∙ all.0, all.1)
      by_reading ends.ReadFault at facts ok = absurd ok
      by_reading ends.WriteFault at facts ok = absurd ok
      by_reading (ends.Unkept why) at facts ok = absurd ok
      by_reading ends.Memory at facts ok = absurd ok

    -- the end, where that much more is left
    at_input : (more : List ℕ) (end : LinkEnd) → AgreesWithLeft more end → LinkEnds body_limit before after turns left ending end
        → EndsByInput body_limit (bytes ++ more) exchanges end
    at_input more end agrees facts =
        let (messages, why, told, reading) = laws.some_reading (bytes ++ more) in
        (messages, why, told, reading, λ ok. by_reading more messages why told reading end agrees facts ok)

    agrees_with_left : (end : LinkEnd) (more : List ℕ) → after.left ≡ Some more
        → LinkEnds body_limit before after turns left ending end → AgreesWithLeft more end
    agrees_with_left ends.Ended more same facts = none_left wire.End ending.reads more (rw same at facts.reads.agrees)
    agrees_with_left ends.Closed more same facts = tt
    agrees_with_left ends.Budget more same facts = tt
    agrees_with_left (ends.Refused e) more same facts = none_left e ending.reads more (rw same at facts.1.reads.agrees)
    agrees_with_left ends.ReadFault more same facts = tt
    agrees_with_left ends.WriteFault more same facts = tt
    agrees_with_left (ends.Unkept why) more same facts = tt
    agrees_with_left ends.Memory more same facts = tt

    told_by : (b a : Option (List ℕ)) → after.left ≡ a → Consumes b a bytes → (end : LinkEnd)
        → LinkEnds body_limit before after turns left ending end → IfSome b (λ input. EndsByInput body_limit input exchanges end)
    told_by None a same consumed end facts = tt
    told_by (Some input) None same consumed end facts = absurd consumed
    told_by (Some input) (Some more) same consumed end facts =
        subst (λ (l : List ℕ). EndsByInput body_limit l exchanges end) (sym consumed)
        (at_input more end (agrees_with_left end more same facts) facts)

    pub AgreesWithBytes-from_turns : Consumes before.left after.left bytes → (end : LinkEnd)
        → LinkEnds body_limit before after turns left ending end → AgreesWithBytes body_limit before bytes rest exchanges end
    AgreesWithBytes-from_turns consumed end facts = record {
      messages = h;
      taken = omega (arith, shorter laws bytes rest (messages_of exchanges) h, length-map exchanges (λ e. e.message));
      limit = rest_at end facts;
      by_bytes = subst (λ (l : List ℕ). EndsByInput body_limit l exchanges end) (append-nil bytes) (at_input [] end (nothing_left_at end) facts);
      by_input = told_by before.left after.left refl consumed end facts;
    }
