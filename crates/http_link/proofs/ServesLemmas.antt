-- How a link ends, by its last turn.
use Rattle.std.proofs.Common.{◌≡◌, ℕ, ◌+◌, ◌<◌, ◌≤◌, Bool, true, false, List, [], ◌∷◌, ◌++◌, length, Option, Some, None, IfSome, Result, Ok, Err, IsTrue, IsFalse, if◌then◌else◌, refl, sym, ap, ◌∙◌, append-nil, arith, inl, inr}
use Rattle.std.specs.List.{AllByRecursion, concat}
use Rattle.std.specs.Io.KnownBytes.{Consumes}
use Rattle.std.proofs.KnownBytes.{Consumes-nil}
use Rattle.std.proofs.lemmas.List.{length-append, length-map}
use Rattle.osm_outside.specs.Event.{Shown}
use Rattle.osm_outside.specs.Told.{Told, Rose, OnlyWrites}
use Rattle.osm_outside.specs.declared.outside.Failed.{Failed}
use Rattle.http_wire.specs.declared.message.Message.{Message}
use Rattle.http_wire.specs.declared.end.WireEnd.{WireEnd}
use Rattle.http_wire.specs.declared.end.WireEnd.TheVariants as wire
use Rattle.http_wire.specs.Written.{WrittenWhole, WrittenInPart}
use Rattle.http_link.specs.declared.desk.Reply.{Reply}
use Rattle.http_link.specs.declared.desk.Withheld.{Withheld}
use Rattle.osm_base.specs.declared.limits.TheConstants.{REQUEST_LIMIT}
use Rattle.http_link.specs.declared.end.LinkEnd.{LinkEnd}
use Rattle.http_link.specs.declared.end.LinkEnd.TheVariants as ends
use Rattle.http_link.specs.declared.turn.Next.TheVariants as next
use Rattle.http_link.specs.Exchange.{Exchange, ChainBy, Allowing, Telling, text_of}
use Rattle.http_link.specs.Refusal.{refusal, end_of}
use Rattle.http_link.specs.Turns.{Turn, Ending, no_ending, exchanges_of, bytes_of, AreRead, AreWritten, ReadsEnd}
use Rattle.http_link.specs.Turn.{Step, Held, Stop, TakesTurn, next_after}
use Rattle.http_link.specs.Link.{Served, ServesBy, ServesTold, AreTold, TellsAll, LinkEnds, NoneCloses, GoesOn, ComesTo, AgreesWithBytes}
use Rattle.http_link.proofs.LinkLemmas.{Served-step, Served-stop, Served-allowed, exchanges_of-push, AreWritten-push, NoneCloses-push}

-- `body_limit` is the most bytes that a body may have.
module _ (body_limit : ℕ) where
  -- what the turns tell of the bytes, as the law of this crate says
  abbrev pub TellsEnd : Type 0
  TellsEnd =
      (before after : Told) (turns : List Turn) (left : List ℕ) (ending : Ending) (end : LinkEnd)
      → AreRead body_limit [] turns left → Consumes before.left after.left (bytes_of turns ending)
      → LinkEnds body_limit before after turns left ending end
      → AgreesWithBytes body_limit before (bytes_of turns ending) (left ++ concat ending.reads) (exchanges_of turns) end

  -- the turn goes on only where its reply was sent and its message didn't say close
  pub goes_on_from : (close : Bool) (result : Result (Unit {0}) Failed) (m : Message) → m.close ≡ close
      → next.GoesOn ≡ next_after m result → (result ≡ Ok tt) × (close ≡ false)
  goes_on_from true (Ok done) m c e = let f = rw c at e in absurd cc
  goes_on_from false (Ok done) m c e = (refl, refl)
  goes_on_from close (Err fault) m c e = absurd cc

  over_from_ok : (close : Bool) (end : LinkEnd) → next.Over end ≡ (if close then next.Over ends.Closed else next.GoesOn)
      → (end ≡ ends.Closed) × IsTrue close
  over_from_ok true end e = (cc, refl)
  over_from_ok false end e = absurd cc

  place_of : (turns : List Turn) → 0 + length turns ≡ length turns
  place_of turns = omega arith

  abbrev Serves-of : {D : Type 0} (tells : TellsEnd) (by : D → Exchange → D → Type 0) (start now : D) (before after : Told)
      (turns : List Turn) (left : List ℕ) (ending : Ending) (end : LinkEnd) → length turns ≤ REQUEST_LIMIT
      → Served body_limit by start now before after left turns ending
      → LinkEnds body_limit before after turns left ending end → ServesBy body_limit by start now before after end
  Serves-of tells by start now before after turns left ending end few served facts = record {
    turns = turns;
    few = few;
    left = left;
    ending = ending;
    served = served;
    ends = facts;
    agrees = tells before after turns left ending end served.read served.input facts;
  }

  -- ---- what the desk let be sent

  told_all : {D : Type 0} (allows : D → Message → ℕ → Reply → D → Type 0) (tells : D → Type 0) (shows : D → List Shown) (withholds : D → Withheld → Type 0) (start now : D) (exchanges : List Exchange)
      (end : LinkEnd) → TellsAll end → ChainBy (Telling allows tells shows) start exchanges now → AreTold allows tells shows withholds start exchanges now end
  told_all allows tells shows withholds start now exchanges ends.Ended all c = c
  told_all allows tells shows withholds start now exchanges ends.Closed all c = c
  told_all allows tells shows withholds start now exchanges ends.Budget all c = c
  told_all allows tells shows withholds start now exchanges (ends.Refused why) all c = c
  told_all allows tells shows withholds start now exchanges ends.ReadFault all c = c
  told_all allows tells shows withholds start now exchanges ends.WriteFault all c = c
  told_all allows tells shows withholds start now exchanges (ends.Unkept why) all c = absurd all
  told_all allows tells shows withholds start now exchanges ends.Memory all c = c

  ServesTold-of : {D : Type 0} (allows : D → Message → ℕ → Reply → D → Type 0) (tells : D → Type 0) (shows : D → List Shown) (withholds : D → Withheld → Type 0) (start now : D) (before after : Told)
      (end : LinkEnd) → TellsAll end → ServesBy body_limit (Telling allows tells shows) start now before after end
      → ServesTold body_limit allows tells shows withholds start now before after end
  ServesTold-of allows tells shows withholds start now before after end all s = record {
    serves = record {
      turns = s.turns;
      few = s.few;
      left = s.left;
      ending = s.ending;
      served = Served-allowed body_limit allows tells shows start now before after s.left s.turns s.ending s.served;
      ends = s.ends;
      agrees = s.agrees;
    };
    told = told_all allows tells shows withholds start now (exchanges_of s.turns) end all s.served.answered;
  }

  all_told_at_stop : (why : WireEnd) → TellsAll (end_of why)
  all_told_at_stop wire.End = tt
  all_told_at_stop wire.Truncated = tt
  all_told_at_stop wire.BadHead = tt
  all_told_at_stop wire.HeadLong = tt
  all_told_at_stop wire.BadLength = tt
  all_told_at_stop wire.BodyLong = tt
  all_told_at_stop wire.Coded = tt
  all_told_at_stop wire.ReadFault = tt
  all_told_at_stop wire.Memory = tt

  -- ---- the last turn

  module _ {D : Type 0} (tells : TellsEnd) (by : D → Exchange → D → Type 0) (start old new : D) (a b c : Told)
      (kept left : List ℕ) (turns : List Turn)
      (before : Served body_limit by start old a b kept turns no_ending) (replies : AreWritten 0 turns) (none : NoneCloses (exchanges_of turns))
      (room : length turns < REQUEST_LIMIT) where
    going_on : GoesOn (exchanges_of turns)
    going_on = (none, omega (arith, room, length-map turns (λ t. t.exchange)))

    -- the reply of the last turn was written whole
    replies_more : (turn : Turn) → concat turn.writes ≡ text_of (length turns) turn.exchange → AreWritten 0 (turns ++ turn ∷ [])
    replies_more turn whole =
        AreWritten-push 0 turns turn replies (whole ∙ ap (λ (k : ℕ). text_of k turn.exchange) (sym (place_of turns)))

    -- a message was answered, and it didn't say close
    pub goes_on : (s : Step body_limit by old new b c kept left (length turns) (Ok tt)) → IsFalse s.turn.exchange.message.close
        → (all : List Turn) × Served body_limit by start new a c left all no_ending × AreWritten 0 all
        × (length all ≡ length turns + 1) × NoneCloses (exchanges_of all)
    goes_on s still = (
      turns ++ s.turn ∷ [],
      Served-step body_limit by start old new a b c kept left (length turns) (Ok tt) turns before s,
      replies_more s.turn s.sends,
      length-append turns (s.turn ∷ []),
      rw (exchanges_of-push turns s.turn) (NoneCloses-push (exchanges_of turns) s.turn.exchange none still),
    )

    closed : (s : Step body_limit by old new b c kept left (length turns) (Ok tt)) → IsTrue s.turn.exchange.message.close
        → ServesBy body_limit by start new a c ends.Closed
    closed s close =
        Serves-of tells by start new a c (turns ++ s.turn ∷ []) left no_ending ends.Closed
        (omega (arith, length-append turns (s.turn ∷ []), room))
        (Served-step body_limit by start old new a b c kept left (length turns) (Ok tt) turns before s)
        (record {
          front = turns;
          last = s.turn;
          turns_are = refl;
          going_on = going_on;
          close = close;
          replies = replies_more s.turn s.sends;
          nothing_else = refl;
        })

    cut_reply : (fault : Failed) (s : Step body_limit by old new b c kept left (length turns) (Err fault))
        → Rose b.write_faults c.write_faults → ServesBy body_limit by start new a c ends.WriteFault
    cut_reply fault s rose =
        Serves-of tells by start new a c (turns ++ s.turn ∷ []) left no_ending ends.WriteFault
        (omega (arith, length-append turns (s.turn ∷ []), room))
        (Served-step body_limit by start old new a b c kept left (length turns) (Err fault) turns before s) (
          inl (record {
            front = turns;
            last = s.turn;
            turns_are = refl;
            going_on = going_on;
            replies = replies;
            missing = s.sends.0;
            whole = s.sends.1;
            nothing_else = refl;
          }),
          omega (arith, before.write_faults, rose),
        )

    module _ (read : Told) (why : WireEnd) (s : Stop body_limit old new b read kept why) where
      -- the input is as it was when the end came
      read_so : OnlyWrites read c → ReadsEnd body_limit kept s.pieces why c.left
      read_so others = rw (← others.left) at s.reads

      cut_refusal : WrittenInPart read c (refusal why) → Rose read.write_faults c.write_faults
          → ServesBy body_limit by start new a c ends.WriteFault
      cut_refusal sent rose =
          Serves-of tells by start new a c turns kept (record { reads = s.pieces; writes = sent.pieces }) ends.WriteFault (omega (arith, room))
          (Served-stop body_limit by start old new a b read c kept why turns sent.pieces before s sent.written) (
            inr (record {
              why = why;
              going_on = going_on;
              replies = replies;
              reads = read_so sent.written.others;
              missing = sent.missing;
              whole = sent.joined;
            }),
            omega (arith, before.write_faults, s.taken.others.write_faults, rose),
          )

      comes_to : (sent : WrittenWhole read c (refusal why)) → ComesTo body_limit c turns kept (record { reads = s.pieces; writes = sent.pieces }) why
      comes_to sent = record {
        going_on = going_on;
        replies = replies;
        reads = read_so sent.written.others;
        writes = sent.joined;
        some = sent.some;
      }

      stopped : (end : LinkEnd) (sent : WrittenWhole read c (refusal why))
          → LinkEnds body_limit a c turns kept (record { reads = s.pieces; writes = sent.pieces }) end → ServesBy body_limit by start new a c end
      stopped end sent facts =
          Serves-of tells by start new a c turns kept (record { reads = s.pieces; writes = sent.pieces }) end (omega (arith, room))
          (Served-stop body_limit by start old new a b read c kept why turns sent.pieces before s sent.written) facts

    -- an end came, and its reply was written
    ended : (read : Told) (why : WireEnd) → Stop body_limit old new b read kept why → WrittenWhole read c (refusal why)
        → ServesBy body_limit by start new a c (end_of why)
    ended read wire.End s sent = stopped read wire.End s ends.Ended sent (comes_to read wire.End s sent)
    ended read wire.ReadFault s sent =
        stopped read wire.ReadFault s ends.ReadFault sent (
          comes_to read wire.ReadFault s sent,
          omega (arith, before.read_faults, s.fault refl, sent.written.others.read_faults),
        )
    ended read wire.Memory s sent = stopped read wire.Memory s ends.Memory sent (inr (comes_to read wire.Memory s sent))
    ended read wire.Truncated s sent = stopped read wire.Truncated s (ends.Refused wire.Truncated) sent (tt, comes_to read wire.Truncated s sent)
    ended read wire.BadHead s sent = stopped read wire.BadHead s (ends.Refused wire.BadHead) sent (tt, comes_to read wire.BadHead s sent)
    ended read wire.HeadLong s sent = stopped read wire.HeadLong s (ends.Refused wire.HeadLong) sent (tt, comes_to read wire.HeadLong s sent)
    ended read wire.BadLength s sent = stopped read wire.BadLength s (ends.Refused wire.BadLength) sent (tt, comes_to read wire.BadLength s sent)
    ended read wire.BodyLong s sent = stopped read wire.BodyLong s (ends.Refused wire.BodyLong) sent (tt, comes_to read wire.BodyLong s sent)
    ended read wire.Coded s sent = stopped read wire.Coded s (ends.Refused wire.Coded) sent (tt, comes_to read wire.Coded s sent)

  module _ {D : Type 0} (laws : TellsEnd) (allows : D → Message → ℕ → Reply → D → Type 0) (tells : D → Type 0) (shows : D → List Shown) (withholds : D → Withheld → Type 0) (start old new : D) (a b c : Told)
      (kept left : List ℕ) (turns : List Turn) (before : Served body_limit (Telling allows tells shows) start old a b kept turns no_ending)
      (replies : AreWritten 0 turns) (none : NoneCloses (exchanges_of turns)) (room : length turns < REQUEST_LIMIT) where
    all_told : (end : LinkEnd) → TellsAll end → ServesBy body_limit (Telling allows tells shows) start new a c end
        → ServesTold body_limit allows tells shows withholds start new a c end
    all_told = ServesTold-of allows tells shows withholds start new a c

    -- the last reply was held back
    unkept : (why : Withheld) → Held body_limit allows old new b c kept left (length turns) → withholds new why
        → ServesTold body_limit allows tells shows withholds start new a c (ends.Unkept why)
    unkept why h cause =
        let s = h.step in record {
          serves =
              Serves-of laws (Allowing allows) start new a c (turns ++ s.turn ∷ []) left no_ending (ends.Unkept why)
              (omega (arith, length-append turns (s.turn ∷ []), room))
              (Served-step body_limit (Allowing allows) start old new a b c kept left (length turns) (Err h.in_place) turns
              (Served-allowed body_limit allows tells shows start old a b kept turns no_ending before) s)
              (record {
                lacks = record {
                  front = turns;
                  last = s.turn;
                  turns_are = refl;
                  going_on = going_on laws (Telling allows tells shows) start old new a b c kept left turns before replies none room;
                  replies = replies;
                  missing = s.sends.0;
                  whole = s.sends.1;
                  nothing_else = refl;
                };
                unsent = h.unsent;
              });
          told = (exchanges_of turns, s.turn.exchange, old, exchanges_of-push turns s.turn, before.answered, s.allowed, h.unshown, cause);
        }

    -- the link ends with this turn
    pub over : (end : LinkEnd) → TakesTurn body_limit allows tells shows withholds old new b c kept left (length turns) (next.Over end)
        → ServesTold body_limit allows tells shows withholds start new a c end
    over end (inl (Ok done, s, e, rose)) =
        let known = over_from_ok s.turn.exchange.message.close end e in
        rw known.0
        (all_told ends.Closed tt
        (closed laws (Telling allows tells shows) start old new a b c kept left turns before replies none room s known.1))
    over end (inl (Err fault, s, e, rose)) =
        let same : end ≡ ends.WriteFault = cc in
        rw same
        (all_told ends.WriteFault tt
        (cut_reply laws (Telling allows tells shows) start old new a b c kept left turns before replies none room fault s (rose refl)))
    over end (inr (inl (read, why, other, s, inl x, e))) =
        let same : end ≡ end_of why = cc in
        rw same
        (all_told (end_of why) (all_told_at_stop why)
        (ended laws (Telling allows tells shows) start old new a b c kept left turns before replies none room read why s x.1))
    over end (inr (inl (read, why, other, s, inr x, e))) =
        let same : end ≡ ends.WriteFault = cc in
        rw same
        (all_told ends.WriteFault tt
        (cut_refusal laws (Telling allows tells shows) start old new a b c kept left turns before replies none room read why s x.1 x.2))
    over end (inr (inr (why, h, cause, e))) =
        let same : end ≡ ends.Unkept why = cc in
        rw same (unkept why h cause)

    -- the link goes on after this turn
    pub answered : TakesTurn body_limit allows tells shows withholds old new b c kept left (length turns) next.GoesOn
        → (all : List Turn) × Served body_limit (Telling allows tells shows) start new a c left all no_ending × AreWritten 0 all
        × (length all ≡ length turns + 1) × NoneCloses (exchanges_of all)
    answered (inl (Ok done, s, e, rose)) =
        goes_on laws (Telling allows tells shows) start old new a b c kept left turns before replies none room s
        (goes_on_from s.turn.exchange.message.close (Ok done) s.turn.exchange.message refl e).1
    answered (inl (Err fault, s, e, rose)) = absurd cc
    answered (inr (inl (read, why, other, s, x, e))) = absurd cc
    answered (inr (inr (why, h, cause, e))) = absurd cc

  all_fixed : (a : Option ℕ) → IfSome a (λ at. AllByRecursion (λ (e : Exchange). e.moment ≡ at) [])
  all_fixed None = tt
  all_fixed (Some at) = tt

  -- nothing happened
  pub no_turn : {D : Type 0} (by : D → Exchange → D → Type 0) (start : D) (a : Told)
      → Served body_limit by start start a a [] [] no_ending
  no_turn by start a = record {
    trace = sym (append-nil a.trace);
    read = refl;
    input = Consumes-nil a.left;
    answered = refl;
    fixed = all_fixed a.fixed;
    stays = refl;
    read_faults = omega arith;
    write_faults = omega arith;
  }

  pub unserved : {D : Type 0} (laws : TellsEnd) (allows : D → Message → ℕ → Reply → D → Type 0) (tells : D → Type 0) (shows : D → List Shown) (withholds : D → Withheld → Type 0) (start : D) (a : Told)
      → ServesTold body_limit allows tells shows withholds start start a a ends.Memory
  unserved laws allows tells shows withholds start a =
      ServesTold-of allows tells shows withholds start start a a ends.Memory tt
      (Serves-of laws (Telling allows tells shows) start start a a [] [] no_ending ends.Memory (omega arith) (no_turn (Telling allows tells shows) start a)
      (inl (record { untouched = refl; no_turn = refl; nothing_else = refl })))

  -- as many requests were answered as may be
  pub no_more : {D : Type 0} (laws : TellsEnd) (allows : D → Message → ℕ → Reply → D → Type 0) (tells : D → Type 0) (shows : D → List Shown) (withholds : D → Withheld → Type 0) (start now : D) (a b : Told)
      (left : List ℕ) (turns : List Turn) → Served body_limit (Telling allows tells shows) start now a b left turns no_ending → AreWritten 0 turns
      → length turns ≡ REQUEST_LIMIT → NoneCloses (exchanges_of turns) → ServesTold body_limit allows tells shows withholds start now a b ends.Budget
  no_more laws allows tells shows withholds start now a b left turns served replies full none =
      ServesTold-of allows tells shows withholds start now a b ends.Budget tt
      (Serves-of laws (Telling allows tells shows) start now a b turns left no_ending ends.Budget (omega (arith, full)) served
      (record { none = none; full = full; replies = replies; nothing_else = refl }))
