-- One turn more.
use Rattle.std.proofs.Common.{◌≡◌, ℕ, ◌+◌, List, [], ◌∷◌, ◌++◌, length, map, Option, Some, None, IfSome, Result, IsFalse, refl, sym, ap, subst, ◌∙◌, append_assoc, append-nil, arith}
use Rattle.std.specs.List.{AllByRecursion, concat}
use Rattle.std.proofs.KnownBytes.{Consumes-trans}
use Rattle.std.proofs.lemmas.List.{map-append}
use Rattle.osm_outside.specs.Event.{Shown, Gave, Took}
use Rattle.osm_outside.specs.Told.{Told}
use Rattle.osm_outside.specs.declared.outside.Failed.{Failed}
use Rattle.http_wire.specs.declared.message.Message.{Message}
use Rattle.http_wire.specs.declared.end.WireEnd.{WireEnd}
use Rattle.http_wire.specs.Written.{Written}
use Rattle.http_link.specs.declared.desk.Reply.{Reply}
use Rattle.http_link.specs.Exchange.{Exchange, ChainBy, Allowing, Telling, text_of}
use Rattle.http_link.specs.Turns.{Turn, Ending, no_ending, events_of, events_of_turn, exchanges_of, bytes_of, AreRead, AreWritten, ReadsTurn}
use Rattle.http_link.specs.Turn.{Step, Stop}
use Rattle.http_link.specs.Link.{Served, NoneCloses}

-- ---- lists of turns

events_of-push : (turns : List Turn) (turn : Turn) → events_of (turns ++ turn ∷ []) no_ending ≡ events_of turns no_ending ++ events_of_turn turn
events_of-push [] turn = append-nil (events_of_turn turn)
events_of-push (t ∷ turns) turn =
    ap (λ l. events_of_turn t ++ l) (events_of-push turns turn)
    ∙ sym (append_assoc (events_of_turn t) (events_of turns no_ending) (events_of_turn turn))

events_of-end : (turns : List Turn) (ending : Ending)
    → events_of turns ending ≡ events_of turns no_ending ++ (map Gave ending.reads ++ map Took ending.writes)
events_of-end [] ending = refl
events_of-end (t ∷ turns) ending =
    ap (λ l. events_of_turn t ++ l) (events_of-end turns ending)
    ∙ sym (append_assoc (events_of_turn t) (events_of turns no_ending) (map Gave ending.reads ++ map Took ending.writes))

bytes_of-push : (turns : List Turn) (turn : Turn) → bytes_of (turns ++ turn ∷ []) no_ending ≡ bytes_of turns no_ending ++ concat turn.reads
bytes_of-push [] turn = append-nil (concat turn.reads)
bytes_of-push (t ∷ turns) turn =
    ap (λ l. concat t.reads ++ l) (bytes_of-push turns turn)
    ∙ sym (append_assoc (concat t.reads) (bytes_of turns no_ending) (concat turn.reads))

bytes_of-end : (turns : List Turn) (ending : Ending) → bytes_of turns ending ≡ bytes_of turns no_ending ++ concat ending.reads
bytes_of-end [] ending = refl
bytes_of-end (t ∷ turns) ending =
    ap (λ l. concat t.reads ++ l) (bytes_of-end turns ending)
    ∙ sym (append_assoc (concat t.reads) (bytes_of turns no_ending) (concat ending.reads))

pub exchanges_of-push : (turns : List Turn) (turn : Turn) → exchanges_of (turns ++ turn ∷ []) ≡ exchanges_of turns ++ turn.exchange ∷ []
exchanges_of-push turns turn = map-append (λ t. t.exchange) turns (turn ∷ [])

pub AreWritten-push : (count : ℕ) (turns : List Turn) (turn : Turn) → AreWritten count turns
    → concat turn.writes ≡ text_of (count + length turns) turn.exchange → AreWritten count (turns ++ turn ∷ [])
AreWritten-push count [] turn before whole =
    let place : count + 0 ≡ count = omega arith in
    (whole ∙ ap (λ (k : ℕ). text_of k turn.exchange) place, tt)
AreWritten-push count (t ∷ turns) turn before whole =
    let place : count + length (t ∷ turns) ≡ count + 1 + length turns = omega arith in
    (before.0, AreWritten-push (count + 1) turns turn before.1 (whole ∙ ap (λ (k : ℕ). text_of k turn.exchange) place))

-- ---- lists of exchanges

Chain-push : {D : Type 0} (by : D → Exchange → D → Type 0) (start old new : D) (exchanges : List Exchange)
    (e : Exchange) → ChainBy by start exchanges old → by old e new → ChainBy by start (exchanges ++ e ∷ []) new
Chain-push by start old new [] e c a = (new, rw c at a, refl)
Chain-push by start old new (f ∷ exchanges) e c a = (c.0, c.1, Chain-push by c.0 old new exchanges e c.2 a)

Chain-allowed : {D : Type 0} (allows : D → Message → ℕ → Reply → D → Type 0) (tells : D → Type 0) (shows : D → List Shown) (start now : D)
    (exchanges : List Exchange) → ChainBy (Telling allows tells shows) start exchanges now → ChainBy (Allowing allows) start exchanges now
Chain-allowed allows tells shows start now [] c = c
Chain-allowed allows tells shows start now (e ∷ exchanges) c = (c.0, c.1.0, Chain-allowed allows tells shows c.0 now exchanges c.2)

pub NoneCloses-push : (exchanges : List Exchange) (e : Exchange) → NoneCloses exchanges → IsFalse e.message.close
    → NoneCloses (exchanges ++ e ∷ [])
NoneCloses-push [] e n c = (c, tt)
NoneCloses-push (f ∷ exchanges) e n c = (n.0, NoneCloses-push exchanges e n.1 c)

All_at-push : (at : ℕ) (exchanges : List Exchange) (e : Exchange) → AllByRecursion (λ e. e.moment ≡ at) exchanges
    → e.moment ≡ at → AllByRecursion (λ e. e.moment ≡ at) (exchanges ++ e ∷ [])
All_at-push at [] e all same = (same, tt)
All_at-push at (f ∷ exchanges) e all same = (all.0, All_at-push at exchanges e all.1 same)

-- a clock that is fixed answers that moment each time
fixed-push : (a read : Option ℕ) (exchanges : List Exchange) (e : Exchange) → read ≡ a
    → IfSome a (λ at. AllByRecursion (λ e. e.moment ≡ at) exchanges) → IfSome read (λ at. e.moment ≡ at)
    → IfSome a (λ at. AllByRecursion (λ e. e.moment ≡ at) (exchanges ++ e ∷ []))
fixed-push None read exchanges e same before now = tt
fixed-push (Some at) read exchanges e same before now = All_at-push at exchanges e before (rw same at now)

-- `body_limit` is the most bytes that a body may have.
module _ (body_limit : ℕ) where
  AreRead-push : (kept left next : List ℕ) (turns : List Turn) (turn : Turn) → AreRead body_limit kept turns left → ReadsTurn body_limit left turn next
      → AreRead body_limit kept (turns ++ turn ∷ []) next
  AreRead-push kept left next [] turn same r = (next, subst (λ (l : List ℕ). ReadsTurn body_limit l turn next) same r, refl)
  AreRead-push kept left next (t ∷ turns) turn (behind, first, more) r =
      (behind, first, AreRead-push behind left next turns turn more r)

  -- ---- what the desk let be sent was allowed

  pub Served-allowed : {D : Type 0} (allows : D → Message → ℕ → Reply → D → Type 0) (tells : D → Type 0) (shows : D → List Shown) (start now : D) (a b : Told)
      (left : List ℕ) (turns : List Turn) (ending : Ending)
      → Served body_limit (Telling allows tells shows) start now a b left turns ending → Served body_limit (Allowing allows) start now a b left turns ending
  Served-allowed allows tells shows start now a b left turns ending s = record {
    trace = s.trace;
    read = s.read;
    input = s.input;
    answered = Chain-allowed allows tells shows start now (exchanges_of turns) s.answered;
    fixed = s.fixed;
    stays = s.stays;
    read_faults = s.read_faults;
    write_faults = s.write_faults;
  }

  -- ---- a message was answered

  pub Served-step : {D : Type 0} (by : D → Exchange → D → Type 0) (start old new : D) (a b c : Told)
      (kept left : List ℕ) (count : ℕ) (result : Result (Unit {0}) Failed) (turns : List Turn)
      → Served body_limit by start old a b kept turns no_ending → (s : Step body_limit by old new b c kept left count result)
      → Served body_limit by start new a c left (turns ++ s.turn ∷ []) no_ending
  Served-step by start old new a b c kept left count result turns before s =
      let exchanges = exchanges_of turns in
      record {
        trace =
            s.trace ∙ ap (λ l. l ++ events_of_turn s.turn) before.trace
            ∙ append_assoc a.trace (events_of turns no_ending) (events_of_turn s.turn)
            ∙ ap (λ l. a.trace ++ l) (sym (events_of-push turns s.turn));
        read = AreRead-push [] kept left turns s.turn before.read s.reads;
        input = rw (bytes_of-push turns s.turn)
            (Consumes-trans a.left b.left c.left (bytes_of turns no_ending) (concat s.turn.reads) before.input s.input);
        answered = rw (exchanges_of-push turns s.turn)
            (Chain-push by start old new exchanges s.turn.exchange before.answered s.allowed);
        fixed = rw (exchanges_of-push turns s.turn)
            (fixed-push a.fixed b.fixed exchanges s.turn.exchange before.stays before.fixed s.fixed);
        stays = s.stays ∙ before.stays;
        read_faults = omega (arith, before.read_faults, s.read_faults);
        write_faults = omega (arith, before.write_faults, s.write_faults);
      }

  -- ---- an end came, and its reply was written, whole or in part

  pub Served-stop : {D : Type 0} (by : D → Exchange → D → Type 0) (start old new : D) (a b read c : Told)
      (kept : List ℕ) (why : WireEnd) (turns : List Turn) (writes : List (List ℕ))
      → Served body_limit by start old a b kept turns no_ending → (s : Stop body_limit old new b read kept why) → Written read c writes
      → Served body_limit by start new a c kept turns (record { reads = s.pieces; writes = writes })
  Served-stop by start old new a b read c kept why turns writes before s sent =
      let quiet = s.taken.others in
      let ending : Ending = record { reads = s.pieces; writes = writes } in
      let input = rw (← sent.others.left) at s.taken.input in
      record {
        trace =
            sent.trace ∙ ap (λ l. l ++ map Took writes) (s.taken.trace ∙ ap (λ l. l ++ map Gave s.pieces) before.trace)
            ∙ append_assoc (a.trace ++ events_of turns no_ending) (map Gave s.pieces) (map Took writes)
            ∙ append_assoc a.trace (events_of turns no_ending) (map Gave s.pieces ++ map Took writes)
            ∙ ap (λ l. a.trace ++ l) (sym (events_of-end turns ending));
        read = before.read;
        input = rw (bytes_of-end turns ending)
            (Consumes-trans a.left b.left c.left (bytes_of turns no_ending) (concat s.pieces) before.input input);
        answered = rw s.unasked before.answered;
        fixed = before.fixed;
        stays = sent.others.fixed ∙ quiet.fixed ∙ before.stays;
        read_faults = omega (arith, before.read_faults, quiet.read_faults, sent.others.read_faults);
        write_faults = omega (arith, before.write_faults, quiet.write_faults, sent.others.write_faults);
      }
