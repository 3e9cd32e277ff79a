-- What serving a link by any desk does on the link.
use Rattle.std.proofs.Common.{◌≡◌, ℕ, ◌++◌, ◌∙◌, ap, arith, map, List, [], ◌∷◌, Option, Some, None, refl, sym, inl, append_assoc, append-nil}
use Rattle.std.specs.Prelude.{IfSome}
use Rattle.std.specs.List.{AllByRecursion, concat}
use Rattle.std.specs.Io.KnownBytes.{Consumes}
use Rattle.std.proofs.lemmas.List.{length-map}
use Rattle.osm_outside.specs.Event.{Event, Shown, Gave, Took, Answered, Showed, Found, given, answered}
use Rattle.osm_outside.specs.Told.{Told}
use Rattle.http_wire.specs.declared.message.Message.{Message}
use Rattle.http_wire.specs.declared.end.WireEnd.{WireEnd}
use Rattle.http_wire.specs.End.{IsTold}
use Rattle.http_wire.specs.Message.{AreMessages}
use Rattle.http_link.specs.declared.desk.Reply.{Reply}
use Rattle.http_link.specs.declared.desk.Withheld.{Withheld}
use Rattle.http_link.specs.declared.end.LinkEnd.{LinkEnd}
use Rattle.http_link.specs.declared.end.LinkEnd.TheVariants.{Memory}
use Rattle.http_link.specs.Input.{IsByInput, EndsByInput}
use Rattle.http_link.specs.Exchange.{Exchange, moments_of}
use Rattle.http_link.specs.Turns.{Turn, Ending, no_ending, events_of, events_of_turn, sending, exchanges_of, bytes_of}
use Rattle.http_link.specs.Link.{Serves, ServesTold}
use Rattle.server_frame.specs.OnLink.{AnswersLinkWithin, AnswersLinkToldWithin, OnLinkWithin}

-- ---- what the events of turns give and tell

given-append : (xs ys : List Event) → given (xs ++ ys) ≡ given xs ++ given ys
given-append [] ys = refl
given-append (Gave bytes ∷ xs) ys =
    ap (λ l. bytes ++ l) (given-append xs ys) ∙ sym (append_assoc bytes (given xs) (given ys))
given-append (Took bytes ∷ xs) ys = given-append xs ys
given-append (Answered moment ∷ xs) ys = given-append xs ys
given-append (Showed front ∷ xs) ys = given-append xs ys
given-append (Found entries ∷ xs) ys = given-append xs ys

answered-append : (xs ys : List Event) → answered (xs ++ ys) ≡ answered xs ++ answered ys
answered-append [] ys = refl
answered-append (Gave bytes ∷ xs) ys = answered-append xs ys
answered-append (Took bytes ∷ xs) ys = answered-append xs ys
answered-append (Answered moment ∷ xs) ys = ap (λ l. moment ∷ l) (answered-append xs ys)
answered-append (Showed front ∷ xs) ys = answered-append xs ys
answered-append (Found entries ∷ xs) ys = answered-append xs ys

given-reads : (reads : List (List ℕ)) → given (map Gave reads) ≡ concat reads
given-reads [] = refl
given-reads (r ∷ reads) = ap (λ l. r ++ l) (given-reads reads)

given-writes : (writes : List (List ℕ)) → given (map Took writes) ≡ []
given-writes [] = refl
given-writes (w ∷ writes) = given-writes writes

answered-reads : (reads : List (List ℕ)) → answered (map Gave reads) ≡ []
answered-reads [] = refl
answered-reads (r ∷ reads) = answered-reads reads

answered-writes : (writes : List (List ℕ)) → answered (map Took writes) ≡ []
answered-writes [] = refl
answered-writes (w ∷ writes) = answered-writes writes

given-sent : (shown : List Shown) (writes : List (List ℕ)) → given (sending shown writes) ≡ []
given-sent [] writes = given-writes writes
given-sent (s ∷ shown) writes = given-sent shown writes

answered-sent : (shown : List Shown) (writes : List (List ℕ)) → answered (sending shown writes) ≡ []
answered-sent [] writes = answered-writes writes
answered-sent (s ∷ shown) writes = answered-sent shown writes

given-parts : (reads writes : List (List ℕ)) → given (map Gave reads ++ map Took writes) ≡ concat reads
given-parts reads writes =
    given-append (map Gave reads) (map Took writes)
    ∙ (λ i. given-reads reads i ++ given-writes writes i) ∙ append-nil (concat reads)

answered-parts : (reads writes : List (List ℕ)) → answered (map Gave reads ++ map Took writes) ≡ []
answered-parts reads writes =
    answered-append (map Gave reads) (map Took writes) ∙ (λ i. answered-reads reads i ++ answered-writes writes i)

given-turn : (turn : Turn) → given (events_of_turn turn) ≡ concat turn.reads
given-turn turn =
    given-append (map Gave turn.reads) (Answered turn.exchange.moment ∷ sending turn.exchange.shown turn.writes)
    ∙ (λ i. given-reads turn.reads i ++ given-sent turn.exchange.shown turn.writes i) ∙ append-nil (concat turn.reads)

answered-turn : (turn : Turn) → answered (events_of_turn turn) ≡ turn.exchange.moment ∷ []
answered-turn turn =
    answered-append (map Gave turn.reads) (Answered turn.exchange.moment ∷ sending turn.exchange.shown turn.writes)
    ∙ (λ i. answered-reads turn.reads i ++ (turn.exchange.moment ∷ answered-sent turn.exchange.shown turn.writes i))

given-turns : (turns : List Turn) (ending : Ending) → given (events_of turns ending) ≡ bytes_of turns ending
given-turns [] ending = given-parts ending.reads ending.writes
given-turns (turn ∷ turns) ending =
    given-append (events_of_turn turn) (events_of turns ending) ∙ (λ i. given-turn turn i ++ given-turns turns ending i)

answered-turns : (turns : List Turn) (ending : Ending) → answered (events_of turns ending) ≡ moments_of (exchanges_of turns)
answered-turns [] ending = answered-parts ending.reads ending.writes
answered-turns (turn ∷ turns) ending =
    answered-append (events_of_turn turn) (events_of turns ending)
    ∙ (λ i. answered-turn turn i ++ answered-turns turns ending i)

-- ---- the link

-- `body_limit` is the most bytes that a body may have.
module _ (body_limit : ℕ) where
  on_link : {D : Type 0} (allows : D → Message → ℕ → Reply → D → Type 0) (old new : D) (before after : Told) (end : LinkEnd) (s : Serves body_limit allows old new before after end)
      → OnLinkWithin body_limit before after (exchanges_of s.turns) end
  on_link allows old new before after end s = record {
    turns = s.turns;
    ending = s.ending;
    trace = s.served.trace;
    exchanges_are = refl;
    few = omega (arith, s.few, length-map s.turns (λ t. t.exchange));
    bytes = bytes_of s.turns s.ending;
    rest = s.left ++ concat s.ending.reads;
    input = sym (given-turns s.turns s.ending);
    messages = s.agrees.messages;
    taken = s.agrees.taken;
    limit = s.agrees.limit;
    consumed = s.served.input;
    moments = answered-turns s.turns s.ending;
    fixed = s.served.fixed;
    stays = s.served.stays;
    left = s.left;
    read = s.served.read;
    ends = s.ends;
    by_bytes = s.agrees.by_bytes;
    by_input = s.agrees.by_input;
    read_faults = s.served.read_faults;
    write_faults = s.served.write_faults;
  }

  pub answers_link : {D : Type 0} (allows : D → Message → ℕ → Reply → D → Type 0) (old new : D) (before after : Told) (end : LinkEnd)
      → Serves body_limit allows old new before after end → AnswersLinkWithin body_limit allows old new before after end
  answers_link allows old new before after end s = record {
    exchanges = exchanges_of s.turns;
    link = on_link allows old new before after end s;
    answered = s.served.answered;
  }

  pub answers_told : {D : Type 0} (allows : D → Message → ℕ → Reply → D → Type 0) (tells : D → Type 0) (shows : D → List Shown) (withholds : D → Withheld → Type 0) (old new : D) (before after : Told) (end : LinkEnd)
      → ServesTold body_limit allows tells shows withholds old new before after end → AnswersLinkToldWithin body_limit allows tells shows withholds old new before after end
  answers_told allows tells shows withholds old new before after end s = record {
    answers = record {
      exchanges = exchanges_of s.serves.turns;
      link = on_link allows old new before after end s.serves;
      answered = s.serves.served.answered;
    };
    told = s.told;
  }

  -- ---- a link that was left alone

  -- every byte string has messages and an end behind them
  abbrev HaveReadings : Type 0
  HaveReadings = (bytes : List ℕ) → (messages : List Message) × (why : WireEnd) × IsTold why × AreMessages body_limit bytes messages why

  -- want of memory is told by no bytes
  by_no_bytes : HaveReadings → (input : List ℕ) → EndsByInput body_limit input [] Memory
  by_no_bytes readings input =
      let found = readings input in
      (found.0, found.1, found.2, found.3, λ (never : IsByInput Memory). absurd never)

  unserved_input : HaveReadings → (left : Option (List ℕ)) → IfSome left (λ input. EndsByInput body_limit input [] Memory)
  unserved_input readings None = tt
  unserved_input readings (Some input) = by_no_bytes readings input

  unserved_left : (left : Option (List ℕ)) → Consumes left left []
  unserved_left None = tt
  unserved_left (Some input) = refl

  unserved_moments : (fixed : Option ℕ) → IfSome fixed (λ at. AllByRecursion (λ (e : Exchange). e.moment ≡ at) [])
  unserved_moments None = tt
  unserved_moments (Some at) = tt

  pub unserved_link : (before : Told) → HaveReadings → OnLinkWithin body_limit before before [] Memory
  unserved_link before readings = record {
    turns = [];
    ending = no_ending;
    trace = sym (append-nil before.trace);
    exchanges_are = refl;
    few = omega arith;
    bytes = [];
    rest = [];
    input = refl;
    messages = refl;
    taken = omega arith;
    limit = omega arith;
    consumed = unserved_left before.left;
    moments = refl;
    fixed = unserved_moments before.fixed;
    stays = refl;
    left = [];
    read = refl;
    ends = inl (record { untouched = refl; no_turn = refl; nothing_else = refl });
    by_bytes = by_no_bytes readings [];
    by_input = unserved_input readings before.left;
    read_faults = omega arith;
    write_faults = omega arith;
  }
