-- What had happened before a read, and before the clock answered.
use Rattle.std.proofs.Common.{◌≡◌, ℕ, ◌+◌, ◌<◌, ◌≤◌, ◌⊎◌, inl, inr, List, [], ◌∷◌, ◌++◌, length, map, IsFalse, refl, sym, ap, ◌∙◌, append_assoc, append-nil, arith}
use Rattle.std.specs.Prelude.{⊤}
use Rattle.std.specs.List.{concat}
use Rattle.std.proofs.lemmas.List.{length-map}
use Rattle.osm_base.specs.declared.limits.TheConstants.{HEAD_LIMIT, REQUEST_LIMIT}
use Rattle.osm_outside.specs.Event.{Event, Shown, Gave, Took, Answered, Showed, Found, given, taken}
use Rattle.osm_outside.specs.Told.{Told}
use Rattle.http_wire.specs.Message.{BeginsWithin, HasMessages}
use Rattle.http_wire.specs.End.{IsUnfinished}
use Rattle.http_wire.specs.Wire.{AreNeeded}
use Rattle.http_link.specs.declared.end.LinkEnd.{LinkEnd}
use Rattle.http_link.specs.declared.end.LinkEnd.TheVariants as ends
use Rattle.http_link.specs.Exchange.{Exchange, messages_of, text_of, texts_from}
use Rattle.http_link.specs.Turns.{Turn, Ending, no_ending, events_of, events_of_turn, sending, exchanges_of, AreRead, AreWritten, ReadsTurn}
use Rattle.http_link.specs.Link.{NoneCloses, GoesOn, LinkEnds}
use Rattle.http_link.specs.Order.{HasAnswered, HasNext}

-- ---- an event of a list of events

abbrev InOne : List Event → List Event → List Event → List Event → Event → Type 0
InOne xs ys front behind e =
    ((post : List Event) × (xs ≡ front ++ (e ∷ post)))
    ⊎ ((later : List Event) × (front ≡ xs ++ later) × (ys ≡ later ++ (e ∷ behind)))

in_one_behind : (x f : Event) (xs ys front behind : List Event) (e : Event) → x ≡ f → InOne xs ys front behind e
    → InOne (x ∷ xs) ys (f ∷ front) behind e
in_one_behind x f xs ys front behind e head (inl (post, same)) = inl (post, λ i. head i ∷ same i)
in_one_behind x f xs ys front behind e head (inr (later, front_is, ys_is)) =
    inr (later, (λ i. sym head i ∷ front_is i), ys_is)

-- an event of two joined lists stands in one of them
in_one : (xs ys front behind : List Event) (e : Event) → xs ++ ys ≡ front ++ (e ∷ behind) → InOne xs ys front behind e
in_one [] ys front behind e h = inr (front, refl, h)
in_one (x ∷ xs) ys [] behind e h =
    let head : x ≡ e = cc in
    inl (xs, ap (λ (k : Event). k ∷ xs) head)
in_one (x ∷ xs) ys (f ∷ front) behind e h =
    let head : x ≡ f = cc in
    let tail : xs ++ ys ≡ front ++ (e ∷ behind) = cc in
    in_one_behind x f xs ys front behind e head (in_one xs ys front behind e tail)

-- the reads before a read
record Before (reads : List (List ℕ)) (front : List Event) : Type 0 where
  pub pre : List (List ℕ)
  pub piece : List ℕ
  pub post : List (List ℕ)
  pub reads_are : reads ≡ pre ++ (piece ∷ post)
  pub front_is : front ≡ map Gave pre

before-cons : (read : List ℕ) (reads : List (List ℕ)) (f : Event) (front : List Event) → Gave read ≡ f → Before reads front
    → Before (read ∷ reads) (f ∷ front)
before-cons read reads f front head b = record {
  pre = read ∷ b.pre;
  piece = b.piece;
  post = b.post;
  reads_are = ap (λ (l : List (List ℕ)). read ∷ l) b.reads_are;
  front_is = λ i. sym head i ∷ b.front_is i;
}

before : (reads : List (List ℕ)) (front post : List Event) (piece : List ℕ) → map Gave reads ≡ front ++ (Gave piece ∷ post)
    → Before reads front
before [] [] post piece h = absurd cc
before [] (f ∷ front) post piece h = absurd cc
before (read ∷ reads) [] post piece h = record { pre = []; piece = read; post = reads; reads_are = refl; front_is = refl }
before (read ∷ reads) (f ∷ front) post piece h =
    let head : Gave read ≡ f = cc in
    let tail : map Gave reads ≡ front ++ (Gave piece ∷ post) = cc in
    before-cons read reads f front head (before reads front post piece tail)

no_read_written : (writes : List (List ℕ)) (front post : List Event) (piece : List ℕ) → ¬ (map Took writes ≡ front ++ (Gave piece ∷ post))
no_read_written [] [] post piece h = absurd cc
no_read_written [] (f ∷ front) post piece h = absurd cc
no_read_written (w ∷ writes) [] post piece h = absurd cc
no_read_written (w ∷ writes) (f ∷ front) post piece h =
    let tail : map Took writes ≡ front ++ (Gave piece ∷ post) = cc in
    no_read_written writes front post piece tail

no_read_sent : (shown : List Shown) (writes : List (List ℕ)) (front post : List Event) (piece : List ℕ)
    → ¬ (sending shown writes ≡ front ++ (Gave piece ∷ post))
no_read_sent [] writes front post piece h = no_read_written writes front post piece h
no_read_sent (s ∷ shown) writes [] post piece h = absurd cc
no_read_sent (s ∷ shown) writes (f ∷ front) post piece h =
    let tail : sending shown writes ≡ front ++ (Gave piece ∷ post) = cc in
    no_read_sent shown writes front post piece tail

no_read_replied : (moment : ℕ) (shown : List Shown) (writes : List (List ℕ)) (front post : List Event) (piece : List ℕ)
    → ¬ (Answered moment ∷ sending shown writes ≡ front ++ (Gave piece ∷ post))
no_read_replied moment shown writes [] post piece h = absurd cc
no_read_replied moment shown writes (f ∷ front) post piece h =
    let tail : sending shown writes ≡ front ++ (Gave piece ∷ post) = cc in
    no_read_sent shown writes front post piece tail

no_moment_read : (reads : List (List ℕ)) (front post : List Event) (moment : ℕ) → ¬ (map Gave reads ≡ front ++ (Answered moment ∷ post))
no_moment_read [] [] post moment h = absurd cc
no_moment_read [] (f ∷ front) post moment h = absurd cc
no_moment_read (w ∷ reads) [] post moment h = absurd cc
no_moment_read (w ∷ reads) (f ∷ front) post moment h =
    let tail : map Gave reads ≡ front ++ (Answered moment ∷ post) = cc in
    no_moment_read reads front post moment tail

no_moment_written : (writes : List (List ℕ)) (front post : List Event) (moment : ℕ) → ¬ (map Took writes ≡ front ++ (Answered moment ∷ post))
no_moment_written [] [] post moment h = absurd cc
no_moment_written [] (f ∷ front) post moment h = absurd cc
no_moment_written (w ∷ writes) [] post moment h = absurd cc
no_moment_written (w ∷ writes) (f ∷ front) post moment h =
    let tail : map Took writes ≡ front ++ (Answered moment ∷ post) = cc in
    no_moment_written writes front post moment tail

no_moment_sent : (shown : List Shown) (writes : List (List ℕ)) (front post : List Event) (moment : ℕ)
    → ¬ (sending shown writes ≡ front ++ (Answered moment ∷ post))
no_moment_sent [] writes front post moment h = no_moment_written writes front post moment h
no_moment_sent (s ∷ shown) writes [] post moment h = absurd cc
no_moment_sent (s ∷ shown) writes (f ∷ front) post moment h =
    let tail : sending shown writes ≡ front ++ (Answered moment ∷ post) = cc in
    no_moment_sent shown writes front post moment tail

-- ---- what events give and take

given-append : (xs ys : List Event) → given (xs ++ ys) ≡ given xs ++ given ys
given-append [] ys = refl
given-append (Gave bytes ∷ xs) ys =
    ap (λ l. bytes ++ l) (given-append xs ys) ∙ sym (append_assoc bytes (given xs) (given ys))
given-append (Took bytes ∷ xs) ys = given-append xs ys
given-append (Answered moment ∷ xs) ys = given-append xs ys
given-append (Showed front ∷ xs) ys = given-append xs ys
given-append (Found entries ∷ xs) ys = given-append xs ys

taken-append : (xs ys : List Event) → taken (xs ++ ys) ≡ taken xs ++ taken ys
taken-append [] ys = refl
taken-append (Gave bytes ∷ xs) ys = taken-append xs ys
taken-append (Took bytes ∷ xs) ys =
    ap (λ l. bytes ++ l) (taken-append xs ys) ∙ sym (append_assoc bytes (taken xs) (taken ys))
taken-append (Answered moment ∷ xs) ys = taken-append xs ys
taken-append (Showed front ∷ xs) ys = taken-append xs ys
taken-append (Found entries ∷ xs) ys = taken-append xs ys

given-reads : (reads : List (List ℕ)) → given (map Gave reads) ≡ concat reads
given-reads [] = refl
given-reads (r ∷ reads) = ap (λ l. r ++ l) (given-reads reads)

taken-reads : (reads : List (List ℕ)) → taken (map Gave reads) ≡ []
taken-reads [] = refl
taken-reads (r ∷ reads) = taken-reads reads

given-writes : (writes : List (List ℕ)) → given (map Took writes) ≡ []
given-writes [] = refl
given-writes (w ∷ writes) = given-writes writes

taken-writes : (writes : List (List ℕ)) → taken (map Took writes) ≡ concat writes
taken-writes [] = refl
taken-writes (w ∷ writes) = ap (λ l. w ++ l) (taken-writes writes)

given-sent : (shown : List Shown) (writes : List (List ℕ)) → given (sending shown writes) ≡ []
given-sent [] writes = given-writes writes
given-sent (s ∷ shown) writes = given-sent shown writes

taken-sent : (shown : List Shown) (writes : List (List ℕ)) → taken (sending shown writes) ≡ concat writes
taken-sent [] writes = taken-writes writes
taken-sent (s ∷ shown) writes = taken-sent shown writes

given-turn : (turn : Turn) → given (events_of_turn turn) ≡ concat turn.reads
given-turn turn =
    given-append (map Gave turn.reads) (Answered turn.exchange.moment ∷ sending turn.exchange.shown turn.writes)
    ∙ ap (λ l. given (map Gave turn.reads) ++ l) (given-sent turn.exchange.shown turn.writes) ∙ append-nil (given (map Gave turn.reads))
    ∙ given-reads turn.reads

taken-turn : (turn : Turn) → taken (events_of_turn turn) ≡ concat turn.writes
taken-turn turn =
    taken-append (map Gave turn.reads) (Answered turn.exchange.moment ∷ sending turn.exchange.shown turn.writes)
    ∙ ap (λ l. l ++ taken (sending turn.exchange.shown turn.writes)) (taken-reads turn.reads) ∙ taken-sent turn.exchange.shown turn.writes

given-behind : (turn : Turn) (front later : List Event) (kept : List ℕ) → front ≡ events_of_turn turn ++ later
    → kept ++ given front ≡ (kept ++ concat turn.reads) ++ given later
given-behind turn front later kept front_is =
    ap (λ l. kept ++ given l) front_is ∙ ap (λ l. kept ++ l) (given-append (events_of_turn turn) later)
    ∙ ap (λ l. kept ++ (l ++ given later)) (given-turn turn) ∙ sym (append_assoc kept (concat turn.reads) (given later))

taken-behind : (turn : Turn) (front later : List Event) → front ≡ events_of_turn turn ++ later
    → taken front ≡ concat turn.writes ++ taken later
taken-behind turn front later front_is =
    ap taken front_is ∙ taken-append (events_of_turn turn) later ∙ ap (λ l. l ++ taken later) (taken-turn turn)

-- ---- turns that others follow

-- A turn that something follows was answered whole, and doesn't end the link.
abbrev Follows : ℕ → List Turn → Ending → Type 0
Follows count [] ending = ⊤
Follows count (turn ∷ turns) ending =
    ((turns ≡ []) × (ending ≡ no_ending))
    ⊎ (IsFalse turn.exchange.message.close × (count + 1 < REQUEST_LIMIT)
    × (concat turn.writes ≡ text_of count turn.exchange) × Follows (count + 1) turns ending)

follows_all : (count : ℕ) (turns : List Turn) (ending : Ending) → NoneCloses (exchanges_of turns) → count + length turns < REQUEST_LIMIT
    → AreWritten count turns → Follows count turns ending
follows_all count [] ending none room whole = tt
follows_all count (turn ∷ turns) ending none room whole =
    inr (none.0, omega (arith, room), whole.0, follows_all (count + 1) turns ending none.1 (omega (arith, room)) whole.1)

follows_last : (count : ℕ) (front : List Turn) (last : Turn) → NoneCloses (exchanges_of front) → count + length front < REQUEST_LIMIT
    → AreWritten count front → Follows count (front ++ last ∷ []) no_ending
follows_last count [] last none room whole = inl (refl, refl)
follows_last count (turn ∷ front) last none room whole =
    inr (none.0, omega (arith, room), whole.0, follows_last (count + 1) front last none.1 (omega (arith, room)) whole.1)

follows_full : (count : ℕ) (turns : List Turn) → NoneCloses (exchanges_of turns) → count + length turns ≡ REQUEST_LIMIT
    → AreWritten count turns → Follows count turns no_ending
follows_full count [] none full whole = tt
follows_full count (turn ∷ []) none full whole = inl (refl, refl)
follows_full count (turn ∷ next ∷ turns) none full whole =
    inr (none.0, omega (arith, full), whole.0, follows_full (count + 1) (next ∷ turns) none.1 (omega (arith, full)) whole.1)

AreWritten-front : (count : ℕ) (front : List Turn) (last : Turn) → AreWritten count (front ++ last ∷ []) → AreWritten count front
AreWritten-front count [] last whole = tt
AreWritten-front count (turn ∷ front) last whole = (whole.0, AreWritten-front (count + 1) front last whole.1)

-- `body_limit` is the most bytes that a body may have.
module _ (body_limit : ℕ) where
  -- what the end tells of the turns
  record InOrder (turns : List Turn) (left : List ℕ) (ending : Ending) : Type 0 where
    pub follows : Follows 0 turns ending
    pub needed : AreNeeded body_limit left ending.reads

  going : (turns : List Turn) (left : List ℕ) (ending : Ending) → GoesOn (exchanges_of turns) → AreWritten 0 turns
      → AreNeeded body_limit left ending.reads → InOrder turns left ending
  going turns left ending on whole needed = record {
    follows = follows_all 0 turns ending on.0 (omega (arith, on.1, length-map turns (λ t. t.exchange))) whole;
    needed = needed;
  }

  lasting : (turns : List Turn) (left : List ℕ) (ending : Ending) (front : List Turn) (last : Turn) → turns ≡ front ++ last ∷ []
      → ending ≡ no_ending → GoesOn (exchanges_of front) → AreWritten 0 front → InOrder turns left ending
  lasting turns left ending front last same none on whole = record {
    follows = rw (same, none) (follows_last 0 front last on.0 (omega (arith, on.1, length-map front (λ t. t.exchange))) whole);
    needed = rw none tt;
  }

  in_order : (before after : Told) (turns : List Turn) (left : List ℕ) (ending : Ending) (end : LinkEnd)
      → LinkEnds body_limit before after turns left ending end → InOrder turns left ending
  in_order before after turns left ending ends.Ended f = going turns left ending f.going_on f.replies f.reads.needed
  in_order before after turns left ending ends.Closed f =
      lasting turns left ending f.front f.last f.turns_are f.nothing_else f.going_on
      (AreWritten-front 0 f.front f.last (rw f.turns_are at f.replies))
  in_order before after turns left ending ends.Budget f = record {
    follows = rw f.nothing_else (follows_full 0 turns f.none (omega (arith, f.full)) f.replies);
    needed = rw f.nothing_else tt;
  }
  in_order before after turns left ending (ends.Refused why) f = going turns left ending f.1.going_on f.1.replies f.1.reads.needed
  in_order before after turns left ending ends.ReadFault f = going turns left ending f.0.going_on f.0.replies f.0.reads.needed
  in_order before after turns left ending ends.WriteFault (inl f, rose) =
      lasting turns left ending f.front f.last f.turns_are f.nothing_else f.going_on f.replies
  in_order before after turns left ending ends.WriteFault (inr f, rose) = going turns left ending f.going_on f.replies f.reads.needed
  in_order before after turns left ending (ends.Unkept why) f =
      lasting turns left ending f.lacks.front f.lacks.last f.lacks.turns_are f.lacks.nothing_else f.lacks.going_on f.lacks.replies
  in_order before after turns left ending ends.Memory (inl f) = record {
    follows = rw f.no_turn tt;
    needed = rw f.nothing_else tt;
  }
  in_order before after turns left ending ends.Memory (inr f) = going turns left ending f.going_on f.replies f.reads.needed

  -- ---- before a read

  unfinished_at : (kept : List ℕ) (pre : List (List ℕ)) (piece : List ℕ) (post : List (List ℕ)) → AreNeeded body_limit kept (pre ++ (piece ∷ post))
      → IsUnfinished body_limit (kept ++ concat pre)
  unfinished_at kept [] piece post needed = rw (append-nil kept) needed.0
  unfinished_at kept (p ∷ pre) piece post needed =
      rw (← append_assoc kept p (concat pre)) (unfinished_at (kept ++ p) pre piece post needed.1)

  -- the same behind some exchanges, with some bytes kept
  record Answers (kept : List ℕ) (count : ℕ) (exchanges : List Exchange) (events : List Event) : Type 0 where
    pub done : List Exchange
    pub later : List Exchange
    pub exchanges_are : exchanges ≡ done ++ later
    pub none : NoneCloses done
    pub room : count + length done < REQUEST_LIMIT
    pub left : List ℕ
    pub messages : HasMessages body_limit (kept ++ given events) (messages_of done) left
    pub unfinished : IsUnfinished body_limit left
    pub replies : taken events ≡ texts_from count done

  at_reads : (kept : List ℕ) (count : ℕ) (exchanges : List Exchange) (reads : List (List ℕ)) (front : List Event) → count < REQUEST_LIMIT
      → AreNeeded body_limit kept reads → Before reads front → Answers kept count exchanges front
  at_reads kept count exchanges reads front few needed b = record {
    done = [];
    later = exchanges;
    exchanges_are = refl;
    none = tt;
    room = omega arith;
    left = kept ++ concat b.pre;
    messages = ap (λ l. kept ++ given l) b.front_is ∙ ap (λ l. kept ++ l) (given-reads b.pre);
    unfinished = unfinished_at kept b.pre b.piece b.post (rw b.reads_are at needed);
    replies = ap taken b.front_is ∙ taken-reads b.pre;
  }

  begins_still : (kept behind : List ℕ) (turn : Turn) (front later : List Event) → front ≡ events_of_turn turn ++ later
      → ReadsTurn body_limit kept turn behind → BeginsWithin body_limit (kept ++ given front) turn.exchange.message (behind ++ given later)
  begins_still kept behind turn front later front_is r =
      let b = r.begins in
      (b.0, b.1, given-behind turn front later kept front_is ∙ ap (λ l. l ++ given later) b.2 ∙ append_assoc b.0 behind (given later))

  answers-cons : (kept behind : List ℕ) (count : ℕ) (turn : Turn) (turns : List Turn) (front later : List Event)
      → front ≡ events_of_turn turn ++ later → ReadsTurn body_limit kept turn behind → IsFalse turn.exchange.message.close
      → concat turn.writes ≡ text_of count turn.exchange → Answers behind (count + 1) (exchanges_of turns) later
      → Answers kept count (exchanges_of (turn ∷ turns)) front
  answers-cons kept behind count turn turns front later front_is r still whole s = record {
    done = turn.exchange ∷ s.done;
    later = s.later;
    exchanges_are = ap (λ (l : List Exchange). turn.exchange ∷ l) s.exchanges_are;
    none = (still, s.none);
    room = omega (arith, s.room);
    left = s.left;
    messages = (behind ++ given later, begins_still kept behind turn front later front_is r, s.messages);
    unfinished = s.unfinished;
    replies = taken-behind turn front later front_is ∙ (λ i. whole i ++ s.replies i);
  }

  -- nothing happens behind the last turn where nothing follows
  nothing_follows : (turns : List Turn) (ending : Ending) (later behind : List Event) (e : Event) → turns ≡ [] → ending ≡ no_ending
      → ¬ (events_of turns ending ≡ later ++ (e ∷ behind))
  nothing_follows turns ending later behind e none no_more h = not_nil later (rw (none, no_more) at h)
    where
      not_nil : (l : List Event) → ¬ ([] ≡ l ++ (e ∷ behind))
      not_nil [] q = absurd cc
      not_nil (x ∷ l) q = absurd cc

  at_ending : (kept : List ℕ) (count : ℕ) (ending : Ending) (front behind : List Event) (piece : List ℕ) → count < REQUEST_LIMIT
      → AreNeeded body_limit kept ending.reads → InOne (map Gave ending.reads) (map Took ending.writes) front behind (Gave piece)
      → Answers kept count [] front
  at_ending kept count ending front behind piece few needed (inl (post, same)) =
      at_reads kept count [] ending.reads front few needed (before ending.reads front post piece same)
  at_ending kept count ending front behind piece few needed (inr (later, front_is, rest)) =
      absurd (no_read_written ending.writes later behind piece rest)

  in_turn : (kept mid : List ℕ) (count : ℕ) (turn : Turn) (turns : List Turn) (front post : List Event) (piece : List ℕ)
      → count < REQUEST_LIMIT → ReadsTurn body_limit kept turn mid
      → InOne (map Gave turn.reads) (Answered turn.exchange.moment ∷ sending turn.exchange.shown turn.writes) front post (Gave piece)
      → Answers kept count (exchanges_of (turn ∷ turns)) front
  in_turn kept mid count turn turns front post piece few r (inl (after, same)) =
      at_reads kept count (exchanges_of (turn ∷ turns)) turn.reads front few r.needed (before turn.reads front after piece same)
  in_turn kept mid count turn turns front post piece few r (inr (later, front_is, rest)) =
      absurd (no_read_replied turn.exchange.moment turn.exchange.shown turn.writes later post piece rest)

  -- in the turn, or as `behind_it` says behind it
  at_turn : (kept mid : List ℕ) (count : ℕ) (turn : Turn) (turns : List Turn) (ending : Ending) (front behind : List Event)
      (piece : List ℕ)
      → ((later : List Event) → count + 1 < REQUEST_LIMIT → Follows (count + 1) turns ending
      → events_of turns ending ≡ later ++ (Gave piece ∷ behind) → Answers mid (count + 1) (exchanges_of turns) later)
      → count < REQUEST_LIMIT → ReadsTurn body_limit kept turn mid → Follows count (turn ∷ turns) ending
      → InOne (events_of_turn turn) (events_of turns ending) front behind (Gave piece)
      → Answers kept count (exchanges_of (turn ∷ turns)) front
  at_turn kept mid count turn turns ending front behind piece behind_it few r follows (inl (post, same)) =
      in_turn kept mid count turn turns front post piece few r
      (in_one (map Gave turn.reads) (Answered turn.exchange.moment ∷ sending turn.exchange.shown turn.writes) front post (Gave piece) same)
  at_turn kept mid count turn turns ending front behind piece behind_it few r (inl (none, no_more)) (inr (later, front_is, rest)) =
      absurd (nothing_follows turns ending later behind (Gave piece) none no_more rest)
  at_turn kept mid count turn turns ending front behind piece behind_it few r (inr (still, room, whole, follows)) (inr (later, front_is, rest)) =
      answers-cons kept mid count turn turns front later front_is r still whole (behind_it later room follows rest)

  answers_at : (kept left : List ℕ) (count : ℕ) (turns : List Turn) (ending : Ending) (front behind : List Event) (piece : List ℕ)
      → count < REQUEST_LIMIT → AreRead body_limit kept turns left → Follows count turns ending → AreNeeded body_limit left ending.reads
      → events_of turns ending ≡ front ++ (Gave piece ∷ behind) → Answers kept count (exchanges_of turns) front
  answers_at kept left count [] ending front behind piece few same follows needed h =
      at_ending kept count ending front behind piece few (rw same at needed)
      (in_one (map Gave ending.reads) (map Took ending.writes) front behind (Gave piece) h)
  answers_at kept left count (turn ∷ turns) ending front behind piece few (mid, r, more) follows needed h =
      at_turn kept mid count turn turns ending front behind piece
      (λ later room after rest. answers_at mid left (count + 1) turns ending later behind piece room more after needed rest)
      few r follows (in_one (events_of_turn turn) (events_of turns ending) front behind (Gave piece) h)

  pub replies_come_before_reads : (before after : Told) (turns : List Turn) (left : List ℕ) (ending : Ending) (end : LinkEnd)
      (front behind : List Event) (piece : List ℕ) → AreRead body_limit [] turns left
      → LinkEnds body_limit before after turns left ending end → events_of turns ending ≡ front ++ (Gave piece ∷ behind)
      → HasAnswered body_limit (exchanges_of turns) front
  replies_come_before_reads before after turns left ending end front behind piece read facts h =
      let order = in_order before after turns left ending end facts in
      let s = answers_at [] left 0 turns ending front behind piece (omega arith) read order.follows order.needed h in
      record {
        done = s.done;
        later = s.later;
        exchanges_are = s.exchanges_are;
        going_on = (s.none, omega (arith, s.room));
        kept = s.left;
        messages = s.messages;
        unfinished = s.unfinished;
        replies = s.replies;
      }

  -- ---- before the clock answers

  -- the same behind some exchanges, with some bytes kept
  record Nexts (kept : List ℕ) (count : ℕ) (exchanges : List Exchange) (events : List Event) (moment : ℕ) : Type 0 where
    pub done : List Exchange
    pub next : Exchange
    pub later : List Exchange
    pub exchanges_are : exchanges ≡ done ++ next ∷ later
    pub none : NoneCloses done
    pub room : count + length done < REQUEST_LIMIT
    pub moment_is : next.moment ≡ moment
    pub left : List ℕ
    pub messages : HasMessages body_limit (kept ++ given events) (messages_of (done ++ next ∷ [])) left
    pub limit : length left ≤ HEAD_LIMIT
    pub replies : taken events ≡ texts_from count done

  nexts-cons : (kept behind : List ℕ) (count : ℕ) (turn : Turn) (turns : List Turn) (front later : List Event) (moment : ℕ)
      → front ≡ events_of_turn turn ++ later → ReadsTurn body_limit kept turn behind → IsFalse turn.exchange.message.close
      → concat turn.writes ≡ text_of count turn.exchange → Nexts behind (count + 1) (exchanges_of turns) later moment
      → Nexts kept count (exchanges_of (turn ∷ turns)) front moment
  nexts-cons kept behind count turn turns front later moment front_is r still whole s = record {
    done = turn.exchange ∷ s.done;
    next = s.next;
    later = s.later;
    exchanges_are = ap (λ (l : List Exchange). turn.exchange ∷ l) s.exchanges_are;
    none = (still, s.none);
    room = omega (arith, s.room);
    moment_is = s.moment_is;
    left = s.left;
    messages = (behind ++ given later, begins_still kept behind turn front later front_is r, s.messages);
    limit = s.limit;
    replies = taken-behind turn front later front_is ∙ (λ i. whole i ++ s.replies i);
  }

  -- the moment stands behind the reads
  at_clock : (kept mid : List ℕ) (count : ℕ) (turn : Turn) (turns : List Turn) (front later post : List Event) (moment : ℕ)
      → count < REQUEST_LIMIT → ReadsTurn body_limit kept turn mid → front ≡ map Gave turn.reads ++ later
      → Answered turn.exchange.moment ∷ sending turn.exchange.shown turn.writes ≡ later ++ (Answered moment ∷ post)
      → Nexts kept count (exchanges_of (turn ∷ turns)) front moment
  at_clock kept mid count turn turns front [] post moment few r front_is rest =
      let same : turn.exchange.moment ≡ moment = cc in
      let reads : front ≡ map Gave turn.reads = front_is ∙ append-nil (map Gave turn.reads) in
      let b = r.begins in
      record {
        done = [];
        next = turn.exchange;
        later = exchanges_of turns;
        exchanges_are = refl;
        none = tt;
        room = omega arith;
        moment_is = same;
        left = mid;
        messages = (
          mid,
          (b.0, b.1, ap (λ l. kept ++ given l) reads ∙ ap (λ l. kept ++ l) (given-reads turn.reads) ∙ b.2),
          refl,
        );
        limit = r.limit;
        replies = ap taken reads ∙ taken-reads turn.reads;
      }
  at_clock kept mid count turn turns front (e ∷ later) post moment few r front_is rest =
      let tail : sending turn.exchange.shown turn.writes ≡ later ++ (Answered moment ∷ post) = cc in
      absurd (no_moment_sent turn.exchange.shown turn.writes later post moment tail)

  clock_in_turn : (kept mid : List ℕ) (count : ℕ) (turn : Turn) (turns : List Turn) (front post : List Event) (moment : ℕ)
      → count < REQUEST_LIMIT → ReadsTurn body_limit kept turn mid
      → InOne (map Gave turn.reads) (Answered turn.exchange.moment ∷ sending turn.exchange.shown turn.writes) front post (Answered moment)
      → Nexts kept count (exchanges_of (turn ∷ turns)) front moment
  clock_in_turn kept mid count turn turns front post moment few r (inl (after, same)) =
      absurd (no_moment_read turn.reads front after moment same)
  clock_in_turn kept mid count turn turns front post moment few r (inr (later, front_is, rest)) =
      at_clock kept mid count turn turns front later post moment few r front_is rest

  clock_at_turn : (kept mid : List ℕ) (count : ℕ) (turn : Turn) (turns : List Turn) (ending : Ending) (front behind : List Event)
      (moment : ℕ)
      → ((later : List Event) → count + 1 < REQUEST_LIMIT → Follows (count + 1) turns ending
      → events_of turns ending ≡ later ++ (Answered moment ∷ behind) → Nexts mid (count + 1) (exchanges_of turns) later moment)
      → count < REQUEST_LIMIT → ReadsTurn body_limit kept turn mid → Follows count (turn ∷ turns) ending
      → InOne (events_of_turn turn) (events_of turns ending) front behind (Answered moment)
      → Nexts kept count (exchanges_of (turn ∷ turns)) front moment
  clock_at_turn kept mid count turn turns ending front behind moment behind_it few r follows (inl (post, same)) =
      clock_in_turn kept mid count turn turns front post moment few r
      (in_one (map Gave turn.reads) (Answered turn.exchange.moment ∷ sending turn.exchange.shown turn.writes) front post (Answered moment) same)
  clock_at_turn kept mid count turn turns ending front behind moment behind_it few r (inl (none, no_more)) (inr (later, front_is, rest)) =
      absurd (nothing_follows turns ending later behind (Answered moment) none no_more rest)
  clock_at_turn kept mid count turn turns ending front behind moment behind_it few r (inr (still, room, whole, follows)) (inr (later, front_is, rest)) =
      nexts-cons kept mid count turn turns front later moment front_is r still whole (behind_it later room follows rest)

  clock_at_ending : (kept : List ℕ) (count : ℕ) (ending : Ending) (front behind : List Event) (moment : ℕ)
      → InOne (map Gave ending.reads) (map Took ending.writes) front behind (Answered moment) → Nexts kept count [] front moment
  clock_at_ending kept count ending front behind moment (inl (post, same)) =
      absurd (no_moment_read ending.reads front post moment same)
  clock_at_ending kept count ending front behind moment (inr (later, front_is, rest)) =
      absurd (no_moment_written ending.writes later behind moment rest)

  nexts_at : (kept left : List ℕ) (count : ℕ) (turns : List Turn) (ending : Ending) (front behind : List Event) (moment : ℕ)
      → count < REQUEST_LIMIT → AreRead body_limit kept turns left → Follows count turns ending
      → events_of turns ending ≡ front ++ (Answered moment ∷ behind) → Nexts kept count (exchanges_of turns) front moment
  nexts_at kept left count [] ending front behind moment few same follows h =
      clock_at_ending kept count ending front behind moment
      (in_one (map Gave ending.reads) (map Took ending.writes) front behind (Answered moment) h)
  nexts_at kept left count (turn ∷ turns) ending front behind moment few (mid, r, more) follows h =
      clock_at_turn kept mid count turn turns ending front behind moment
      (λ later room after rest. nexts_at mid left (count + 1) turns ending later behind moment room more after rest)
      few r follows (in_one (events_of_turn turn) (events_of turns ending) front behind (Answered moment) h)

  pub clock_is_read_between : (before after : Told) (turns : List Turn) (left : List ℕ) (ending : Ending) (end : LinkEnd)
      (front behind : List Event) (moment : ℕ) → AreRead body_limit [] turns left
      → LinkEnds body_limit before after turns left ending end → events_of turns ending ≡ front ++ (Answered moment ∷ behind)
      → HasNext body_limit (exchanges_of turns) front moment
  clock_is_read_between before after turns left ending end front behind moment read facts h =
      let order = in_order before after turns left ending end facts in
      let s = nexts_at [] left 0 turns ending front behind moment (omega arith) read order.follows h in
      record {
        done = s.done;
        next = s.next;
        later = s.later;
        exchanges_are = s.exchanges_are;
        going_on = (s.none, omega (arith, s.room));
        moment_is = s.moment_is;
        kept = s.left;
        messages = s.messages;
        limit = s.limit;
        replies = s.replies;
      }
