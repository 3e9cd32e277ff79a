-- What a desk answered that keeps before it tells, over one link after another, as steps of the list.
use Rattle.std.proofs.Common.{◌≡◌, ℕ, ◌≤◌, true, false, List, [], ◌∷◌, ◌++◌, length, refl, ap, sym, ◌∙◌, subst, arith}
use Rattle.std.specs.Prelude.{IsTrue}
use Rattle.std.specs.List.{AllByRecursion, AllZip}
use mathlib.Core.List.{IsPrefix}
use Rattle.osm_base.specs.declared.limits.TheConstants.{PIECE_LIMIT}
use Rattle.http_wire.specs.declared.message.Message.{Message}
use Rattle.http_link.specs.declared.desk.Reply.{Reply}
use Rattle.http_link.specs.declared.desk.Withheld.{Withheld}
use Rattle.http_link.specs.declared.end.LinkEnd.{LinkEnd}
use Rattle.http_link.specs.declared.desk.Withheld.TheVariants as withheld
use Rattle.http_link.specs.declared.end.LinkEnd.TheVariants.{Ended, Closed, Budget, Refused, ReadFault, WriteFault, Unkept, Memory}
use Rattle.http_link.specs.Exchange.{Exchange, ChainBy, Telling}
use Rattle.http_link.specs.Turns.{exchanges_of}
use Rattle.http_link.specs.Link.{AreTold, ServesTold}
use Rattle.link_workers.specs.Port.{Visit, ServesEach}
use Rattle.durable_log.specs.Receipts.{last_count}
use Rattle.durable_log.specs.Receipts.{Receipt}
use Rattle.kept_desk.specs.Kept.{Sending, sent_ones, sent_but_last, sendings}
use Rattle.kept_desk.proofs.Sendings.{sent_but_last-next}
use Rattle.desk_serve.specs.KeptPorts.{HasCause, all_sendings}
use Rattle.step_hub.specs.ServePorts.{IsStepOf}
use Rattle.step_hub.proofs.Beginnings.{prefix_self, prefix_trans, prefix_length, taken_is}
use Rattle.step_hub.proofs.Joined.{step_begins, is_step}
use Rattle.kept_steps.specs.Kept.{AtKeptFront, Tells, shows_kept, Withholds, AllowsKept}
use Rattle.kept_steps.specs.KeptPorts.{AreToldSteps, IsToldStep, IsServedTold}

module _ {C E : Type 0} (steps : C → List E → Message → ℕ → Reply → List E → Type 0) where
  -- From old the desk comes to new by these, and before each reply was sent that was, the desk let it, and its receipts were shown.
  abbrev pub Sends : AtKeptFront C E → List Sending → AtKeptFront C E → Type 0
  Sends old [] new = new ≡ old
  Sends old (s ∷ told) new =
      (mid : AtKeptFront C E) × AllowsKept steps old s.exchange.message s.exchange.moment s.exchange.answer mid
      × (IsTrue s.sent → Tells mid × (s.exchange.shown ≡ shows_kept mid)) × Sends mid told new

  sends_then : (old mid new : AtKeptFront C E) (first second : List Sending) → Sends old first mid → Sends mid second new → Sends old (first ++ second) new
  sends_then old mid new [] second h k = subst (λ (d : AtKeptFront C E). Sends d second new) h k
  sends_then old mid new (s ∷ first) second h k = (h.0, h.1, h.2, sends_then h.0 mid new first second h.3 k)

  -- ---- the messages of a link

  all_sent : (old new : AtKeptFront C E) (exchanges : List Exchange) → ChainBy (Telling (AllowsKept steps) Tells shows_kept) old exchanges new → Sends old (sent_ones exchanges) new
  all_sent old new [] h = h
  all_sent old new (e ∷ exchanges) (mid, (allowed, tells, shown), more) = (mid, allowed, λ sent. (tells, shown), all_sent mid new exchanges more)

  -- the last reply was held back
  last_held : (old new : AtKeptFront C E) (exchanges : List Exchange) (why : Withheld) → AreTold (AllowsKept steps) Tells shows_kept Withholds old exchanges new (Unkept why)
      → Sends old (sent_but_last exchanges) new
  last_held old new exchanges why (front, last, mid, is, chain, allowed, unshown, cause) =
      subst (λ (l : List Sending). Sends old l new) (sym (ap sent_but_last is ∙ sent_but_last-next front last))
      (sends_then old mid new (sent_ones front) (record { exchange = last; sent = false } ∷ []) (all_sent old mid front chain)
      (new, allowed, λ never. absurd (cc never), refl))

  link_sends : (old new : AtKeptFront C E) (exchanges : List Exchange) (end : LinkEnd) → AreTold (AllowsKept steps) Tells shows_kept Withholds old exchanges new end
      → Sends old (sendings end exchanges) new
  link_sends old new exchanges (Unkept why) h = last_held old new exchanges why h
  link_sends old new exchanges other h = all_sent old new exchanges h

  -- ---- the links of a desk, with their exchanges, and these joined

  pub record Joins (old new : AtKeptFront C E) (visits : List Visit) : Type 0 where
    pub exchanges : List (List Exchange)
    pub each : AllZip (IsServedTold (AllowsKept steps) Tells shows_kept Withholds) visits exchanges
    pub sends : Sends old (all_sendings visits exchanges) new

  pub joined : (old new : AtKeptFront C E) (visits : List Visit) → ServesEach (ServesTold PIECE_LIMIT (AllowsKept steps) Tells shows_kept Withholds) old visits new → Joins old new visits
  joined old new [] same = record { exchanges = []; each = tt; sends = same }
  joined old new (v ∷ visits) h =
      let s = h.1 in
      let rest = joined h.0 new visits h.2 in record {
        exchanges = exchanges_of s.serves.turns ∷ rest.exchanges;
        each = (record { old = old; new = h.0; serves = s; exchanges_are = refl }, rest.each);
        sends =
            sends_then old h.0 new (sendings v.end (exchanges_of s.serves.turns)) (all_sendings visits rest.exchanges)
            (link_sends old h.0 (exchanges_of s.serves.turns) v.end s.told) rest.sends;
      }

  -- ---- as steps of a list that all that was seen begins, with receipts that all that were in hand begin

  -- nothing that was seen is lost, no receipt, and no note that keeping failed
  record Grows (old new : AtKeptFront C E) : Type 0 where
    pub front : IsPrefix old.desk.front new.desk.front
    pub receipts : IsPrefix old.keeper.receipts new.keeper.receipts
    pub failed : old.keeper.failed ≡ true → new.keeper.failed ≡ true

  sends_grow : (old new : AtKeptFront C E) (told : List Sending) → Sends old told new → Grows old new
  sends_grow old new [] same =
      subst (λ (d : AtKeptFront C E). Grows old d) (sym same) (record { front = prefix_self old.desk.front; receipts = prefix_self old.keeper.receipts; failed = λ was. was })
  sends_grow old new (s ∷ told) h =
      let rest = sends_grow h.0 new told h.3 in record {
        front =
            prefix_trans old.desk.front h.0.desk.front new.desk.front
            (step_begins steps old.desk s.exchange.message s.exchange.moment s.exchange.answer h.0.desk h.1.answered) rest.front;
        receipts = prefix_trans old.keeper.receipts h.0.keeper.receipts new.keeper.receipts h.1.receipts rest.receipts;
        failed = λ was. rest.failed (h.1.failed was);
      }

  one_told : (setting : C) (list : List E) (receipts : List Receipt) (old mid : AtKeptFront C E) (s : Sending) → old.desk.setting ≡ setting
      → IsPrefix mid.desk.front list → IsPrefix mid.keeper.receipts receipts
      → AllowsKept steps old s.exchange.message s.exchange.moment s.exchange.answer mid → (IsTrue s.sent → Tells mid × (s.exchange.shown ≡ shows_kept mid))
      → IsToldStep (steps setting) list receipts (length old.desk.front) old.desk.grown (length old.keeper.receipts) s (length mid.desk.front) mid.desk.grown
      (length mid.keeper.receipts)
  one_told setting list receipts old mid s is within in_hand allowed tells = record {
    step =
        subst (λ (c : C). IsStepOf (steps c) list (length old.desk.front) old.desk.grown s.exchange (length mid.desk.front) mid.desk.grown) is
        (is_step steps list old.desk s.exchange mid.desk within allowed.answered);
    later = prefix_length old.keeper.receipts mid.keeper.receipts allowed.receipts;
    within = prefix_length mid.keeper.receipts receipts in_hand;
    kept = λ sent.
        let enough : mid.keeper.tells_of ≤ last_count mid.keeper.receipts = (tells sent).0 in
        subst (λ (l : List Receipt). (s.exchange.shown ≡ l ∷ []) × (length mid.desk.front ≤ last_count l)) (sym (taken_is mid.keeper.receipts receipts in_hand))
        ((tells sent).1, omega (arith, allowed.tells_of, enough));
  }

  pub are_told : (setting : C) (list : List E) (receipts : List Receipt) (old new : AtKeptFront C E) (told : List Sending) → old.desk.setting ≡ setting
      → IsPrefix new.desk.front list → IsPrefix new.keeper.receipts receipts → Sends old told new
      → AreToldSteps (steps setting) list receipts (length old.desk.front) old.desk.grown (length old.keeper.receipts) told (length new.desk.front) new.desk.grown
  are_told setting list receipts old new [] is within in_hand same =
      (ap (λ (d : AtKeptFront C E). length d.desk.front) same, ap (λ (d : AtKeptFront C E). d.desk.grown) same)
  are_told setting list receipts old new (s ∷ told) is within in_hand h =
      let rest = sends_grow h.0 new told h.3 in (
        length h.0.desk.front,
        h.0.desk.grown,
        length h.0.keeper.receipts,
        one_told setting list receipts old h.0 s is (prefix_trans h.0.desk.front new.desk.front list rest.front within)
            (prefix_trans h.0.keeper.receipts new.keeper.receipts receipts rest.receipts in_hand) h.1 h.2,
        are_told setting list receipts h.0 new told (h.1.answered.setting ∙ is) within in_hand h.3,
      )

  -- ---- replies that were withheld

  -- a cause that follows from what the desk noted
  cause_of : (cause : Type 0) (old new : AtKeptFront C E) (exchanges : List Exchange) (end : LinkEnd) → (new.keeper.failed ≡ true → cause)
      → AreTold (AllowsKept steps) Tells shows_kept Withholds old exchanges new end → HasCause cause end
  cause_of cause old new exchanges Ended so h = tt
  cause_of cause old new exchanges Closed so h = tt
  cause_of cause old new exchanges Budget so h = tt
  cause_of cause old new exchanges (Refused why) so h = tt
  cause_of cause old new exchanges ReadFault so h = tt
  cause_of cause old new exchanges WriteFault so h = tt
  cause_of cause old new exchanges (Unkept withheld.Failed) so (front, last, mid, is, chain, allowed, unshown, noted) = so noted
  cause_of cause old new exchanges (Unkept withheld.Memory) so h = tt
  cause_of cause old new exchanges (Unkept withheld.Full) so h = tt
  cause_of cause old new exchanges (Unkept withheld.Mismatched) so h = tt
  cause_of cause old new exchanges Memory so h = tt

  -- that keeping failed is noted for good
  stays_failed : (old new : AtKeptFront C E) (visits : List Visit) → ServesEach (ServesTold PIECE_LIMIT (AllowsKept steps) Tells shows_kept Withholds) old visits new
      → old.keeper.failed ≡ true → new.keeper.failed ≡ true
  stays_failed old new visits h was =
      let all : Joins old new visits = joined old new visits h in (sends_grow old new (all_sendings visits all.exchanges) all.sends).failed was

  -- where a link ended with a reply withheld because keeping failed, the desk notes it to the end
  pub causes : (cause : Type 0) (old new : AtKeptFront C E) (visits : List Visit)
      → ServesEach (ServesTold PIECE_LIMIT (AllowsKept steps) Tells shows_kept Withholds) old visits new → (new.keeper.failed ≡ true → cause)
      → AllByRecursion (λ visit. HasCause cause visit.end) visits
  causes cause old new [] h so = tt
  causes cause old new (v ∷ visits) h so = (
    cause_of cause old h.0 (exchanges_of h.1.serves.turns) v.end (λ was. so (stays_failed h.0 new visits h.2 was)) h.1.told,
    causes cause h.0 new visits h.2 so,
  )
