-- Replies that were sent with receipts in hand, one after the other.
use Rattle.std.proofs.Common.{◌≡◌, ℕ, ◌≤◌, Bool, true, false, List, [], ◌∷◌, ◌++◌, length, take, refl, sym, ap, ◌∙◌, subst, arith}
use Rattle.std.specs.Prelude.{IsTrue}
use Rattle.std.proofs.Math.Seq.{take-length}
use mathlib.Core.List.{IsPrefix}
use Rattle.http_link.specs.Exchange.{Exchange, ChainBy, Telling}
use Rattle.http_link.specs.Link.{AreTold}
use Rattle.http_link.specs.declared.desk.Withheld.{Withheld}
use Rattle.http_link.specs.declared.end.LinkEnd.{LinkEnd}
use Rattle.http_link.specs.declared.end.LinkEnd.TheVariants.{Unkept}
use Rattle.durable_log.specs.Receipts.{last_count}
use Rattle.durable_log.specs.Receipts.{Receipt}
use Rattle.session_desk.specs.Rows.{Place}
use Rattle.session_desk.specs.Steps.{place_at}
use Rattle.session_desk.specs.Answered.{RowOf, RowsStay, AreAnswered, HasServed}
use Rattle.session_desk.proofs.Lists.{prefix_self, prefix_trans, prefix_length, prefix_take}
use Rattle.user_table.specs.Users.{Users}
use Rattle.kept_desk.specs.Kept.{AtKept, Tells, shows_kept, Withholds, HasWithheld, AllowsKept, Sending, exchanges_in, sent_ones, sent_but_last, sendings, AreKeptAndTold, HasKeptAndTold}
use Rattle.kept_desk.proofs.Sendings.{sent_but_last-next}

module _ {E : Type 0} (row : RowOf E) where
  -- ---- as answered by any desk

  answered_of : (users : Users) (session : ℕ) (F : List E) (R : List Receipt) (before : Place) (had : ℕ) (told : List Sending) (after : Place)
      → AreKeptAndTold row users session F R before had told after → AreAnswered row users session F before (exchanges_in told) after
  answered_of users session F R before had [] after h = h
  answered_of users session F R before had (s ∷ told) after (mid, in_hand, grown, inside, point, kept, is, rest) =
      (mid, point, is, answered_of users session F R mid in_hand told after rest)

  pub served_of : (users : Users) (old new : AtKept E) (point : ℕ) (told : List Sending) → HasKeptAndTold row users old point told new
      → HasServed row users old.desk.known point (exchanges_in told) new.desk.known
  served_of users old new point told h = record {
    number = h.number;
    begins = h.begins;
    last = h.last;
    within = h.within;
    answered = answered_of users old.desk.known.number new.desk.known.front new.receipts (place_at old.desk.known point) (length old.receipts)
        told (place_at new.desk.known h.last) h.told;
  }

  -- ---- one message, and none

  -- the receipts in hand were for the point of the reply
  receipt_for : (it : AtKept E) (point : ℕ) → point ≤ it.tells_of → Tells it → point ≤ last_count (take (length it.receipts) it.receipts)
  receipt_for it point within tells = rw (take-length it.receipts) (omega (arith, within, tells))

  one_told : (old new : AtKept E) (e : Exchange) (sent : Bool) (point : ℕ) → point ≤ length old.desk.known.front
      → AllowsKept row old e.message e.moment e.answer new → (IsTrue sent → Tells new × (e.shown ≡ shows_kept new))
      → HasKeptAndTold row old.desk.users old point (record { exchange = e; sent = sent } ∷ []) new
  one_told old new e sent point le allowed tells =
      let step = allowed.answers point le in
      let inside : step.0 ≤ length new.desk.known.front = omega (arith, step.1, allowed.within) in record {
        number = allowed.number;
        begins = allowed.begins;
        receipts = allowed.receipts;
        failed = allowed.failed;
        last = step.0;
        within = inside;
        told = (
          place_at new.desk.known step.0,
          length new.receipts,
          prefix_length old.receipts new.receipts allowed.receipts,
          omega arith,
          inside,
          λ is_sent. (rw (take-length new.receipts) (tells is_sent).1, receipt_for new step.0 step.1 (tells is_sent).0),
          step.2,
          (refl, inside),
        );
      }

  pub none_told : (users : Users) (it : AtKept E) (point : ℕ) → point ≤ length it.desk.known.front → HasKeptAndTold row users it point [] it
  none_told users it point le = record {
    number = refl;
    begins = prefix_self it.desk.known.front;
    receipts = prefix_self it.receipts;
    failed = λ h. h;
    last = point;
    within = le;
    told = (refl, le);
  }

module _ {E : Type 0} (row : RowOf E) (stay : RowsStay row) where
  -- ---- on a longer front, with more receipts

  told-longer : (users : Users) (session : ℕ) (F G : List E) (R Q : List Receipt) (before : Place) (had : ℕ) (told : List Sending) (after : Place)
      → IsPrefix F G → IsPrefix R Q → AreKeptAndTold row users session F R before had told after
      → AreKeptAndTold row users session G Q before had told after
  told-longer users session F G R Q before had [] after longer more h = (h.0, omega (arith, h.1, prefix_length F G longer))
  told-longer users session F G R Q before had (s ∷ told) after longer more (mid, in_hand, grown, inside, point, kept, is, rest) = (
    mid,
    in_hand,
    grown,
    omega (arith, inside, prefix_length R Q more),
    omega (arith, point, prefix_length F G longer),
    λ sent. rw (prefix_take in_hand R Q more inside) (kept sent),
    stay users session F G before mid s.exchange.message s.exchange.moment s.exchange.answer longer point is,
    told-longer users session F G R Q mid in_hand told after longer more rest,
  )

  pub told_stay : (users : Users) (old new : AtKept E) (point : ℕ) (told : List Sending) (front : List E) (receipts : List Receipt)
      → (served : HasKeptAndTold row users old point told new) → IsPrefix new.desk.known.front front → IsPrefix new.receipts receipts
      → AreKeptAndTold row users old.desk.known.number front receipts (place_at old.desk.known point) (length old.receipts)
      told (place_at new.desk.known served.last)
  told_stay users old new point told front receipts served longer more =
      told-longer users old.desk.known.number new.desk.known.front front new.receipts receipts (place_at old.desk.known point) (length old.receipts)
      told (place_at new.desk.known served.last) longer more served.told

  -- ---- one link and then another

  -- fewer receipts were in hand before
  told-fewer : (users : Users) (session : ℕ) (F : List E) (R : List Receipt) (before : Place) (fewer had : ℕ) (told : List Sending) (after : Place)
      → fewer ≤ had → AreKeptAndTold row users session F R before had told after → AreKeptAndTold row users session F R before fewer told after
  told-fewer users session F R before fewer had [] after le h = h
  told-fewer users session F R before fewer had (s ∷ told) after le (mid, more, grown, inside, point, kept, is, rest) =
      (mid, more, omega (arith, le, grown), inside, point, kept, is, rest)

  told-append : (users : Users) (session : ℕ) (F G : List E) (R Q : List Receipt) (before mid after : Place) (had : ℕ) (first second : List Sending)
      → IsPrefix F G → IsPrefix R Q → had ≤ length R
      → AreKeptAndTold row users session F R before had first mid → AreKeptAndTold row users session G Q mid (length R) second after
      → AreKeptAndTold row users session G Q before had (first ++ second) after
  told-append users session F G R Q before mid after had [] second longer more few h k =
      subst (λ (p : Place). AreKeptAndTold row users session G Q p had second after) h.0
      (told-fewer users session G Q mid had (length R) second after few k)
  told-append users session F G R Q before mid after had (s ∷ first) second longer more few (at, in_hand, grown, inside, point, kept, is, rest) k = (
    at,
    in_hand,
    grown,
    omega (arith, inside, prefix_length R Q more),
    omega (arith, point, prefix_length F G longer),
    λ sent. rw (prefix_take in_hand R Q more inside) (kept sent),
    stay users session F G before at s.exchange.message s.exchange.moment s.exchange.answer longer point is,
    told-append users session F G R Q at mid after in_hand first second longer more inside rest k,
  )

  pub links_told : (users : Users) (old mid new : AtKept E) (point : ℕ) (first second : List Sending)
      → (served : HasKeptAndTold row users old point first mid) → HasKeptAndTold row users mid served.last second new
      → HasKeptAndTold row users old point (first ++ second) new
  links_told users old mid new point first second served more =
      let F = new.desk.known.front in
      let then_on : AreKeptAndTold row users old.desk.known.number F new.receipts (place_at mid.desk.known served.last) (length mid.receipts) second
      (place_at new.desk.known more.last) =
      subst (λ (n : ℕ). AreKeptAndTold row users n F new.receipts (place_at mid.desk.known served.last) (length mid.receipts) second
      (place_at new.desk.known more.last)) served.number more.told in record {
        number = more.number ∙ served.number;
        begins = prefix_trans old.desk.known.front mid.desk.known.front F served.begins more.begins;
        receipts = prefix_trans old.receipts mid.receipts new.receipts served.receipts more.receipts;
        failed = λ was. more.failed (served.failed was);
        last = more.last;
        within = more.within;
        told = told-append users old.desk.known.number mid.desk.known.front F mid.receipts new.receipts (place_at old.desk.known point)
            (place_at mid.desk.known served.last) (place_at new.desk.known more.last) (length old.receipts) first second more.begins more.receipts
            (prefix_length old.receipts mid.receipts served.receipts) served.told then_on;
      }

  -- ---- the messages of a link

  then_told : (old mid new : AtKept E) (point : ℕ) (first second : List Sending) → mid.desk.users ≡ old.desk.users
      → (served : HasKeptAndTold row old.desk.users old point first mid)
      → (new.desk.users ≡ mid.desk.users) × HasKeptAndTold row mid.desk.users mid served.last second new
      → (new.desk.users ≡ old.desk.users) × HasKeptAndTold row old.desk.users old point (first ++ second) new
  then_told old mid new point first second same served more = (
    more.0 ∙ same,
    links_told old.desk.users old mid new point first second served
        (subst (λ (u : Users). HasKeptAndTold row u mid served.last second new) same more.1),
  )

  all_told : (old new : AtKept E) (exchanges : List Exchange) (point : ℕ) → point ≤ length old.desk.known.front
      → ChainBy (Telling (AllowsKept row) Tells shows_kept) old exchanges new
      → (new.desk.users ≡ old.desk.users) × HasKeptAndTold row old.desk.users old point (sent_ones exchanges) new
  all_told old new [] point le same =
      subst (λ (d : AtKept E). (d.desk.users ≡ old.desk.users) × HasKeptAndTold row old.desk.users old point [] d) (sym same)
      (refl, none_told row old.desk.users old point le)
  all_told old new (e ∷ exchanges) point le (mid, (allowed, tells, shown), more) =
      let first = one_told row old mid e true point le allowed (λ sent. (tells, shown)) in
      then_told old mid new point (record { exchange = e; sent = true } ∷ []) (sent_ones exchanges) allowed.users first
      (all_told mid new exchanges first.last first.within more)

  -- the last reply was held back
  held_told : (old new : AtKept E) (exchanges : List Exchange) (why : Withheld) (point : ℕ) → point ≤ length old.desk.known.front
      → AreTold (AllowsKept row) Tells shows_kept Withholds old exchanges new (Unkept why)
      → (new.desk.users ≡ old.desk.users) × HasKeptAndTold row old.desk.users old point (sent_but_last exchanges) new
  held_told old new exchanges why point le (front, last, mid, is, chain, allowed, unshown, cause) =
      let sent = all_told old mid front point le chain in
      let held = one_told row mid new last false sent.1.last sent.1.within allowed (λ never. absurd (cc never)) in
      subst (λ (l : List Sending). (new.desk.users ≡ old.desk.users) × HasKeptAndTold row old.desk.users old point l new)
      (sym (ap sent_but_last is ∙ sent_but_last-next front last))
      (then_told old mid new point (sent_ones front) (record { exchange = last; sent = false } ∷ []) sent.0 sent.1 (allowed.users, held))

  all_withheld : (old new : AtKept E) (exchanges : List Exchange) (point : ℕ) → point ≤ length old.desk.known.front
      → ChainBy (Telling (AllowsKept row) Tells shows_kept) old exchanges new
      → (new.desk.users ≡ old.desk.users) × HasKeptAndTold row old.desk.users old point (sent_ones exchanges) new × Unit {0}
  all_withheld old new exchanges point le h = let all = all_told old new exchanges point le h in (all.0, all.1, tt)

  pub told_chain : (old new : AtKept E) (exchanges : List Exchange) (end : LinkEnd) (point : ℕ) → point ≤ length old.desk.known.front
      → AreTold (AllowsKept row) Tells shows_kept Withholds old exchanges new end
      → (new.desk.users ≡ old.desk.users) × HasKeptAndTold row old.desk.users old point (sendings end exchanges) new × HasWithheld end new
  told_chain old new exchanges (Unkept why) point le (front, last, mid, is, chain, allowed, unshown, cause) =
      let held = held_told old new exchanges why point le (front, last, mid, is, chain, allowed, unshown, cause) in (held.0, held.1, cause)
  told_chain old new exchanges other point le h = all_withheld old new exchanges point le h
