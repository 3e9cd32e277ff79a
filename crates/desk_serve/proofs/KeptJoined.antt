-- The links of one session that keeps before it tells, joined one after another.
use Rattle.std.proofs.Common.{◌≡◌, ℕ, true, ◌≤◌, ◌⊎◌, inl, inr, List, [], ◌∷◌, ◌++◌, length, Option, refl, sym, ap, ◌∙◌, subst, arith}
use mathlib.Core.List.{IsPrefix}
use Rattle.osm_outside.specs.Told.{Told}
use Rattle.http_link.specs.Exchange.{Exchange}
use Rattle.http_link.specs.declared.desk.Withheld.TheVariants as withheld
use Rattle.http_link.specs.declared.end.LinkEnd.{LinkEnd}
use Rattle.http_link.specs.declared.end.LinkEnd.TheVariants as ends
use Rattle.std.specs.List.{AllByRecursion}
use Rattle.link_workers.specs.Port.{Visit, ServesEach}
use Rattle.machine_law.specs.Rules.{Rules}
use Rattle.snapshot_hub.specs.Known.{Known, seeing}
use Rattle.durable_log.specs.Receipts.{Receipt}
use Rattle.user_table.specs.Users.{Users}
use Rattle.session_desk.specs.Rows.{Place}
use Rattle.session_desk.specs.Steps.{place_at}
use Rattle.session_desk.specs.Answered.{RowOf}
use Rattle.session_desk.proofs.Lists.{prefix_trans, prefix_length}
use Rattle.kept_desk.specs.Kept.{AtKept, at_kept, Sending, sendings, HasWithheld, AreKeptAndTold, HasKeptAndTold}
use Rattle.kept_desk.proofs.Kept.{Still, still, same_place}
use Rattle.kept_desk.proofs.Told.{none_told}
use Rattle.desk_serve.specs.Desks.{at_desk}
use Rattle.desk_serve.specs.Link.{HasStarted, LacksStart}
use Rattle.desk_serve.specs.Kept.{KeepsLink}
use Rattle.desk_serve.specs.KeptPorts.{KeptJoins, HasCause, all_sendings}

module _ {E : Type 0} (row : RowOf E) where
  -- what one link and then another told by the same session is told together
  abbrev pub KeptChain : Type 0
  KeptChain = (users : Users) (old mid new : AtKept E) (point : ℕ) (first second : List Sending)
      → (served : HasKeptAndTold row users old point first mid) → HasKeptAndTold row users mid served.last second new
      → HasKeptAndTold row users old point (first ++ second) new

  -- what was told stands on each longer front, with more receipts
  abbrev pub KeptStay : Type 0
  KeptStay = (users : Users) (old new : AtKept E) (point : ℕ) (told : List Sending) (front : List E) (receipts : List Receipt)
      → (served : HasKeptAndTold row users old point told new) → IsPrefix new.desk.known.front front → IsPrefix new.receipts receipts
      → AreKeptAndTold row users old.desk.known.number front receipts (place_at old.desk.known point) (length old.receipts) told (place_at new.desk.known served.last)

  -- the same of a session that has seen more at last, and of more receipts
  pub kept_at_last : (users : Users) (old stopped : AtKept E) (known : Known E) (receipts : List Receipt) (point : ℕ) (told : List Sending) → KeptStay
      → known ≡ seeing stopped.desk.known known.front → IsPrefix stopped.desk.known.front known.front → IsPrefix stopped.receipts receipts
      → HasKeptAndTold row users old point told stopped
      → HasKeptAndTold row users old point told (at_kept (at_desk users known) stopped.tells_of receipts stopped.failed)
  kept_at_last users old stopped known receipts point told stay is longer more served =
      subst (λ (k : Known E). HasKeptAndTold row users old point told (at_kept (at_desk users k) stopped.tells_of receipts stopped.failed)) (sym is) (record {
        number = served.number;
        begins = prefix_trans old.desk.known.front stopped.desk.known.front known.front served.begins longer;
        receipts = prefix_trans old.receipts stopped.receipts receipts served.receipts more;
        failed = served.failed;
        last = served.last;
        within = omega (arith, served.within, prefix_length stopped.desk.known.front known.front longer);
        told = stay users old stopped point told known.front receipts served longer more;
      })

module _ {S C Q P E K : Type 0} (rules : Rules S C Q P E K) (row : RowOf E) where
  -- what was told by a session that had been freshened, it told from what it knew before
  from_start : (users : Users) (old start new : AtKept E) (point : ℕ) (told : List Sending) → Still rules old.desk.known start.desk.known
      → start.receipts ≡ old.receipts → start.failed ≡ old.failed → HasKeptAndTold row users start point told new → HasKeptAndTold row users old point told new
  from_start users old start new point told s same unfailed h = record {
    number = h.number ∙ s.number;
    begins = prefix_trans old.desk.known.front start.desk.known.front new.desk.known.front s.begins h.begins;
    receipts = subst (λ (l : List Receipt). IsPrefix l new.receipts) same h.receipts;
    failed = λ was. h.failed (unfailed ∙ was);
    last = h.last;
    within = h.within;
    told =
        subst (λ (l : List Receipt). AreKeptAndTold row users old.desk.known.number new.desk.known.front new.receipts (place_at old.desk.known point)
        (length l) told (place_at new.desk.known h.last)) same
        (subst (λ (n : ℕ). AreKeptAndTold row users n new.desk.known.front new.receipts (place_at old.desk.known point) (length start.receipts)
        told (place_at new.desk.known h.last)) s.number
        (subst (λ (p : Place). AreKeptAndTold row users start.desk.known.number new.desk.known.front new.receipts p (length start.receipts)
        told (place_at new.desk.known h.last)) (sym (same_place rules old.desk.known start.desk.known point s)) h.told));
  }

  -- what a session that a link began with still has
  still_at : (old start : Known E) (found : Option ℕ) (before after : Told) (exchanges : List Exchange) (end : LinkEnd)
      → HasStarted rules old start found ⊎ LacksStart old start found before after exchanges end → Still rules old start
  still_at old start found before after exchanges end (inl begun) = still rules old start (inr begun.fresh)
  still_at old start found before after exchanges end (inr lacks) = still rules old start (inl lacks.stays)

  -- a whole link, from any point of the front that the session had before
  link_kept : (old new : AtKept E) (v : Visit) (s : KeepsLink rules row old new v.came v.went v.end) (point : ℕ) → point ≤ length old.desk.known.front
      → HasKeptAndTold row old.desk.users old point (sendings v.end s.serves.exchanges) new
  link_kept old new v s point le =
      let begun : Still rules old.desk.known s.serves.start = still_at old.desk.known s.serves.start s.serves.found v.came v.went s.serves.exchanges v.end s.serves.started in
      from_start old.desk.users old s.start new point (sendings v.end s.serves.exchanges)
      (subst (λ (k : Known E). Still rules old.desk.known k) (sym s.known) begun) s.receipts s.failed
      (s.kept point (omega (arith, le, prefix_length old.desk.known.front s.serves.start.front begun.begins)))

  join_more : (old mid new : AtKept E) (v : Visit) (visits : List Visit) (point : ℕ) → KeptChain row
      → (s : KeepsLink rules row old mid v.came v.went v.end) → (first : HasKeptAndTold row old.desk.users old point (sendings v.end s.serves.exchanges) mid)
      → KeptJoins rules row mid new visits first.last → KeptJoins rules row old new (v ∷ visits) point
  join_more old mid new v visits point chain s first rest = record {
    users = rest.users ∙ s.serves.users;
    exchanges = s.serves.exchanges ∷ rest.exchanges;
    each = (record { found = s.serves.found; link = s.serves.link }, rest.each);
    joined = chain old.desk.users old mid new point (sendings v.end s.serves.exchanges) (all_sendings visits rest.exchanges) first
        (subst (λ (u : Users). HasKeptAndTold row u mid first.last (all_sendings visits rest.exchanges) new) s.serves.users rest.joined);
  }

  pub kept_joined : KeptChain row → (old new : AtKept E) (visits : List Visit) (point : ℕ) → point ≤ length old.desk.known.front
      → ServesEach (KeepsLink rules row) old visits new → KeptJoins rules row old new visits point
  kept_joined chain old new [] point le same =
      subst (λ (n : AtKept E). KeptJoins rules row old n [] point) (sym same)
      (record { users = refl; exchanges = []; each = tt; joined = none_told row old.desk.users old point le })
  kept_joined chain old new (v ∷ visits) point le h =
      let first = link_kept old h.0 v h.1 point le in
      join_more old h.0 new v visits point chain h.1 first (kept_joined chain h.0 new visits first.last first.within h.2)

  -- ---- replies that were withheld

  -- a cause that follows from what the desk noted
  cause_of : (cause : Type 0) (it : AtKept E) (end : LinkEnd) → (it.failed ≡ true → cause) → HasWithheld end it → HasCause cause end
  cause_of cause it ends.Ended so h = tt
  cause_of cause it ends.Closed so h = tt
  cause_of cause it ends.Budget so h = tt
  cause_of cause it (ends.Refused why) so h = tt
  cause_of cause it ends.ReadFault so h = tt
  cause_of cause it ends.WriteFault so h = tt
  cause_of cause it (ends.Unkept withheld.Failed) so h = so h
  cause_of cause it (ends.Unkept withheld.Memory) so h = tt
  cause_of cause it (ends.Unkept withheld.Full) so h = tt
  cause_of cause it (ends.Unkept withheld.Mismatched) so h = tt
  cause_of cause it ends.Memory so h = tt

  -- that keeping failed is noted for good
  stays_failed : (old new : AtKept E) (visits : List Visit) → ServesEach (KeepsLink rules row) old visits new → old.failed ≡ true → new.failed ≡ true
  stays_failed old new [] same was = ap (λ (k : AtKept E). k.failed) same ∙ was
  stays_failed old new (v ∷ visits) h was =
      stays_failed h.0 new visits h.2 ((h.1.kept 0 (omega arith)).failed (h.1.failed ∙ was))

  -- where a link ended with a reply withheld because keeping failed, the desk notes it to the end
  pub causes : (cause : Type 0) (old new : AtKept E) (visits : List Visit) → ServesEach (KeepsLink rules row) old visits new → (new.failed ≡ true → cause)
      → AllByRecursion (λ visit. HasCause cause visit.end) visits
  causes cause old new [] h so = tt
  causes cause old new (v ∷ visits) h so =
      (cause_of cause h.0 v.end (λ was. so (stays_failed h.0 new visits h.2 was)) h.1.withheld, causes cause h.0 new visits h.2 so)
