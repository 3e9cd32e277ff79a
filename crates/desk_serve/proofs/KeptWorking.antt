-- What workers did whose sessions keep before they tell, as the clause on all of them says it.
use Rattle.std.proofs.Common.{◌≡◌, ℕ, zero, suc, ◌+◌, ◌-◌, ◌<◌, ◌≤◌, ◌||◌, Bool, true, List, [], ◌∷◌, ◌++◌, length, map, refl, sym, ap, ◌∙◌, subst, arith}
use Rattle.std.specs.List.{AllByRecursion, AllZip, list_any, range_with_len}
use Rattle.std.proofs.Math.Decide.{dec_le}
use mathlib.Core.Logic.{dite}
use mathlib.Core.List.{IsPrefix}
use Rattle.osm_outside.specs.Port.{PortTold}
use Rattle.osm_outside.specs.Told.{Told}
use Rattle.http_link.specs.declared.end.LinkEnd.{LinkEnd}
use Rattle.link_workers.specs.declared.worker.Worker.{Worker}
use Rattle.link_workers.specs.Port.{Visit, ServesEach, ServesPort}
use Rattle.link_workers.specs.Seats.{seated, sessions_of, ports_of}
use Rattle.link_workers.specs.Workers.{Works}
use Rattle.machine_law.specs.Rules.{Rules}
use Rattle.user_table.specs.Users.{Users}
use Rattle.hub_core.specs.Journal.{calls_of}
use Rattle.snapshot_hub.specs.Known.{Known, returner, seeing}
use Rattle.snapshot_hub.specs.Closed.{HasAllOf, HasClosed}
use Rattle.snapshot_hub.specs.Closings.{AreSeated}
use Rattle.durable_log.specs.Receipts.{AreKept}
use Rattle.durable_log.specs.Receipts.{Receipt}
use Rattle.session_desk.specs.Answered.{RowOf}
use Rattle.kept_desk.specs.Kept.{AtKept}
use Rattle.desk_serve.specs.Kept.{KeepsLink}
use Rattle.desk_serve.specs.KeptPorts.{KeptShift, kept_returner, all_sendings, HasKeptPort, HasWorkedKept, ServesKept, KeptJoins, HaveKept}
use Rattle.desk_serve.specs.Link.{IsListOf}
use Rattle.desk_serve.proofs.Closing.{list_of, more_calls}
use Rattle.desk_serve.proofs.KeptJoined.{KeptChain, KeptStay, kept_at_last, kept_joined, causes}
use Rattle.desk_serve.proofs.Sound.{PointsConsistent}
use Rattle.desk_serve.proofs.Working.{cons_same, nil_other}

-- ---- sessions as contracts see them

module _ {D A : Type 0} (serves : D → D → Told → Told → LinkEnd → Type 0) (keeps : A → A → Told → Told → LinkEnd → Type 0) (view : D → A) where
  -- what serving a link comes to is seen of it
  abbrev pub AreSeen : Type 0
  AreSeen = (old new : D) (before after : Told) (end : LinkEnd) → serves old new before after end → keeps (view old) (view new) before after end

  each_seen : AreSeen → (old new : D) (visits : List Visit) → ServesEach serves old visits new → ServesEach keeps (view old) visits (view new)
  each_seen seen old new [] same = ap view same
  each_seen seen old new (v ∷ visits) h = (view h.0, seen old h.0 v.came v.went v.end h.1, each_seen seen h.0 new visits h.2)

  port_seen : AreSeen → (old new : D) (before after : PortTold) (failed : Bool) → ServesPort serves old new before after failed
      → ServesPort keeps (view old) (view new) before after failed
  port_seen seen old new before after failed h = record {
    links = record {
      visits = h.links.visits;
      served = each_seen seen old new h.links.visits h.links.served;
      handed = h.links.handed;
      back = h.links.back;
      out = h.links.out;
      coming = h.links.coming;
      faults = h.links.faults;
    };
    failed_only = h.failed_only;
    none_comes = h.none_comes;
  }

module _ {S C Q P E K : Type 0} (rules : Rules S C Q P E K) (row : RowOf E) where
  -- ---- workers made of desks and ports, and taken apart again

  module _ {D Port : Type 0} (serves : D → D → Told → Told → LinkEnd → Type 0) (view : D → AtKept E) (seen : AreSeen serves (KeepsLink rules row) view)
      (users : Users) (J : List E) (had : List Receipt) (told : Port → PortTold) where
    more_shifts : (number : ℕ) (numbers : List ℕ) (desk : D) (port : Port) (ports : List Port) (w : Worker D Port) (new : List (Worker D Port))
        → view desk ≡ kept_returner rules users number J had → ServesPort serves desk w.session (told port) (told w.port) w.failed
        → HaveKept rules row users J had numbers (map view (sessions_of new)) (map told ports) (map told (ports_of new)) (list_any (λ w. w.failed) new)
        → HaveKept rules row users J had (number ∷ numbers) (map view (sessions_of (w ∷ new))) (map told (port ∷ ports)) (map told (ports_of (w ∷ new)))
        (list_any (λ w. w.failed) (w ∷ new))
    more_shifts number numbers desk port ports w new is h rest = record {
      shifts = record { number = number; stopped = view w.session; before = told port; after = told w.port; failed = w.failed } ∷ rest.shifts;
      served = (
        subst (λ (a : AtKept E). ServesPort (KeepsLink rules row) a (view w.session) (told port) (told w.port) w.failed) is
            (port_seen serves (KeepsLink rules row) view seen desk w.session (told port) (told w.port) w.failed h),
        rest.served,
      );
      numbers_are = ap (λ (l : List ℕ). number ∷ l) rest.numbers_are;
      stopped_are = ap (λ (l : List (AtKept E)). view w.session ∷ l) rest.stopped_are;
      handed = ap (λ (l : List PortTold). told port ∷ l) rest.handed;
      back = ap (λ (l : List PortTold). told w.port ∷ l) rest.back;
      some_failed = ap (λ (b : Bool). w.failed || b) rest.some_failed;
    }

    shifts_of_workers : (numbers : List ℕ) (desks : List D) (ports : List Port) (new : List (Worker D Port))
        → map view desks ≡ map (λ n. kept_returner rules users n J had) numbers → length numbers ≡ length ports
        → AllZip (Works serves told) (seated desks ports) new
        → HaveKept rules row users J had numbers (map view (sessions_of new)) (map told ports) (map told (ports_of new)) (list_any (λ w. w.failed) new)
    shifts_of_workers [] [] [] [] are count h =
        record { shifts = []; served = tt; numbers_are = refl; stopped_are = refl; handed = refl; back = refl; some_failed = refl }
    shifts_of_workers [] [] [] (w ∷ new) are count h = absurd h
    shifts_of_workers [] [] (p ∷ ports) new are count h = absurd (cc count)
    shifts_of_workers [] (d ∷ desks) ports new are count h = absurd (nil_other (view d) (map view desks) are)
    shifts_of_workers (n ∷ numbers) [] ports new are count h =
        absurd (nil_other (kept_returner rules users n J had) (map (λ n. kept_returner rules users n J had) numbers) (sym are))
    shifts_of_workers (n ∷ numbers) (d ∷ desks) [] new are count h = absurd (cc count)
    shifts_of_workers (n ∷ numbers) (d ∷ desks) (p ∷ ports) [] are count h = absurd h
    shifts_of_workers (n ∷ numbers) (d ∷ desks) (p ∷ ports) (w ∷ new) are count h =
        let same = cons_same (view d) (kept_returner rules users n J had) (map view desks) (map (λ n. kept_returner rules users n J had) numbers) are in
        more_shifts n numbers d p ports w new same.0 h.0 (shifts_of_workers numbers desks ports new same.1 (omega (arith, count)) h.1)

    -- the same of the desks and ports that came back
    pub have_kept : (numbers : List ℕ) (desks : List D) (ports back : List Port) (new : List (Worker D Port)) (stopped : List (AtKept E)) (failed : Bool)
        → map view desks ≡ map (λ n. kept_returner rules users n J had) numbers → length numbers ≡ length ports
        → AllZip (Works serves told) (seated desks ports) new
        → stopped ≡ map view (sessions_of new) → back ≡ ports_of new → failed ≡ list_any (λ w. w.failed) new
        → HaveKept rules row users J had numbers stopped (map told ports) (map told back) failed
    have_kept numbers desks ports back new stopped failed are count works stopped_is back_is failed_is =
        let all = shifts_of_workers numbers desks ports new are count works in record {
          shifts = all.shifts;
          served = all.served;
          numbers_are = all.numbers_are;
          stopped_are = all.stopped_are ∙ sym stopped_is;
          handed = all.handed;
          back = all.back ∙ sym (ap (λ (l : List Port). map told l) back_is);
          some_failed = failed_is ∙ all.some_failed;
        }

  -- ---- sessions that served ports, of a hub that was closed then

  -- what the sessions of shifts knew behind their last links
  abbrev stops : List (KeptShift E) → List (Known E)
  stops shifts = map (λ shift. shift.stopped.desk.known) shifts

  module _ (chain : KeptChain row) (stay : KeptStay row) (users : Users) (J one : List E) (first : Receipt) (receipts : List Receipt) (faults : ℕ) where
    has_worked_kept : (shift : KeptShift E) → HasKeptPort rules row users J (first ∷ []) shift → HasAllOf rules one shift.stopped.desk.known
        → IsPrefix shift.stopped.receipts receipts → (shift.stopped.failed ≡ true → 0 < faults)
        → HasWorkedKept rules row users J one first receipts faults shift
    has_worked_kept shift served has in_hand failed =
        let old : AtKept E = kept_returner rules users shift.number J (first ∷ []) in
        let visits = served.links.visits in
        let all : KeptJoins rules row old shift.stopped visits (length J) = kept_joined rules row chain old shift.stopped visits (length J) (omega arith) served.links.served in record {
          links = served;
          in_hand = in_hand;
          within = has.begins;
          calls = has.calls;
          exchanges = all.exchanges;
          each = all.each;
          joined = kept_at_last row users old shift.stopped (seeing shift.stopped.desk.known one) receipts (length J) (all_sendings visits all.exchanges) stay refl has.begins in_hand all.joined;
          withheld = causes rules row (0 < faults) old shift.stopped visits served.links.served failed;
        }

    all_kept : (shifts : List (KeptShift E)) → AllByRecursion (HasKeptPort rules row users J (first ∷ [])) shifts
        → AllByRecursion (HasAllOf rules one) (stops shifts) → AllByRecursion (λ shift. IsPrefix shift.stopped.receipts receipts) shifts
        → AllByRecursion (λ shift. shift.stopped.failed ≡ true → 0 < faults) shifts
        → AllByRecursion (HasWorkedKept rules row users J one first receipts faults) shifts
    all_kept [] served has in_hand failed = tt
    all_kept (s ∷ shifts) served has in_hand failed =
        (has_worked_kept s served.0 has.0 in_hand.0 failed.0, all_kept shifts served.1 has.1 in_hand.1 failed.1)

  stops_are : (shifts : List (KeptShift E)) → map (λ it. it.desk.known) (map (λ shift. shift.stopped) shifts) ≡ stops shifts
  stops_are [] = refl
  stops_are (s ∷ shifts) = ap (λ (l : List (Known E)). s.stopped.desk.known ∷ l) (stops_are shifts)

  all_stopped : (Q : AtKept E → Type 0) (shifts : List (KeptShift E)) → AllByRecursion Q (map (λ shift. shift.stopped) shifts)
      → AllByRecursion (λ shift. Q shift.stopped) shifts
  all_stopped Q [] h = h
  all_stopped Q (s ∷ shifts) h = (h.0, all_stopped Q shifts h.1)

  -- ---- the sessions that served no port

  -- a session of such a number has just the calls that it began with
  spare_calls : (J one : List E) (number : ℕ) → HasAllOf rules one (returner number J (calls_of rules.tag_of number J))
      → calls_of rules.tag_of number one ≡ calls_of rules.tag_of number J
  spare_calls J one number has = sym has.calls

  among : (J one : List E) (start : ℕ) (count number : ℕ) → start ≤ number → number < start + count
      → AllByRecursion (HasAllOf rules one) (map (λ n. returner n J (calls_of rules.tag_of n J)) (range_with_len start count))
      → calls_of rules.tag_of number one ≡ calls_of rules.tag_of number J
  among J one start zero number le lt h = absurd (omega (arith, le, lt))
  among J one start (suc count) number le lt h = dite (dec_le number start)
      (λ below. let same : number ≡ start = omega (arith, le, below) in
      subst (λ (n : ℕ). calls_of rules.tag_of n one ≡ calls_of rules.tag_of n J) (sym same) (spare_calls J one start h.0))
      (λ above. let more : start + 1 ≤ number = omega (arith, above) in among J one (start + 1) count number more (omega (arith, lt)) h.1)

  own_calls : (J one : List E) (used seats : ℕ) → IsPrefix J one → AreSeated rules.tag_of seats one
      → AllByRecursion (HasAllOf rules one) (map (λ n. returner n J (calls_of rules.tag_of n J)) (range_with_len used (seats - used)))
      → (number : ℕ) → used ≤ number → calls_of rules.tag_of number one ≡ calls_of rules.tag_of number J
  own_calls J one used seats begins seated spare number le = dite (dec_le seats number)
      (λ out. let none : calls_of rules.tag_of number one ≡ 0 = seated number out in omega (arith, none, more_calls rules number J one begins))
      (λ inside. among J one used (seats - used) number le (omega (arith, inside, le)) spare)

  -- The clause on all workers: what they did, how their hub was closed, which may have had further sessions, and what was kept of its list.
  pub serves_kept : {D : Type 0} (text : List E → List ℕ) (moment : D → ℕ) (left_since : D → ℕ → List ℕ → Type 0) (faults : D → ℕ)
      → KeptChain row → KeptStay row → PointsConsistent rules
      → (users : Users) (seats : ℕ) (J : List E) (before after : List PortTold) (stopped : List (AtKept E)) (spare : List (Known E)) (failed : Bool)
      (device : D) (first : Receipt) (receipts : List Receipt)
      → HaveKept rules row users J (first ∷ []) (range_with_len 0 (length before)) stopped before after failed
      → spare ≡ map (λ n. returner n J (calls_of rules.tag_of n J)) (range_with_len (length before) (seats - length before))
      → (closed : HasClosed rules seats (map (λ it. it.desk.known) stopped) spare) → IsPrefix J closed.one
      → AreKept text moment left_since device closed.one receipts → AllByRecursion (λ it. IsPrefix it.receipts receipts) stopped
      → AllByRecursion (λ it. it.failed ≡ true → 0 < faults device) stopped
      → IsPrefix (first ∷ []) receipts → first.count ≡ length J
      → ServesKept rules row text moment left_since faults users J before after failed device
  serves_kept {D} text moment left_since faults chain stay consistent users seats J before after stopped spare failed device first receipts served spare_are closed goes_on kept in_hand broke first_is first_for =
      let shifts = served.shifts in
      let one = closed.one in
      let same : map (λ it. it.desk.known) stopped ≡ stops shifts =
      ap (λ (l : List (AtKept E)). map (λ it. it.desk.known) l) (sym served.stopped_are) ∙ stops_are shifts in
      let list : IsListOf rules seats one = list_of rules consistent seats one closed.front in record {
        one = one;
        list = record {
          goes_on = goes_on;
          sound = list.sound;
          numbered = list.numbered;
          own = own_calls J one (length before) seats goes_on list.own (subst (λ (l : List (Known E)). AllByRecursion (HasAllOf rules one) l) spare_are closed.others);
        };
        receipts = receipts;
        kept = kept;
        first = first;
        first_is = first_is;
        first_for = first_for;
        shifts = shifts;
        worked = all_kept chain stay users J one first receipts (faults device) shifts served.served
            (subst (λ (l : List (Known E)). AllByRecursion (HasAllOf rules one) l) same closed.each)
            (all_stopped (λ it. IsPrefix it.receipts receipts) shifts (subst (λ (l : List (AtKept E)). AllByRecursion (λ it. IsPrefix it.receipts receipts) l) (sym served.stopped_are) in_hand))
            (all_stopped (λ it. it.failed ≡ true → 0 < faults device) shifts
            (subst (λ (l : List (AtKept E)). AllByRecursion (λ it. it.failed ≡ true → 0 < faults device) l) (sym served.stopped_are) broke));
        numbers = served.numbers_are;
        handed = served.handed;
        back = served.back;
        some_failed = served.some_failed;
      }
