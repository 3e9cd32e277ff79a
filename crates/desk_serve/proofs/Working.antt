-- What workers did, as the clause on all of them says it.
use Rattle.std.proofs.Common.{◌≡◌, ℕ, zero, suc, ◌+◌, ◌||◌, Bool, List, [], ◌∷◌, ◌++◌, length, map, reverse, refl, sym, ap, ◌∙◌, subst, arith, append_assoc}
use Rattle.std.proofs.lemmas.List.{length-map, map-append, reverse-append}
use Rattle.std.specs.List.{AllByRecursion, AllZip, list_any, range_with_len}
use Rattle.std.specs.Prelude.{IfSome, slice_get}
use Rattle.osm_outside.specs.Port.{PortTold}
use Rattle.osm_outside.specs.Told.{Told}
use Rattle.http_link.specs.declared.end.LinkEnd.{LinkEnd}
use Rattle.link_workers.specs.declared.worker.Worker.{Worker}
use Rattle.link_workers.specs.Port.{Visit, ServesEach, ServesPort}
use Rattle.link_workers.specs.Joined.{all_of}
use Rattle.link_workers.specs.Seats.{seated, sessions_of, ports_of}
use Rattle.link_workers.specs.Workers.{Works}
use Rattle.machine_law.specs.Rules.{Rules}
use Rattle.user_table.specs.Users.{Users}
use Rattle.snapshot_hub.specs.Known.{Known, newcomer, seeing}
use Rattle.snapshot_hub.specs.Closed.{HasAllOf, HasClosed}
use Rattle.session_desk.specs.Answered.{AtDesk, RowOf}
use Rattle.desk_serve.specs.Link.{IsListOf, ServesLink, TellsLink}
use Rattle.desk_serve.specs.Desks.{at_desk}
use Rattle.desk_serve.specs.Ports.{Shift, HasServedPort, HasWorked, ServesAll, HaveServed}
use Rattle.desk_serve.proofs.Joined.{LinksChain, ServedStay, Joins, joined, seen_at_last, desk_is}
use Rattle.desk_serve.proofs.Closing.{list_of}
use Rattle.desk_serve.proofs.Sound.{PointsConsistent}

pub cons_same : {A : Type 0} (x y : A) (xs ys : List A) → x ∷ xs ≡ y ∷ ys → (x ≡ y) × (xs ≡ ys)
cons_same x y xs ys same =
    let first : x ≡ y = cc in
    let rest : xs ≡ ys = cc in (first, rest)

pub nil_other : {A : Type 0} (x : A) (xs : List A) → x ∷ xs ≡ [] → ⊥
nil_other x xs same = cc

-- ---- lists that were empty, and then took what workers had

pub sessions_back : {S P : Type 0} (back before : List S) (workers new : List (Worker S P)) → back ≡ before ++ sessions_of workers → before ≡ [] → workers ≡ new → back ≡ sessions_of new
sessions_back back before workers new taken empty same = taken ∙ (ap (λ l. l ++ sessions_of workers) empty ∙ ap (λ l. sessions_of l) same)

pub ports_back : {S P : Type 0} (back before : List P) (workers new : List (Worker S P)) → back ≡ before ++ ports_of workers → before ≡ [] → workers ≡ new → back ≡ ports_of new
ports_back back before workers new taken empty same = taken ∙ (ap (λ l. l ++ ports_of workers) empty ∙ ap (λ l. ports_of l) same)

-- ---- a list that is worked off from its front, after it was turned round

-- one more was made of the last that is left
pub moved_step : {A B X : Type 0} (f : A → X) (g : B → X) (done new : List A) (made : A) (left popped : List B) (taken : B) (all : List X)
    → new ≡ done ++ made ∷ [] → f made ≡ g taken → left ≡ popped ++ taken ∷ []
    → map f done ++ map g (reverse left) ≡ all → map f new ++ map g (reverse popped) ≡ all
moved_step f g done new made left popped taken all new_is made_is left_is before =
    ap (λ l. map f l ++ map g (reverse popped)) new_is
    ∙ (ap (λ l. l ++ map g (reverse popped)) (map-append f done (made ∷ []))
    ∙ (append_assoc (map f done) (f made ∷ []) (map g (reverse popped))
    ∙ (ap (λ x. map f done ++ (x ∷ map g (reverse popped))) made_is
    ∙ (ap (λ l. map f done ++ map g l) (sym (ap (λ l. reverse l) left_is ∙ reverse-append popped (taken ∷ []))) ∙ before))))

-- what holds of an item holds of what is seen of it
pub seen_at : {A X : Type 0} (f : A → X) (P : X → Type 0) (items : List A) (number : ℕ) → IfSome (slice_get items number) (λ s. P (f s)) → IfSome (slice_get (map f items) number) P
seen_at f P [] zero h = h
seen_at f P [] (suc number) h = h
seen_at f P (x ∷ items) zero h = h
seen_at f P (x ∷ items) (suc number) h = seen_at f P items number h

-- what is seen of an item, and what is made of that
pub seen_through : {A X Y : Type 0} (f : A → X) (g : X → Y) (items : List A) → map (λ s. g (f s)) items ≡ map g (map f items)
seen_through f g [] = refl
seen_through f g (x ∷ items) = ap (λ l. g (f x) ∷ l) (seen_through f g items)

-- ---- the sessions of a new hub

suc_moves : (first k : ℕ) → first + suc k ≡ first + 1 + k
suc_moves first k = omega arith

plain : (n : ℕ) → n ≡ 0 + n
plain n = omega arith

pub newcomers : {E : Type 0} (items : List (Known E)) (first : ℕ) → ((number : ℕ) → IfSome (slice_get items number) (λ s. s ≡ newcomer (first + number)))
    → items ≡ map newcomer (range_with_len first (length items))
newcomers [] first fresh = refl
newcomers (x ∷ items) first fresh =
    let head : x ≡ newcomer first = fresh 0 ∙ ap newcomer (omega arith) in
    let rest = newcomers items (first + 1) (λ k. subst (λ (n : ℕ). IfSome (slice_get items k) (λ s. s ≡ newcomer n)) (suc_moves first k) (fresh (suc k))) in
    λ i. head i ∷ rest i

module _ {D E : Type 0} (view : D → AtDesk E) where
  pub known_back : (left before : List (Known E)) (desks back : List D) → left ≡ before ++ map (λ d. (view d).known) desks → before ≡ [] → desks ≡ back → left ≡ map (λ d. (view d).known) back
  known_back left before desks back taken empty same = taken ∙ (ap (λ l. l ++ map (λ (d : D). (view d).known) desks) empty ∙ ap (λ l. map (λ (d : D). (view d).known) l) same)

module _ {S C Q P E K : Type 0} (rules : Rules S C Q P E K) (row : RowOf E) where
  -- ---- workers made of desks and ports, and taken apart again

  -- serving links by a desk comes to serving them by what contracts see of it
  abbrev pub ServesSeen : {D : Type 0} → (D → D → Told → Told → LinkEnd → Type 0) → (D → AtDesk E) → Type 0
  ServesSeen {D} serves view = (old new : D) (before after : Told) (end : LinkEnd) → serves old new before after end → TellsLink rules row (view old) (view new) before after end

  each_seen : {D : Type 0} (serves : D → D → Told → Told → LinkEnd → Type 0) (view : D → AtDesk E) → ServesSeen serves view
      → (old new : D) (visits : List Visit) → ServesEach serves old visits new → ServesEach (TellsLink rules row) (view old) visits (view new)
  each_seen serves view seen old new [] same = ap view same
  each_seen serves view seen old new (v ∷ visits) h = (view h.0, seen old h.0 v.came v.went v.end h.1, each_seen serves view seen h.0 new visits h.2)

  port_seen : {D : Type 0} (serves : D → D → Told → Told → LinkEnd → Type 0) (view : D → AtDesk E) → ServesSeen serves view
      → (old new : D) (before after : PortTold) (failed : Bool) → ServesPort serves old new before after failed
      → ServesPort (TellsLink rules row) (view old) (view new) before after failed
  port_seen serves view seen old new before after failed h = record {
    links = record {
      visits = h.links.visits;
      served = each_seen serves view seen old new h.links.visits h.links.served;
      handed = h.links.handed;
      back = h.links.back;
      out = h.links.out;
      coming = h.links.coming;
      faults = h.links.faults;
    };
    failed_only = h.failed_only;
    none_comes = h.none_comes;
  }

  -- the users of a desk stay over all links
  users_stay : (old new : AtDesk E) (visits : List Visit) → ServesEach (TellsLink rules row) old visits new → new.users ≡ old.users
  users_stay old new [] same = ap (λ (d : AtDesk E). d.users) same
  users_stay old new (v ∷ visits) h = users_stay h.0 new visits h.2 ∙ h.1.serves.users

  -- links that were served so were served
  each_serves : (old new : AtDesk E) (visits : List Visit) → ServesEach (TellsLink rules row) old visits new → ServesEach (ServesLink rules row) old visits new
  each_serves old new [] same = same
  each_serves old new (v ∷ visits) h = (h.0, h.1.serves, each_serves h.0 new visits h.2)

  -- what workers with these desks and ports come to
  pub record Shifts {D Port : Type 0} (view : D → AtDesk E) (users : Users) (told : Port → PortTold) (numbers : List ℕ) (ports : List Port) (new : List (Worker D Port)) : Type 0 where
    pub shifts : List (Shift E)
    pub served : AllByRecursion (HasServedPort rules row users) shifts
    pub numbers_are : map (λ shift. shift.number) shifts ≡ numbers
    pub stopped_are : map (λ shift. shift.stopped) shifts ≡ map (λ desk. (view desk).known) (sessions_of new)
    pub handed : map (λ shift. shift.before) shifts ≡ map told ports
    pub back : map (λ shift. shift.after) shifts ≡ map told (ports_of new)
    pub some : list_any (λ w. w.failed) new ≡ list_any (λ shift. shift.failed) shifts

  one_shift : {D Port : Type 0} (serves : D → D → Told → Told → LinkEnd → Type 0) (view : D → AtDesk E) → ServesSeen serves view
      → (users : Users) (told : Port → PortTold) (number : ℕ) (desk : D) (port : Port) (w : Worker D Port)
      → view desk ≡ at_desk users (newcomer number)
      → ServesPort serves desk w.session (told port) (told w.port) w.failed
      → HasServedPort rules row users (record { number = number; stopped = (view w.session).known; before = told port; after = told w.port; failed = w.failed })
  one_shift serves view seen users told number desk port w is h =
      let begun : ServesPort (TellsLink rules row) (at_desk users (newcomer number)) (view w.session) (told port) (told w.port) w.failed =
      subst (λ (d : AtDesk E). ServesPort (TellsLink rules row) d (view w.session) (told port) (told w.port) w.failed) is (port_seen serves view seen desk w.session (told port) (told w.port) w.failed h) in
      let same : (view w.session).users ≡ users = users_stay (at_desk users (newcomer number)) (view w.session) begun.links.visits begun.links.served in
      subst (λ (d : AtDesk E). ServesPort (TellsLink rules row) (at_desk users (newcomer number)) d (told port) (told w.port) w.failed) (desk_is users (view w.session) same) begun

  more_shifts : {D Port : Type 0} (serves : D → D → Told → Told → LinkEnd → Type 0) (view : D → AtDesk E) → ServesSeen serves view
      → (users : Users) (told : Port → PortTold) (number : ℕ) (numbers : List ℕ) (desk : D) (port : Port) (ports : List Port) (w : Worker D Port) (new : List (Worker D Port))
      → view desk ≡ at_desk users (newcomer number)
      → ServesPort serves desk w.session (told port) (told w.port) w.failed
      → Shifts view users told numbers ports new → Shifts view users told (number ∷ numbers) (port ∷ ports) (w ∷ new)
  more_shifts serves view seen users told number numbers desk port ports w new is h rest = record {
    shifts = record { number = number; stopped = (view w.session).known; before = told port; after = told w.port; failed = w.failed } ∷ rest.shifts;
    served = (one_shift serves view seen users told number desk port w is h, rest.served);
    numbers_are = ap (λ (l : List ℕ). number ∷ l) rest.numbers_are;
    stopped_are = ap (λ (l : List (Known E)). (view w.session).known ∷ l) rest.stopped_are;
    handed = ap (λ (l : List PortTold). told port ∷ l) rest.handed;
    back = ap (λ (l : List PortTold). told w.port ∷ l) rest.back;
    some = ap (λ (b : Bool). w.failed || b) rest.some;
  }

  shifts_of_workers : {D Port : Type 0} (serves : D → D → Told → Told → LinkEnd → Type 0) (view : D → AtDesk E) → ServesSeen serves view
      → (users : Users) (told : Port → PortTold) (numbers : List ℕ) (desks : List D) (ports : List Port) (new : List (Worker D Port))
      → map view desks ≡ map (at_desk users) (map newcomer numbers) → length numbers ≡ length ports
      → AllZip (Works serves told) (seated desks ports) new → Shifts view users told numbers ports new
  shifts_of_workers serves view seen users told [] [] [] [] are count h = record { shifts = []; served = tt; numbers_are = refl; stopped_are = refl; handed = refl; back = refl; some = refl }
  shifts_of_workers serves view seen users told [] [] [] (w ∷ new) are count h = absurd h
  shifts_of_workers serves view seen users told [] [] (p ∷ ports) new are count h = absurd (cc count)
  shifts_of_workers serves view seen users told [] (d ∷ desks) ports new are count h = absurd (nil_other (view d) (map view desks) are)
  shifts_of_workers serves view seen users told (n ∷ numbers) [] ports new are count h = absurd (nil_other (at_desk users (newcomer n)) (map (at_desk users) (map newcomer numbers)) (sym are))
  shifts_of_workers serves view seen users told (n ∷ numbers) (d ∷ desks) [] new are count h = absurd (cc count)
  shifts_of_workers serves view seen users told (n ∷ numbers) (d ∷ desks) (p ∷ ports) [] are count h = absurd h
  shifts_of_workers serves view seen users told (n ∷ numbers) (d ∷ desks) (p ∷ ports) (w ∷ new) are count h =
      let same = cons_same (view d) (at_desk users (newcomer n)) (map view desks) (map (at_desk users) (map newcomer numbers)) are in
      more_shifts serves view seen users told n numbers d p ports w new same.0 h.0 (shifts_of_workers serves view seen users told numbers desks ports new same.1 (omega (arith, count)) h.1)

  -- what `serve_by` says, of the desks and ports that came back
  pub have_served : {D Port : Type 0} (serves : D → D → Told → Told → LinkEnd → Type 0) (view : D → AtDesk E) → ServesSeen serves view
      → (users : Users) (told : Port → PortTold) (numbers : List ℕ) (starts : List (Known E)) (desks : List D) (ports back : List Port) (new : List (Worker D Port))
      (left : List (Known E)) (failed : Bool)
      → starts ≡ map newcomer numbers → map view desks ≡ map (at_desk users) starts → length starts ≡ length ports
      → AllZip (Works serves told) (seated desks ports) new
      → left ≡ map (λ desk. (view desk).known) (sessions_of new) → back ≡ ports_of new → failed ≡ list_any (λ w. w.failed) new
      → HaveServed rules row users numbers left (map told ports) (map told back) failed
  have_served {D} {Port} serves view seen users told numbers starts desks ports back new left failed fresh desks_are count works left_is back_is failed_is =
      let same : map view desks ≡ map (at_desk users) (map newcomer numbers) = desks_are ∙ ap (λ (l : List (Known E)). map (at_desk users) l) fresh in
      let number_count : length numbers ≡ length ports = sym (length-map numbers newcomer) ∙ (sym (ap (λ (l : List (Known E)). length l) fresh) ∙ count) in
      let all = shifts_of_workers serves view seen users told numbers desks ports new same number_count works in record {
        shifts = all.shifts;
        served = all.served;
        numbers_are = all.numbers_are;
        stopped_are = all.stopped_are ∙ sym left_is;
        handed = all.handed;
        back = all.back ∙ sym (ap (λ (l : List Port). map told l) back_is);
        some_failed = failed_is ∙ all.some;
      }

  -- ---- sessions that served ports, of a hub that was closed then

  has_worked : (users : Users) (one : List E) (shift : Shift E) → LinksChain row → ServedStay row → HasServedPort rules row users shift
      → HasAllOf rules one shift.stopped → HasWorked rules row users one shift
  has_worked users one shift chain stay served has =
      let old : AtDesk E = at_desk users (newcomer shift.number) in
      let new : AtDesk E = at_desk users shift.stopped in
      let visits = served.links.visits in
      let all : Joins rules row old new visits 0 = joined rules row old new visits 0 chain (omega arith) (each_serves old new visits served.links.served) in record {
        links = served;
        within = has.begins;
        calls = has.calls;
        exchanges = all.exchanges;
        each = all.each;
        joined = seen_at_last row users (newcomer shift.number) shift.stopped (seeing shift.stopped one) 0 (all_of all.exchanges) stay refl has.begins all.served;
      }

  all_worked : (users : Users) (one : List E) (shifts : List (Shift E)) → LinksChain row → ServedStay row
      → AllByRecursion (HasServedPort rules row users) shifts → AllByRecursion (HasAllOf rules one) (map (λ shift. shift.stopped) shifts)
      → AllByRecursion (HasWorked rules row users one) shifts
  all_worked users one [] chain stay served has = tt
  all_worked users one (s ∷ shifts) chain stay served has =
      (has_worked users one s chain stay served.0 has.0, all_worked users one shifts chain stay served.1 has.1)

  -- the clause on all workers
  pub serves_all : (users : Users) (count : ℕ) (before after : List PortTold) (stopped : List (Known E)) (failed : Bool)
      → LinksChain row → ServedStay row → PointsConsistent rules → length before ≡ count
      → HaveServed rules row users (range_with_len 0 count) stopped before after failed → HasClosed rules count stopped [] → ServesAll rules row users before after failed
  serves_all users count before after stopped failed chain stay consistent counted served closed = record {
    one = closed.one;
    list = subst (λ (n : ℕ). IsListOf rules n closed.one) (sym counted) (list_of rules consistent count closed.one closed.front);
    shifts = served.shifts;
    worked = all_worked users closed.one served.shifts chain stay served.served
        (subst (λ (l : List (Known E)). AllByRecursion (HasAllOf rules closed.one) l) (sym served.stopped_are) closed.each);
    numbers = served.numbers_are ∙ ap (range_with_len 0) (sym counted);
    handed = served.handed;
    back = served.back;
    some_failed = served.some_failed;
  }

  -- what `serve_ports` says, where the workers' sessions came back
  pub ports_served : (users : Users) (count : ℕ) (before after : List PortTold) (items stopped : List (Known E)) (failed is : Bool)
      → LinksChain row → ServedStay row → PointsConsistent rules → length before ≡ count → length items ≡ count
      → ((number : ℕ) → IfSome (slice_get items number) (λ s. s ≡ newcomer number))
      → ((numbers : List ℕ) → items ≡ map newcomer numbers → HaveServed rules row users numbers stopped before after failed)
      → failed ≡ is → HasClosed rules count stopped [] → ServesAll rules row users before after is
  ports_served users count before after items stopped failed is chain stay consistent counted seated fresh served told closed =
      let from : (number : ℕ) → IfSome (slice_get items number) (λ s. s ≡ newcomer (0 + number)) =
      λ number. subst (λ (n : ℕ). IfSome (slice_get items number) (λ s. s ≡ newcomer n)) (plain number) (fresh number) in
      let all : items ≡ map newcomer (range_with_len 0 count) = newcomers items 0 from ∙ ap (λ (n : ℕ). map newcomer (range_with_len 0 n)) seated in
      serves_all users count before after stopped is chain stay consistent counted
      (subst (λ (b : Bool). HaveServed rules row users (range_with_len 0 count) stopped before after b) told (served (range_with_len 0 count) all)) closed
