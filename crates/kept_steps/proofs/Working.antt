-- What workers did whose desks keep before they tell, as the clause on all of them says it.
use Rattle.std.proofs.Common.{◌≡◌, ◌<◌, ◌+◌, ℕ, ◌||◌, Bool, true, false, List, [], ◌∷◌, length, map, replicate, refl, sym, ap, ◌∙◌, subst}
use Rattle.std.specs.List.{AllByRecursion, list_any, sum_by}
use Rattle.std.proofs.lemmas.Bool.{both_ways}
use Rattle.std.proofs.lemmas.List.Sums.{sum_by-cons}
use mathlib.Core.List.{IsPrefix}
use Rattle.osm_outside.specs.Port.{PortTold}
use Rattle.osm_base.specs.declared.limits.TheConstants.{PIECE_LIMIT}
use Rattle.http_wire.specs.declared.message.Message.{Message}
use Rattle.http_link.specs.declared.desk.Reply.{Reply}
use Rattle.http_link.specs.Link.{ServesTold}
use Rattle.link_workers.specs.declared.worker.Worker.{Worker}
use Rattle.link_workers.specs.declared.outcome.Outcome.{Outcome}
use Rattle.link_workers.specs.declared.outcome.Outcome.TheVariants.{Served, Failed, Unkept, LacksMemory}
use Rattle.link_workers.specs.Port.{ServesPort}
use Rattle.link_workers.specs.Seats.{seated, sessions_of, ports_of}
use Rattle.link_workers.specs.Workers.{AllWork}
use Rattle.durable_log.specs.Receipts.{AreKept}
use Rattle.durable_log.specs.Receipts.{Receipt}
use Rattle.kept_serve.specs.Ports.{EndsSo}
use Rattle.desk_serve.specs.KeptPorts.{all_sendings}
use Rattle.kept_steps.specs.Kept.{AtKeptFront, at_kept_front, Tells, shows_kept, Withholds, AllowsKept}
use Rattle.kept_steps.specs.KeptPorts.{KeptWork, HasKeptPort, HasWorkedKept, ServesKept, HaveKept, AreMatched, ServesKeptPorts}
use Rattle.kept_steps.proofs.Told.{Joins, joined, are_told, causes}

-- what holds of each image
all_through : {X Y : Type 0} (f : X → Y) (P : Y → Type 0) (xs : List X) → AllByRecursion P (map f xs) → AllByRecursion (λ x. P (f x)) xs
all_through f P [] h = h
all_through f P (x ∷ xs) h = (h.0, all_through f P xs h.1)

-- the sum over images
summed_through : {X Y : Type 0} (f : X → Y) (n : Y → ℕ) (xs : List X) → sum_by n (map f xs) ≡ sum_by (λ x. n (f x)) xs
summed_through f n [] = refl
summed_through f n (x ∷ xs) =
    sum_by-cons n (f x) (map f xs) ∙ (ap (λ (k : ℕ). n (f x) + k) (summed_through f n xs) ∙ sym (sum_by-cons (λ y. n (f y)) x xs))

-- of those of which one at most has a mark, each has it only for a cause
all_caused : {X : Type 0} (mark : X → Bool) (cause : Type 0) (marked : Bool) (xs : List X) → (marked ≡ true → cause)
    → (marked ≡ false → AllByRecursion (λ x. mark x ≡ false) xs) → AllByRecursion (λ x. mark x ≡ true → cause) xs
all_caused {X} mark cause true xs so none = of_cause (so refl) xs
  where
    of_cause : cause → (items : List X) → AllByRecursion (λ x. mark x ≡ true → cause) items
    of_cause holds [] = tt
    of_cause holds (x ∷ items) = (λ was. holds, of_cause holds items)
all_caused {X} mark cause false xs so none = of_none xs (none refl)
  where
    of_none : (items : List X) → AllByRecursion (λ x. mark x ≡ false) items → AllByRecursion (λ x. mark x ≡ true → cause) items
    of_none [] h = tt
    of_none (x ∷ items) h = (λ was. absurd (both_ways (mark x) h.0 was), of_none items h.1)

module _ {C E : Type 0} (steps : C → List E → Message → ℕ → Reply → List E → Type 0) (setting : C) (J : List E) where
  -- ---- workers made of desks and ports, and taken apart again

  module _ {P : Type 0} (told : P → PortTold) (had : List Receipt) where
    abbrev begun : AtKeptFront C E
    begun = at_kept_front setting J had

    -- what a worker did with a port
    abbrev work_of : (port : P) (w : Worker (AtKeptFront C E) P) → KeptWork C E
    work_of port w = record { stopped = w.session; before = told port; after = told w.port; failed = w.failed }

    more_kept : (port : P) (ports : List P) (w : Worker (AtKeptFront C E) P) (new : List (Worker (AtKeptFront C E) P))
        → ServesPort (ServesTold PIECE_LIMIT (AllowsKept steps) Tells shows_kept Withholds) begun w.session (told port) (told w.port) w.failed
        → HaveKept steps setting J had (sessions_of new) (map told ports) (map told (ports_of new)) (list_any (λ w. w.failed) new)
        → HaveKept steps setting J had (sessions_of (w ∷ new)) (map told (port ∷ ports)) (map told (ports_of (w ∷ new))) (list_any (λ w. w.failed) (w ∷ new))
    more_kept port ports w new h rest = record {
      works = work_of port w ∷ rest.works;
      served = (h, rest.served);
      stopped_are = ap (λ (l : List (AtKeptFront C E)). w.session ∷ l) rest.stopped_are;
      handed = ap (λ (l : List PortTold). told port ∷ l) rest.handed;
      back = ap (λ (l : List PortTold). told w.port ∷ l) rest.back;
      some_failed = ap (λ (b : Bool). w.failed || b) rest.some_failed;
    }

    all_kept : (ports : List P) (new : List (Worker (AtKeptFront C E) P))
        → AllWork (ServesTold PIECE_LIMIT (AllowsKept steps) Tells shows_kept Withholds) told (seated (replicate (length ports) begun) ports) new
        → HaveKept steps setting J had (sessions_of new) (map told ports) (map told (ports_of new)) (list_any (λ w. w.failed) new)
    all_kept [] [] h = record { works = []; served = tt; stopped_are = refl; handed = refl; back = refl; some_failed = refl }
    all_kept [] (w ∷ new) h = absurd h
    all_kept (p ∷ ports) [] h = absurd h
    all_kept (p ∷ ports) (w ∷ new) h = more_kept p ports w new h.0 (all_kept ports new h.1)

    pub have_kept : (ports back : List P) (desks stopped : List (AtKeptFront C E)) (new : List (Worker (AtKeptFront C E) P)) (count : ℕ) (failed : Bool)
        → desks ≡ replicate count begun → length ports ≡ count
        → AllWork (ServesTold PIECE_LIMIT (AllowsKept steps) Tells shows_kept Withholds) told (seated desks ports) new
        → stopped ≡ sessions_of new → back ≡ ports_of new → failed ≡ list_any (λ w. w.failed) new
        → HaveKept steps setting J had stopped (map told ports) (map told back) failed
    have_kept ports back desks stopped new count failed fresh counted works stopped_is back_is failed_is =
        let same : desks ≡ replicate (length ports) begun = fresh ∙ ap (λ (n : ℕ). replicate n begun) (sym counted) in
        let all = all_kept ports new (subst (λ (ds : List (AtKeptFront C E)). AllWork (ServesTold PIECE_LIMIT (AllowsKept steps) Tells shows_kept Withholds) told (seated ds ports) new) same works) in record {
          works = all.works;
          served = all.served;
          stopped_are = all.stopped_are ∙ sym stopped_is;
          handed = all.handed;
          back = all.back ∙ ap (λ (l : List P). map told l) (sym back_is);
          some_failed = failed_is ∙ all.some_failed;
        }

  -- ---- what they did as steps of one list

  has_worked : (list : List E) (first : Receipt) (receipts : List Receipt) (faults : ℕ) (work : KeptWork C E) → HasKeptPort steps setting J (first ∷ []) work
      → IsPrefix work.stopped.desk.front list → IsPrefix work.stopped.keeper.receipts receipts → (work.stopped.keeper.failed ≡ true → 0 < faults)
      → HasWorkedKept steps setting J list first receipts faults work
  has_worked list first receipts faults work h front in_hand caused =
      let old : AtKeptFront C E = at_kept_front setting J (first ∷ []) in
      let all : Joins steps old work.stopped h.links.visits = joined steps old work.stopped h.links.visits h.links.served in record {
        links = h;
        front = front;
        in_hand = in_hand;
        exchanges = all.exchanges;
        each = all.each;
        told = are_told steps setting list receipts old work.stopped (all_sendings h.links.visits all.exchanges) refl front in_hand all.sends;
        withheld = causes steps (0 < faults) old work.stopped h.links.visits h.links.served caused;
      }

  all_worked : (list : List E) (first : Receipt) (receipts : List Receipt) (faults : ℕ) (works : List (KeptWork C E))
      → AllByRecursion (HasKeptPort steps setting J (first ∷ [])) works
      → AllByRecursion (λ work. IsPrefix work.stopped.desk.front list) works → AllByRecursion (λ work. IsPrefix work.stopped.keeper.receipts receipts) works
      → AllByRecursion (λ work. work.stopped.keeper.failed ≡ true → 0 < faults) works
      → AllByRecursion (HasWorkedKept steps setting J list first receipts faults) works
  all_worked list first receipts faults [] served begin given caused = tt
  all_worked list first receipts faults (work ∷ works) served begin given caused =
      (has_worked list first receipts faults work served.0 begin.0 given.0 caused.0, all_worked list first receipts faults works served.1 begin.1 given.1 caused.1)

  module _ {D : Type 0} (legal : List E → Type 0) (text : List E → List ℕ) (moment : D → ℕ) (left_since : D → ℕ → List ℕ → Type 0) where
    -- what is kept of a list is kept of each longer one
    abbrev pub ReceiptsStay : Type 0
    ReceiptsStay = (device : D) (entries longer : List E) (receipts : List Receipt) → IsPrefix entries longer
        → AreKept text moment left_since device entries receipts → AreKept text moment left_since device longer receipts

    module _ (faults : D → ℕ) (longer : ReceiptsStay) where
      served_kept : (before after : List PortTold) (stopped : List (AtKeptFront C E)) (in_hand : List (List Receipt)) (first : Receipt) (receipts : List Receipt)
          (list held : List E) (device : D) (withheld failed broken : Bool) → legal list → IsPrefix J list
          → HaveKept steps setting J (first ∷ []) stopped before after failed → map (λ it. it.keeper.receipts) stopped ≡ in_hand
          → AllByRecursion (λ it. IsPrefix it.desk.front list) stopped → (withheld ≡ false → AllByRecursion (λ it. it.keeper.failed ≡ false) stopped)
          → length list ≡ length J + sum_by (λ it. it.desk.grown) stopped → first.count ≡ length J
          → AreKept text moment left_since device held receipts → (broken ≡ true → 0 < faults device)
          → AreMatched (first ∷ []) in_hand withheld list held receipts broken
          → ServesKept steps setting J legal text moment left_since faults before after failed device
      served_kept before after stopped in_hand first receipts list held device withheld failed broken legal_is goes_on served hands_are begin none grown first_for kept broke matched =
          let works = served.works in
          let each : (P : AtKeptFront C E → Type 0) → AllByRecursion P stopped → AllByRecursion (λ work. P work.stopped) works =
          λ P h. all_through (λ (work : KeptWork C E). work.stopped) P works (subst (λ (l : List (AtKeptFront C E)). AllByRecursion P l) (sym served.stopped_are) h) in record {
            list = list;
            legal_is = legal_is;
            goes_on = goes_on;
            receipts = receipts;
            kept = longer device held list receipts matched.seen kept;
            first = first;
            first_is = matched.first;
            first_for = first_for;
            works = works;
            worked =
                all_worked list first receipts (faults device) works served.served (each (λ it. IsPrefix it.desk.front list) begin)
                (each (λ it. IsPrefix it.keeper.receipts receipts)
                (all_through (λ (it : AtKeptFront C E). it.keeper.receipts) (λ h. IsPrefix h receipts) stopped
                (subst (λ (l : List (List Receipt)). AllByRecursion (λ h. IsPrefix h receipts) l) (sym hands_are) matched.given)))
                (each (λ it. it.keeper.failed ≡ true → 0 < faults device)
                (all_caused (λ (it : AtKeptFront C E). it.keeper.failed) (0 < faults device) withheld stopped (λ was. broke (matched.failed was)) none));
            grown =
                grown ∙ ap (λ (n : ℕ). length J + n)
                (ap (λ (l : List (AtKeptFront C E)). sum_by (λ it. it.desk.grown) l) (sym served.stopped_are)
                ∙ summed_through (λ (work : KeptWork C E). work.stopped) (λ it. it.desk.grown) works);
            handed = served.handed;
            back = served.back;
            some_failed = served.some_failed;
          }

      -- the same, by how serving ended
      pub ports_kept : (before after : List PortTold) (stopped : List (AtKeptFront C E)) (in_hand : List (List Receipt)) (first : Receipt) (receipts : List Receipt)
          (list held : List E) (device : D) (withheld failed broken : Bool) (outcome : Outcome) → legal list → IsPrefix J list
          → HaveKept steps setting J (first ∷ []) stopped before after failed → map (λ it. it.keeper.receipts) stopped ≡ in_hand
          → AllByRecursion (λ it. IsPrefix it.desk.front list) stopped → (withheld ≡ false → AllByRecursion (λ it. it.keeper.failed ≡ false) stopped)
          → length list ≡ length J + sum_by (λ it. it.desk.grown) stopped → first.count ≡ length J
          → AreKept text moment left_since device held receipts
          → (broken ≡ false → faults device ≡ 0) → (broken ≡ true → 0 < faults device)
          → AreMatched (first ∷ []) in_hand withheld list held receipts broken → EndsSo failed broken outcome
          → ServesKeptPorts steps legal text moment left_since faults setting J device before after outcome
      ports_kept before after stopped in_hand first receipts list held device withheld failed broken Served legal_is goes_on served hands_are begin none grown first_for kept fine broke matched ends = (
        subst (λ (b : Bool). ServesKept steps setting J legal text moment left_since faults before after b device) ends.0
            (served_kept before after stopped in_hand first receipts list held device withheld failed broken legal_is goes_on served hands_are begin none grown first_for kept broke matched),
        fine ends.1,
      )
      ports_kept before after stopped in_hand first receipts list held device withheld failed broken Failed legal_is goes_on served hands_are begin none grown first_for kept fine broke matched ends = (
        subst (λ (b : Bool). ServesKept steps setting J legal text moment left_since faults before after b device) ends.0
            (served_kept before after stopped in_hand first receipts list held device withheld failed broken legal_is goes_on served hands_are begin none grown first_for kept broke matched),
        fine ends.1,
      )
      ports_kept before after stopped in_hand first receipts list held device withheld failed broken Unkept legal_is goes_on served hands_are begin none grown first_for kept fine broke matched ends = (
        failed,
        served_kept before after stopped in_hand first receipts list held device withheld failed broken legal_is goes_on served hands_are begin none grown first_for kept broke matched,
        broke ends,
      )
      ports_kept before after stopped in_hand first receipts list held device withheld failed broken LacksMemory legal_is goes_on served hands_are begin none grown first_for kept fine broke matched ends = absurd ends
