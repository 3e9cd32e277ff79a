-- What workers did, as the clause on all of them says it.
use Rattle.std.proofs.Common.{◌≡◌, ℕ, ◌+◌, ◌||◌, Bool, List, [], ◌∷◌, ◌++◌, length, map, replicate, refl, sym, ap, ◌∙◌, subst}
use Rattle.std.specs.List.{AllByRecursion, list_any, sum_by}
use Rattle.std.proofs.lemmas.List.Sums.{sum_by-cons}
use mathlib.Core.List.{IsPrefix}
use Rattle.osm_outside.specs.Port.{PortTold}
use Rattle.osm_base.specs.declared.limits.TheConstants.{PIECE_LIMIT}
use Rattle.http_wire.specs.declared.message.Message.{Message}
use Rattle.http_link.specs.declared.desk.Reply.{Reply}
use Rattle.http_link.specs.Link.{ServesTelling}
use Rattle.link_workers.specs.declared.worker.Worker.{Worker}
use Rattle.link_workers.specs.Port.{ServesPort}
use Rattle.link_workers.specs.Joined.{all_of}
use Rattle.link_workers.specs.Seats.{seated, sessions_of, ports_of}
use Rattle.link_workers.specs.Workers.{AllWork}
use Rattle.step_hub.specs.Steps.{AtFront, at_front, Allows}
use Rattle.step_hub.specs.ServePorts.{Work, HasWorked, ServesAll}
use Rattle.step_hub.proofs.Joined.{Joins, joined, chain_setting, are_steps}

module _ {C E P : Type 0} (steps : C → List E → Message → ℕ → Reply → List E → Type 0) (setting : C) (told : P → PortTold) (J list : List E) where
  desk_is : (desk : AtFront C E) → desk.setting ≡ setting → desk ≡ at_front setting desk.front desk.grown
  desk_is desk same = λ i. record { setting = same i; front = desk.front; grown = desk.grown }

  -- what a worker did with a port
  abbrev work_of : (port : P) (w : Worker (AtFront C E) P) → Work E
  work_of port w = record { front = w.session.front; grown = w.session.grown; before = told port; after = told w.port; failed = w.failed }

  one_work : (port : P) (w : Worker (AtFront C E) P) → IsPrefix w.session.front list
      → ServesPort (ServesTelling PIECE_LIMIT (Allows steps)) (at_front setting J 0) w.session (told port) (told w.port) w.failed → HasWorked steps setting J list (work_of port w)
  one_work port w begins h =
      let all : Joins (Allows steps) (at_front setting J 0) w.session h.links.visits = joined (Allows steps) (at_front setting J 0) w.session h.links.visits h.links.served in
      let same : w.session ≡ at_front setting w.session.front w.session.grown = desk_is w.session (chain_setting steps (at_front setting J 0) w.session (all_of all.exchanges) all.chain) in
      let served = subst (λ (d : AtFront C E). ServesPort (ServesTelling PIECE_LIMIT (Allows steps)) (at_front setting J 0) d (told port) (told w.port) w.failed) same h in
      let again : Joins (Allows steps) (at_front setting J 0) (at_front setting w.session.front w.session.grown) served.links.visits =
      joined (Allows steps) (at_front setting J 0) (at_front setting w.session.front w.session.grown) served.links.visits served.links.served in record {
        links = served;
        front = begins;
        exchanges = again.exchanges;
        each = again.each;
        answered = are_steps steps setting list (at_front setting J 0) (at_front setting w.session.front w.session.grown) (all_of again.exchanges) refl begins again.chain;
      }

  -- what all of them did
  pub record AllWorked (ports : List P) (new : List (Worker (AtFront C E) P)) : Type 0 where
    pub works : List (Work E)
    pub worked : AllByRecursion (HasWorked steps setting J list) works
    pub handed : map (λ work. work.before) works ≡ map told ports
    pub back : map (λ work. work.after) works ≡ map told (ports_of new)
    pub some : list_any (λ w. w.failed) new ≡ list_any (λ work. work.failed) works
    pub grown : sum_by (λ (desk : AtFront C E). desk.grown) (sessions_of new) ≡ sum_by (λ work. work.grown) works

  more_work : (port : P) (ports : List P) (w : Worker (AtFront C E) P) (new : List (Worker (AtFront C E) P)) → IsPrefix w.session.front list
      → ServesPort (ServesTelling PIECE_LIMIT (Allows steps)) (at_front setting J 0) w.session (told port) (told w.port) w.failed
      → AllWorked ports new → AllWorked (port ∷ ports) (w ∷ new)
  more_work port ports w new begins h rest = record {
    works = work_of port w ∷ rest.works;
    worked = (one_work port w begins h, rest.worked);
    handed = ap (λ (l : List PortTold). told port ∷ l) rest.handed;
    back = ap (λ (l : List PortTold). told w.port ∷ l) rest.back;
    some = ap (λ (b : Bool). w.failed || b) rest.some;
    grown =
        sum_by-cons (λ (desk : AtFront C E). desk.grown) w.session (sessions_of new)
        ∙ (ap (λ (n : ℕ). w.session.grown + n) rest.grown
        ∙ sym (sum_by-cons (λ (work : Work E). work.grown) (work_of port w) rest.works));
  }

  all_worked : (ports : List P) (new : List (Worker (AtFront C E) P))
      → AllWork (ServesTelling PIECE_LIMIT (Allows steps)) told (seated (replicate (length ports) (at_front setting J 0)) ports) new
      → AllByRecursion (λ (desk : AtFront C E). IsPrefix desk.front list) (sessions_of new) → AllWorked ports new
  all_worked [] [] h begin = record { works = []; worked = tt; handed = refl; back = refl; some = refl; grown = refl }
  all_worked [] (w ∷ new) h begin = absurd h
  all_worked (p ∷ ports) [] h begin = absurd h
  all_worked (p ∷ ports) (w ∷ new) h begin = more_work p ports w new begin.0 h.0 (all_worked ports new h.1 begin.1)

  -- the clause on all workers, whose desks had seen J
  pub serves_all : (legal : List E → Type 0) (ports back : List P) (desks : List (AtFront C E)) (new : List (Worker (AtFront C E) P)) (count : ℕ) (failed : Bool)
      → legal list → IsPrefix J list → desks ≡ replicate count (at_front setting J 0) → length ports ≡ count
      → AllWork (ServesTelling PIECE_LIMIT (Allows steps)) told (seated desks ports) new
      → AllByRecursion (λ (desk : AtFront C E). IsPrefix desk.front list) (sessions_of new)
      → length list ≡ length J + sum_by (λ (desk : AtFront C E). desk.grown) (sessions_of new)
      → back ≡ ports_of new → failed ≡ list_any (λ w. w.failed) new
      → ServesAll steps legal setting J (map told ports) (map told back) failed
  serves_all legal ports back desks new count failed legal_is goes_on fresh counted works begin grown back_is failed_is =
      let same : desks ≡ replicate (length ports) (at_front setting J 0) = fresh ∙ ap (λ (n : ℕ). replicate n (at_front setting J 0)) (sym counted) in
      let all = all_worked ports new (subst (λ (ds : List (AtFront C E)). AllWork (ServesTelling PIECE_LIMIT (Allows steps)) told (seated ds ports) new) same works) begin in record {
        list = list;
        legal_is = legal_is;
        goes_on = goes_on;
        works = all.works;
        worked = all.worked;
        grown = grown ∙ ap (λ (n : ℕ). length J + n) all.grown;
        handed = all.handed;
        back = all.back ∙ ap (λ (l : List P). map told l) (sym back_is);
        some_failed = failed_is ∙ all.some;
      }

-- lists that were empty, and then took what workers had
pub sessions_back : {S P : Type 0} (back before : List S) (workers new : List (Worker S P)) → back ≡ before ++ sessions_of workers → before ≡ [] → workers ≡ new → back ≡ sessions_of new
sessions_back back before workers new taken empty same = taken ∙ (ap (λ l. l ++ sessions_of workers) empty ∙ ap (λ l. sessions_of l) same)

pub ports_back : {S P : Type 0} (back before : List P) (workers new : List (Worker S P)) → back ≡ before ++ ports_of workers → before ≡ [] → workers ≡ new → back ≡ ports_of new
ports_back back before workers new taken empty same = taken ∙ (ap (λ l. l ++ ports_of workers) empty ∙ ap (λ l. ports_of l) same)
