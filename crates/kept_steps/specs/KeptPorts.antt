-- What serving the links of ports over one list does, where replies are sent only once what they tell of is kept.
use Rattle.std.specs.Prelude.{◌≡◌, ℕ, ◌+◌, ◌<◌, ◌≤◌, Bool, true, false, IsTrue, List, [], ◌∷◌, length, map, take}
use Rattle.std.specs.List.{AllByRecursion, AllZip, list_any, sum_by}
use mathlib.Core.List.{IsPrefix}
use Rattle.osm_base.specs.declared.limits.TheConstants.{PIECE_LIMIT}
use Rattle.osm_outside.specs.Event.{Shown}
use Rattle.osm_outside.specs.Port.{PortTold}
use Rattle.http_wire.specs.declared.message.Message.{Message}
use Rattle.http_link.specs.declared.desk.Reply.{Reply}
use Rattle.http_link.specs.declared.desk.Withheld.{Withheld}
use Rattle.http_link.specs.Exchange.{Exchange}
use Rattle.http_link.specs.Turns.{exchanges_of}
use Rattle.http_link.specs.Link.{ServesTold}
use Rattle.link_workers.specs.Port.{Visit, ServesPort}
use Rattle.link_workers.specs.declared.outcome.Outcome.{Outcome}
use Rattle.link_workers.specs.declared.outcome.Outcome.TheVariants.{Served, Failed, Unkept, LacksMemory}
use Rattle.durable_log.specs.Held.{LeavesAll}
use Rattle.durable_log.specs.Receipts.{last_count, AreKept}
use Rattle.durable_log.specs.Receipts.{Receipt}
use Rattle.kept_desk.specs.Kept.{Sending}
use Rattle.desk_serve.specs.KeptPorts.{HasCause, all_sendings}
use Rattle.step_hub.specs.ServePorts.{IsStepOf}
use Rattle.kept_steps.specs.Kept.{AtKeptFront, at_kept_front, Tells, shows_kept, Withholds, AllowsKept}

-- The message was answered by a step of the list, which stands at that next point then, and is counted where it added an entry. Before
-- anything of the reply was sent, the link was shown the receipts in hand, of which the last is for that point at least. They are the first
-- ones of these receipts, so many, and no fewer than before.
pub record IsToldStep {E : Type 0} (steps : List E → Message → ℕ → Reply → List E → Type 0)
    (list : List E) (receipts : List Receipt) (point grown had : ℕ) (sending : Sending) (next count in_hand : ℕ) : Type 0 where
  pub step : IsStepOf steps list point grown sending.exchange next count
  pub later : had ≤ in_hand
  pub within : in_hand ≤ length receipts
  pub kept : IsTrue sending.sent → (sending.exchange.shown ≡ take in_hand receipts ∷ []) × (next ≤ last_count (take in_hand receipts))

-- All of these were, one after another, from the one point of the list to the other, and from the one count of entries that such steps added
-- to the other. Neither the points nor the receipts ever go back.
abbrev pub AreToldSteps : {E : Type 0} → (List E → Message → ℕ → Reply → List E → Type 0) → List E → List Receipt → ℕ → ℕ → ℕ → List Sending → ℕ → ℕ → Type 0
AreToldSteps steps list receipts point grown had [] last total = (last ≡ point) × (total ≡ grown)
AreToldSteps steps list receipts point grown had (s ∷ sendings) last total =
    (next : ℕ) × (count : ℕ) × (in_hand : ℕ) × IsToldStep steps list receipts point grown had s next count in_hand
    × AreToldSteps steps list receipts next count in_hand sendings last total

-- The link was served to its end by the desk, which let each reply be sent and showed what it shows before it was or had a cause to withhold
-- the last one, and these are its messages with their moments and replies.
pub record IsServedTold {D : Type 0} (allows : D → Message → ℕ → Reply → D → Type 0) (tells : D → Type 0) (shows : D → List Shown)
    (withholds : D → Withheld → Type 0) (visit : Visit) (exchanges : List Exchange) : Type 0 where
  pub old : D
  pub new : D
  pub serves : ServesTold PIECE_LIMIT allows tells shows withholds old new visit.came visit.went visit.end
  pub exchanges_are : exchanges ≡ exchanges_of serves.serves.turns

-- What a worker did: what its desk had behind its last link, its port as it was handed out and as it came back, and whether accepting failed.
pub record KeptWork (C E : Type 0) : Type 0 where
  pub stopped : AtKeptFront C E
  pub before : PortTold
  pub after : PortTold
  pub failed : Bool

-- over what a message may be answered on a list, what all desks are told, and the beginning of the list that each had seen at first
module _ {C E : Type 0} (steps : C → List E → Message → ℕ → Reply → List E → Type 0) (setting : C) (J : List E) where
  -- Each link that the port handed out was served once, to an end, and given back; where accepting didn't fail, no known link is to come.
  abbrev pub HasKeptPort : List Receipt → KeptWork C E → Type 0
  HasKeptPort had work =
      ServesPort (ServesTold PIECE_LIMIT (AllowsKept steps) Tells shows_kept Withholds) (at_kept_front setting J had) work.stopped work.before work.after work.failed

  -- A worker that had seen J of the list served the links of its port, with that receipt in hand at first. These are all receipts that were
  -- given, and so many calls of the device have failed.
  pub record HasWorkedKept (list : List E) (first : Receipt) (receipts : List Receipt) (faults : ℕ) (work : KeptWork C E) : Type 0 where
    pub links : HasKeptPort (first ∷ []) work
    pub front : IsPrefix work.stopped.desk.front list
    -- those in hand behind its last link are the first ones that were given
    pub in_hand : IsPrefix work.stopped.keeper.receipts receipts
    -- The messages of all these links, one link after another: each reply is a step on a beginning of the list, and before anything of one
    -- was sent its link was shown a receipt for all that it may tell of. The points never go back, from one link to the next neither, and no
    -- more do the receipts. They begin where J ends. So many of these steps added an entry.
    pub exchanges : List (List Exchange)
    pub each : AllZip (IsServedTold (AllowsKept steps) Tells shows_kept Withholds) links.links.visits exchanges
    pub told : AreToldSteps (steps setting) list receipts (length J) 0 1 (all_sendings links.links.visits exchanges)
        (length work.stopped.desk.front) work.stopped.desk.grown
    -- a reply was withheld because keeping failed only where a call of the device has failed
    pub withheld : AllByRecursion (λ visit. HasCause (0 < faults) visit.end) links.links.visits

  -- The links of these ports were served over one list that began with J. What was written of entries is on this device.
  pub record ServesKept {D : Type 0} (legal : List E → Type 0) (text : List E → List ℕ) (moment : D → ℕ) (left_since : D → ℕ → List ℕ → Type 0) (faults : D → ℕ)
      (before after : List PortTold) (failed : Bool) (device : D) : Type 0 where
    pub list : List E
    pub legal_is : legal list
    pub goes_on : IsPrefix J list
    -- All receipts that were given. From the moment of each on, which has come, every crash leaves a beginning of the list with at least the
    -- entries that it is for. The first one is for J.
    pub receipts : List Receipt
    pub kept : AreKept text moment left_since device list receipts
    pub first : Receipt
    pub first_is : IsPrefix (first ∷ []) receipts
    pub first_for : first.count ≡ length J
    -- one worker for each port
    pub works : List (KeptWork C E)
    pub worked : AllByRecursion (HasWorkedKept list first receipts (faults device)) works
    -- the steps that added an entry, of all workers, are just the growth of the list
    pub grown : length list ≡ length J + sum_by (λ work. work.stopped.desk.grown) works
    pub handed : map (λ work. work.before) works ≡ before
    pub back : map (λ work. work.after) works ≡ after
    pub some_failed : failed ≡ list_any (λ work. work.failed) works

  -- ---- for clauses of what leads there

  -- Workers with these receipts in hand at first served these ports.
  pub record HaveKept (had : List Receipt) (stopped : List (AtKeptFront C E)) (before after : List PortTold) (failed : Bool) : Type 0 where
    pub works : List (KeptWork C E)
    pub served : AllByRecursion (HasKeptPort had) works
    pub stopped_are : map (λ work. work.stopped) works ≡ stopped
    pub handed : map (λ work. work.before) works ≡ before
    pub back : map (λ work. work.after) works ≡ after
    pub some_failed : failed ≡ list_any (λ work. work.failed) works

-- What desks held at last is what the file's shelf gave: the receipts that they had at first and those in hand of each are the first ones of
-- its receipts, all that the file may hold begins the list, and a reply was withheld because keeping failed only where the shelf is broken.
pub record AreMatched {E : Type 0} (had : List Receipt) (in_hand : List (List Receipt)) (withheld : Bool) (list entries : List E) (receipts : List Receipt)
    (broken : Bool) : Type 0 where
  pub first : IsPrefix had receipts
  pub given : AllByRecursion (λ held. IsPrefix held receipts) in_hand
  pub seen : IsPrefix entries list
  pub failed : withheld ≡ true → broken ≡ true

-- over the same, which lists may come about, how a list is written, and what a file that it is kept in tells
module _ {C E D : Type 0} (steps : C → List E → Message → ℕ → Reply → List E → Type 0) (legal : List E → Type 0)
    (text : List E → List ℕ) (moment : D → ℕ) (left_since : D → ℕ → List ℕ → Type 0) (faults : D → ℕ) where
  -- By what all desks are told, the list that was begun with, the file as it was at last, and the ports before and after. Where serving
  -- ended in order no call of the device had failed. Where one had, whatever was told before is kept too. Want of memory leaves the ports as
  -- they were, and the file with the whole list, of which no call had failed either.
  abbrev pub ServesKeptPorts : C → List E → D → List PortTold → List PortTold → Outcome → Type 0
  ServesKeptPorts setting J device before after Served =
      ServesKept steps setting J legal text moment left_since faults before after false device × (faults device ≡ 0)
  ServesKeptPorts setting J device before after Failed =
      ServesKept steps setting J legal text moment left_since faults before after true device × (faults device ≡ 0)
  ServesKeptPorts setting J device before after Unkept =
      (failed : Bool) × ServesKept steps setting J legal text moment left_since faults before after failed device × (0 < faults device)
  ServesKeptPorts setting J device before after LacksMemory = (after ≡ before) × LeavesAll text moment left_since device J × (faults device ≡ 0)
