-- What serving the links of ports over one list does.
use Rattle.std.specs.Prelude.{◌≡◌, ℕ, ◌+◌, ◌≤◌, Bool, true, false, List, [], ◌∷◌, map, length, take}
use Rattle.std.specs.List.{AllByRecursion, AllZip, list_any, sum_by}
use mathlib.Core.List.{IsPrefix}
use Rattle.osm_outside.specs.Port.{PortTold}
use Rattle.osm_base.specs.declared.limits.TheConstants.{PIECE_LIMIT}
use Rattle.http_wire.specs.declared.message.Message.{Message}
use Rattle.http_link.specs.declared.desk.Reply.{Reply}
use Rattle.http_link.specs.Exchange.{Exchange}
use Rattle.http_link.specs.Turns.{exchanges_of}
use Rattle.http_link.specs.Link.{ServesTelling}
use Rattle.link_workers.specs.Port.{Visit, ServesPort}
use Rattle.link_workers.specs.Joined.{all_of}
use Rattle.step_hub.specs.Steps.{at_front, Allows}
use Rattle.link_workers.specs.declared.outcome.Outcome.{Outcome}
use Rattle.link_workers.specs.declared.outcome.Outcome.TheVariants.{Served, Failed, Unkept, LacksMemory}

-- The message was answered on a beginning of the list that is no shorter than this, and left that beginning, or one with the next entry,
-- which is counted then beside those that were before.
pub record IsStepOf {E : Type 0} (steps : List E → Message → ℕ → Reply → List E → Type 0)
    (list : List E) (point grown : ℕ) (exchange : Exchange) (next count : ℕ) : Type 0 where
  pub found : ℕ
  pub later : point ≤ found
  pub stays : found ≤ next
  pub one : next ≤ found + 1
  pub within : next ≤ length list
  pub step : steps (take found list) exchange.message exchange.moment exchange.answer (take next list)
  pub counts : count + found ≡ grown + next

-- All of these were, one after another, from the one point of the list to the other, and from the one count of entries that such steps added
-- to the other. The points never go back.
abbrev pub AreStepsOf : {E : Type 0} → (List E → Message → ℕ → Reply → List E → Type 0) → List E → ℕ → ℕ → List Exchange → ℕ → ℕ → Type 0
AreStepsOf steps list point grown [] last total = (last ≡ point) × (total ≡ grown)
AreStepsOf steps list point grown (exchange ∷ exchanges) last total =
    (next : ℕ) × (count : ℕ) × IsStepOf steps list point grown exchange next count × AreStepsOf steps list next count exchanges last total

-- The link was served to its end by the desk, which withheld no reply, and these are its messages with their moments and replies.
pub record IsServed {D : Type 0} (allows : D → Message → ℕ → Reply → D → Type 0) (visit : Visit) (exchanges : List Exchange) : Type 0 where
  pub old : D
  pub new : D
  pub serves : ServesTelling PIECE_LIMIT allows old new visit.came visit.went visit.end
  pub exchanges_are : exchanges ≡ exchanges_of serves.serves.turns

-- What a worker did: what it had seen of the list behind its last link, how many entries its answers added to the list, its port as it was
-- handed out and as it came back, and whether accepting failed.
pub record Work (E : Type 0) : Type 0 where
  pub front : List E
  pub grown : ℕ
  pub before : PortTold
  pub after : PortTold
  pub failed : Bool

-- A worker that had seen this beginning J of the list served the links of its port.
pub record HasWorked {C E : Type 0} (steps : C → List E → Message → ℕ → Reply → List E → Type 0)
    (setting : C) (J list : List E) (work : Work E) : Type 0 where
  -- each link that the port handed out was served once, to an end, and given back; where accepting didn't fail, no known link is to come
  pub links : ServesPort (ServesTelling PIECE_LIMIT (Allows steps)) (at_front setting J 0) (at_front setting work.front work.grown) work.before work.after work.failed
  pub front : IsPrefix work.front list
  -- The messages of all these links, one link after another: each reply is a step on a beginning of the list. The points never go back,
  -- from one link to the next neither. They begin where J ends. So many of these steps added an entry.
  pub exchanges : List (List Exchange)
  pub each : AllZip (IsServed (Allows steps)) links.links.visits exchanges
  pub answered : AreStepsOf (steps setting) list (length J) 0 (all_of exchanges) (length work.front) work.grown

-- The links of these ports were served over one list that began with J.
pub record ServesAll {C E : Type 0} (steps : C → List E → Message → ℕ → Reply → List E → Type 0) (legal : List E → Type 0)
    (setting : C) (J : List E) (before after : List PortTold) (failed : Bool) : Type 0 where
  pub list : List E
  pub legal_is : legal list
  pub goes_on : IsPrefix J list
  -- one worker for each port
  pub works : List (Work E)
  pub worked : AllByRecursion (HasWorked steps setting J list) works
  -- the steps that added an entry, of all workers, are just the growth of the list
  pub grown : length list ≡ length J + sum_by (λ work. work.grown) works
  pub handed : map (λ work. work.before) works ≡ before
  pub back : map (λ work. work.after) works ≡ after
  pub some_failed : failed ≡ list_any (λ work. work.failed) works

-- what serving ports comes to, on from such a list: keeping doesn't fail, since nothing is kept, and want of memory leaves them as they were
abbrev pub ServesPortsFrom : {C E : Type 0} → (C → List E → Message → ℕ → Reply → List E → Type 0) → (List E → Type 0)
    → C → List E → List PortTold → List PortTold → Outcome → Type 0
ServesPortsFrom steps legal setting J before after Served = ServesAll steps legal setting J before after false
ServesPortsFrom steps legal setting J before after Failed = ServesAll steps legal setting J before after true
ServesPortsFrom steps legal setting J before after Unkept = ⊥
ServesPortsFrom steps legal setting J before after LacksMemory = after ≡ before

-- the same, on from an empty list
abbrev pub ServesPorts : {C E : Type 0} → (C → List E → Message → ℕ → Reply → List E → Type 0) → (List E → Type 0)
    → C → List PortTold → List PortTold → Outcome → Type 0
ServesPorts steps legal setting before after outcome = ServesPortsFrom steps legal setting [] before after outcome
