-- What serving the links of ports by the sessions of one hub does, for any machine.
use Rattle.std.specs.Prelude.{◌≡◌, ℕ, Bool, true, false, List, map, length}
use Rattle.std.specs.List.{AllByRecursion, AllZip, list_any, range_with_len}
use mathlib.Core.List.{IsPrefix}
use Rattle.osm_outside.specs.Port.{PortTold}
use Rattle.http_link.specs.Exchange.{Exchange}
use Rattle.link_workers.specs.Port.{ServesPort}
use Rattle.link_workers.specs.Joined.{all_of}
use Rattle.machine_law.specs.Rules.{Rules}
use Rattle.snapshot_hub.specs.Known.{Known, newcomer, seeing}
use Rattle.user_table.specs.Users.{Users}
use Rattle.session_desk.specs.Answered.{RowOf, HasServed}
use Rattle.desk_serve.specs.Desks.{at_desk}
use Rattle.desk_serve.specs.Link.{OnVisit, IsListOf, HasItsCalls, TellsLink}
use Rattle.link_workers.specs.declared.outcome.Outcome.{Outcome}
use Rattle.link_workers.specs.declared.outcome.Outcome.TheVariants.{Served, Failed, Unkept, LacksMemory}

-- What a worker was given, and what it gave back: the number of its new session and what that knew behind its last link, its port as
-- it was handed out and as it came back, and whether accepting failed.
pub record Shift (E : Type 0) : Type 0 where
  pub number : ℕ
  pub stopped : Known E
  pub before : PortTold
  pub after : PortTold
  pub failed : Bool

-- over the rules of a machine, and what one message may be answered
module _ {S C Q P E K : Type 0} (rules : Rules S C Q P E K) (row : RowOf E) where
  -- Each link that the port handed out was served once, to an end, and given back; where accepting didn't fail, no known link is to come.
  abbrev pub HasServedPort : Users → Shift E → Type 0
  HasServedPort users shift = ServesPort (TellsLink rules row) (at_desk users (newcomer shift.number)) (at_desk users shift.stopped) shift.before shift.after shift.failed

  -- A worker served the links of its port by the session of that number, of a hub with that one list.
  pub record HasWorked (users : Users) (one : List E) (shift : Shift E) : Type 0 where
    pub links : HasServedPort users shift
    -- all that its session saw begins the one list, which has just its calls
    pub within : IsPrefix shift.stopped.front one
    pub calls : HasItsCalls rules one shift.stopped
    -- The messages of all these links, one link after another: each has a row at a point of the one list; the points never go back, not
    -- even from one link to the next.
    pub exchanges : List (List Exchange)
    pub each : AllZip (λ visit exchanges. OnVisit visit exchanges) links.links.visits exchanges
    pub joined : HasServed row users (newcomer shift.number) 0 (all_of exchanges) (seeing shift.stopped one)

  -- The links of these ports were served by the sessions of a new hub, which was then closed.
  pub record ServesAll (users : Users) (before after : List PortTold) (failed : Bool) : Type 0 where
    -- one list, the journal of the closed hub, with no entry but those of a session for each port
    pub one : List E
    pub list : IsListOf rules (length before) one
    -- one worker for each port, with a new session of its number
    pub shifts : List (Shift E)
    pub worked : AllByRecursion (HasWorked users one) shifts
    pub numbers : map (λ shift. shift.number) shifts ≡ range_with_len 0 (length before)
    pub handed : map (λ shift. shift.before) shifts ≡ before
    pub back : map (λ shift. shift.after) shifts ≡ after
    pub some_failed : failed ≡ list_any (λ shift. shift.failed) shifts

  -- what serving ports comes to: keeping doesn't fail, since nothing is kept, and want of memory leaves them as they were
  abbrev pub ServesPorts : Users → List PortTold → List PortTold → Outcome → Type 0
  ServesPorts users before after Served = ServesAll users before after false
  ServesPorts users before after Failed = ServesAll users before after true
  ServesPorts users before after Unkept = ⊥
  ServesPorts users before after LacksMemory = after ≡ before

  -- ---- for private clauses

  -- Workers with new sessions of these numbers served these ports.
  pub record HaveServed (users : Users) (numbers : List ℕ) (stopped : List (Known E)) (before after : List PortTold) (failed : Bool) : Type 0 where
    pub shifts : List (Shift E)
    pub served : AllByRecursion (HasServedPort users) shifts
    pub numbers_are : map (λ shift. shift.number) shifts ≡ numbers
    pub stopped_are : map (λ shift. shift.stopped) shifts ≡ stopped
    pub handed : map (λ shift. shift.before) shifts ≡ before
    pub back : map (λ shift. shift.after) shifts ≡ after
    pub some_failed : failed ≡ list_any (λ shift. shift.failed) shifts
