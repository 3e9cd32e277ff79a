-- What serving the links of ports does by the sessions of one hub, which began with a journal, and whose replies are sent only once what
-- they tell of is kept.
use Rattle.std.specs.Prelude.{◌≡◌, ℕ, ◌<◌, ◌≤◌, Bool, true, false, ⊤, List, [], ◌∷◌, ◌++◌, length, map}
use Rattle.std.specs.List.{AllByRecursion, AllZip, list_any, range_with_len}
use mathlib.Core.List.{IsPrefix}
use Rattle.osm_outside.specs.Port.{PortTold}
use Rattle.http_link.specs.Exchange.{Exchange}
use Rattle.http_link.specs.declared.desk.Withheld.TheVariants.{Failed, Memory, Full, Mismatched}
use Rattle.http_link.specs.declared.end.LinkEnd.{LinkEnd}
use Rattle.http_link.specs.declared.end.LinkEnd.TheVariants.{Unkept}
use Rattle.link_workers.specs.Port.{Visit, ServesPort}
use Rattle.machine_law.specs.Rules.{Rules}
use Rattle.hub_core.specs.Journal.{calls_of, is_numbered}
use Rattle.snapshot_hub.specs.Known.{returner, seeing}
use Rattle.durable_log.specs.Receipts.{AreKept}
use Rattle.durable_log.specs.Receipts.{Receipt}
use Rattle.user_table.specs.Users.{Users}
use Rattle.session_desk.specs.Answered.{RowOf}
use Rattle.kept_desk.specs.Kept.{AtKept, at_kept, Sending, sendings, HasKeptAndTold}
use Rattle.desk_serve.specs.Desks.{at_desk}
use Rattle.desk_serve.specs.Link.{OnVisit, IsSound, HasItsCalls}
use Rattle.desk_serve.specs.Kept.{KeepsLink}

-- What a worker was given, and what it gave back: the number of its session, what its desk kept behind its last link, its port as it was
-- handed out and as it came back, and whether accepting failed.
pub record KeptShift (E : Type 0) : Type 0 where
  pub number : ℕ
  pub stopped : AtKept E
  pub before : PortTold
  pub after : PortTold
  pub failed : Bool

-- the sendings of links with these exchanges, one link after another
abbrev pub all_sendings : List Visit → List (List Exchange) → List Sending
all_sendings [] rest = []
all_sendings (visit ∷ visits) [] = []
all_sendings (visit ∷ visits) (exchanges ∷ rest) = sendings visit.end exchanges ++ all_sendings visits rest

-- what a desk keeps of the session of that number, of a hub that began with this journal, with these receipts in hand
abbrev pub kept_returner : {S C Q P E K : Type 0} → Rules S C Q P E K → Users → ℕ → List E → List Receipt → AtKept E
kept_returner rules users number J had = at_kept (at_desk users (returner number J (calls_of rules.tag_of number J))) 0 had false

-- that held, where a link ended with a reply withheld because keeping failed
abbrev pub HasCause : Type 0 → LinkEnd → Type 0
HasCause cause (Unkept Failed) = cause
HasCause cause (Unkept Memory) = ⊤
HasCause cause (Unkept Full) = ⊤
HasCause cause (Unkept Mismatched) = ⊤
HasCause cause other = ⊤

-- The one list of a hub that began with the journal J, and of which so many sessions were used, numbered from 0: it goes on from J, it is
-- sound, the calls of each session stand in it numbered 1, 2, 3 and so on, and of all other sessions it has what J has.
pub record IsListFrom {S C Q P E K : Type 0} (rules : Rules S C Q P E K) (J : List E) (sessions : ℕ) (entries : List E) : Type 0 where
  pub goes_on : IsPrefix J entries
  pub sound : IsSound rules entries
  pub numbered : is_numbered rules.tag_of [] entries ≡ true
  pub own : (session : ℕ) → sessions ≤ session → calls_of rules.tag_of session entries ≡ calls_of rules.tag_of session J

-- over the rules of a machine, and what one message may be answered
module _ {S C Q P E K : Type 0} (rules : Rules S C Q P E K) (row : RowOf E) where
  -- Each link that the port handed out was served once, to an end, and given back; where accepting didn't fail, no known link is to come.
  abbrev pub HasKeptPort : Users → List E → List Receipt → KeptShift E → Type 0
  HasKeptPort users J had shift = ServesPort (KeepsLink rules row) (kept_returner rules users shift.number J had) shift.stopped shift.before shift.after shift.failed

  -- A worker served the links of its port by the session of that number, of a hub with that one list that began with the journal J, with
  -- that receipt in hand at first. These are all receipts that were given, and so many calls of the device have failed.
  pub record HasWorkedKept (users : Users) (J one : List E) (first : Receipt) (receipts : List Receipt) (faults : ℕ) (shift : KeptShift E) : Type 0 where
    pub links : HasKeptPort users J (first ∷ []) shift
    -- those in hand behind its last link are the first ones that were given
    pub in_hand : IsPrefix shift.stopped.receipts receipts
    -- all that its session saw begins the one list, which has just its calls
    pub within : IsPrefix shift.stopped.desk.known.front one
    pub calls : HasItsCalls rules one shift.stopped.desk.known
    pub exchanges : List (List Exchange)
    pub each : AllZip (λ visit exchanges. OnVisit visit exchanges) links.links.visits exchanges
    -- The messages of all these links, one link after another: each has a row at a point of the one list, and before anything of a reply was
    -- sent its link was shown a receipt for its point; neither the points nor the receipts ever go back, not even from one link to the next.
    -- They begin where the journal J ends.
    pub joined : HasKeptAndTold row users (kept_returner rules users shift.number J (first ∷ [])) (length J) (all_sendings links.links.visits exchanges)
        (at_kept (at_desk users (seeing shift.stopped.desk.known one)) shift.stopped.tells_of receipts shift.stopped.failed)
    -- a reply was withheld because keeping failed only where a call of the device has failed
    pub withheld : AllByRecursion (λ visit. HasCause (0 < faults) visit.end) links.links.visits

  -- The links of these ports were served by the first sessions of a hub which began with the journal J and was then closed. What was written
  -- of entries is on this device.
  pub record ServesKept {D : Type 0} (text : List E → List ℕ) (moment : D → ℕ) (left_since : D → ℕ → List ℕ → Type 0) (faults : D → ℕ)
      (users : Users) (J : List E) (before after : List PortTold) (failed : Bool) (device : D) : Type 0 where
    -- one list, the journal of the closed hub, which goes on from J, with no further entry but those of a session for each port
    pub one : List E
    pub list : IsListFrom rules J (length before) one
    -- All receipts that were given. From the moment of each on, which has come, every crash leaves a beginning of the one list with at least
    -- the entries that it is for. The first one is for J.
    pub receipts : List Receipt
    pub kept : AreKept text moment left_since device one receipts
    pub first : Receipt
    pub first_is : IsPrefix (first ∷ []) receipts
    pub first_for : first.count ≡ length J
    -- one worker for each port, with the session of its number
    pub shifts : List (KeptShift E)
    pub worked : AllByRecursion (HasWorkedKept users J one first receipts (faults device)) shifts
    pub numbers : map (λ shift. shift.number) shifts ≡ range_with_len 0 (length before)
    pub handed : map (λ shift. shift.before) shifts ≡ before
    pub back : map (λ shift. shift.after) shifts ≡ after
    pub some_failed : failed ≡ list_any (λ shift. shift.failed) shifts

  -- ---- for clauses of what leads there

  -- All links of one session, one after another, from a point of the front that it had before the first.
  pub record KeptJoins (old new : AtKept E) (visits : List Visit) (point : ℕ) : Type 0 where
    pub users : new.desk.users ≡ old.desk.users
    pub exchanges : List (List Exchange)
    pub each : AllZip (λ visit exchanges. OnVisit visit exchanges) visits exchanges
    pub joined : HasKeptAndTold row old.desk.users old point (all_sendings visits exchanges) new

  -- Workers with sessions of these numbers, of a hub that began with this journal, served these ports, with these receipts in hand at first.
  pub record HaveKept (users : Users) (J : List E) (had : List Receipt) (numbers : List ℕ) (stopped : List (AtKept E)) (before after : List PortTold) (failed : Bool) : Type 0 where
    pub shifts : List (KeptShift E)
    pub served : AllByRecursion (HasKeptPort users J had) shifts
    pub numbers_are : map (λ shift. shift.number) shifts ≡ numbers
    pub stopped_are : map (λ shift. shift.stopped) shifts ≡ stopped
    pub handed : map (λ shift. shift.before) shifts ≡ before
    pub back : map (λ shift. shift.after) shifts ≡ after
    pub some_failed : failed ≡ list_any (λ shift. shift.failed) shifts
