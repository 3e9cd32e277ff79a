-- What serving one link does by a session whose replies are sent only once what they tell of is kept.
use Rattle.std.specs.Prelude.{◌≡◌, ℕ, ◌≤◌, length}
use Rattle.osm_outside.specs.Told.{Told}
use Rattle.http_link.specs.declared.end.LinkEnd.{LinkEnd}
use Rattle.machine_law.specs.Rules.{Rules}
use Rattle.session_desk.specs.Answered.{RowOf}
use Rattle.kept_desk.specs.Kept.{AtKept, sendings, HasWithheld, HasKeptAndTold}
use Rattle.desk_serve.specs.Link.{ServesLink}

-- over the rules of a machine, and what one message may be answered
module _ {S C Q P E K : Type 0} (rules : Rules S C Q P E K) (row : RowOf E) where
  -- The link was served as by any desk, and before anything of a reply was sent it was shown a receipt for the reply's point.
  pub record KeepsLink (old new : AtKept E) (before after : Told) (end : LinkEnd) : Type 0 where
    pub serves : ServesLink rules row old.desk new.desk before after end
    -- what the desk kept before the first message: its session is that start, and its receipts are those that it had
    pub start : AtKept E
    pub known : start.desk.known ≡ serves.start
    pub users : start.desk.users ≡ old.desk.users
    pub receipts : start.receipts ≡ old.receipts
    pub failed : start.failed ≡ old.failed
    -- wherever in the front of its start the session was last answered
    pub kept : (point : ℕ) → point ≤ length serves.start.front → HasKeptAndTold row old.desk.users start point (sendings end serves.exchanges) new
    -- where the last reply was withheld, there was a cause
    pub withheld : HasWithheld end new
