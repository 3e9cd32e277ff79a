-- What serving one link by a session of a hub does, for any machine; and what serving a link by a new hub does.
use Rattle.std.specs.Prelude.{◌≡◌, ℕ, ◌≤◌, ◌⊎◌, true, List, [], length, take, Option, Some, None}
use Rattle.osm_outside.specs.Told.{Told, finding}
use Rattle.http_link.specs.declared.end.LinkEnd.{LinkEnd}
use Rattle.http_link.specs.declared.end.LinkEnd.TheVariants.{Memory}
use Rattle.http_link.specs.Exchange.{Exchange}
use Rattle.http_link.specs.Link.{TellsAll}
use Rattle.link_workers.specs.Port.{Visit}
use Rattle.machine_law.specs.Rules.{Rules, replay, is_legal}
use Rattle.hub_core.specs.Journal.{calls_of, is_numbered}
use Rattle.snapshot_hub.specs.Known.{Known, newcomer}
use Rattle.server_frame.specs.OnLink.{OnLink}
use Rattle.user_table.specs.Users.{Users}
use Rattle.session_desk.specs.Answered.{AtDesk, RowOf, IsFresh, HasServed}

-- What happened on a link that was served to its end, with these exchanges: first of all it was told how many entries a journal had
-- that was found, or there was no memory to find one.
pub record OnVisit (visit : Visit) (exchanges : List Exchange) : Type 0 where
  pub found : Option ℕ
  pub link : OnLink (finding found visit.came) visit.went exchanges visit.end

-- The session was freshened: its front is the journal that was found, and so many entries the link was told of.
pub record HasStarted {S C Q P E K : Type 0} (rules : Rules S C Q P E K) (old start : Known E) (found : Option ℕ) : Type 0 where
  pub fresh : IsFresh rules old start
  pub whole : found ≡ Some (length start.front)

-- There was no memory to freshen the session, and the link was left alone.
pub record LacksStart {E : Type 0} (old start : Known E) (found : Option ℕ) (before after : Told) (exchanges : List Exchange) (end : LinkEnd) : Type 0 where
  pub stays : start ≡ old
  pub unfound : found ≡ None
  pub nothing : exchanges ≡ []
  pub untouched : after ≡ before
  pub ended : end ≡ Memory

module _ {S C Q P E K : Type 0} (rules : Rules S C Q P E K) where
  -- A list of entries replays as one thread's, and what the machine keeps holds after every entry.
  pub record IsSound (entries : List E) : Type 0 where
    pub legal : is_legal rules entries ≡ true
    pub consistent : (point : ℕ) → rules.consistent (replay rules (take point entries))

  -- The one list of a hub of so many sessions, numbered from 0: it is sound, the calls of each session stand in it numbered 1, 2, 3 and
  -- so on, and it has no entry but those of these sessions.
  pub record IsListOf (sessions : ℕ) (entries : List E) : Type 0 where
    pub sound : IsSound entries
    pub numbered : is_numbered rules.tag_of [] entries ≡ true
    pub own : (session : ℕ) → sessions ≤ session → calls_of rules.tag_of session entries ≡ 0

  -- the entries have just the calls that the session made
  abbrev pub HasItsCalls : List E → Known E → Type 0
  HasItsCalls entries it = it.calls ≡ calls_of rules.tag_of it.number entries

-- over the rules of a machine, and what one message may be answered
module _ {S C Q P E K : Type 0} (rules : Rules S C Q P E K) (row : RowOf E) where
  -- The link was served to that end by a session of a hub, by the users of the desk, at moments that its clock answered.
  pub record ServesLink (old new : AtDesk E) (before after : Told) (end : LinkEnd) : Type 0 where
    -- the messages that were answered, with their moments and replies
    pub exchanges : List Exchange
    -- how many entries the journal had that was found under the lock: the first that happened on the link is that it was told so
    pub found : Option ℕ
    pub link : OnLink (finding found before) after exchanges end
    pub users : new.users ≡ old.users
    -- what the session knew before the first message: it had been freshened and had seen what was found, or there was no memory for that
    pub start : Known E
    pub started : HasStarted rules old.known start found ⊎ LacksStart old.known start found before after exchanges end
    -- Wherever in the front of its start it was last answered, up to the whole of it, and so up to all that was found: each message has a
    -- row at a point of the session's front at the exit; the points begin there and never go back
    pub served : (point : ℕ) → point ≤ length start.front → HasServed row old.users start point exchanges new.known
    pub front : IsSound rules new.known.front

  -- The link was served so, and no reply was withheld.
  pub record TellsLink (old new : AtDesk E) (before after : Told) (end : LinkEnd) : Type 0 where
    pub serves : ServesLink old new before after end
    pub tells : TellsAll end

  -- The link was served to that end by the one session of a new hub, which was then closed.
  pub record ServesPipe (users : Users) (before after : Told) (end : LinkEnd) : Type 0 where
    -- the messages that were answered, with their moments and replies
    pub exchanges : List Exchange
    -- how many entries were found before the first message, as the link was told
    pub found : Option ℕ
    pub link : OnLink (finding found before) after exchanges end
    -- no reply was withheld
    pub tells : TellsAll end
    -- one list, the journal of the closed hub, with no entry but those of the one session
    pub one : List E
    pub list : IsListOf rules 1 one
    -- what the session knew at last: it has seen that whole list, which has just its calls
    pub session : Known E
    pub whole : session.front ≡ one
    pub calls : HasItsCalls rules one session
    -- each message has a row at a point of that list; the points never go back
    pub served : HasServed row users (newcomer 0) 0 exchanges session
