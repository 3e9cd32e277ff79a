-- What had happened on a link before it was read, and before its clock answered.
use Rattle.std.specs.Prelude.{◌≡◌, ℕ, ◌≤◌, List, [], ◌∷◌, ◌++◌, length}
use Rattle.osm_base.specs.declared.limits.TheConstants.{HEAD_LIMIT}
use Rattle.osm_outside.specs.Event.{Event, given, taken}
use Rattle.http_wire.specs.Message.{HasMessages}
use Rattle.http_wire.specs.End.{IsUnfinished}
use Rattle.http_link.specs.Exchange.{Exchange, messages_of, texts_from}
use Rattle.http_link.specs.Link.{GoesOn}

-- `body_limit` is the most bytes that a body may have.
module _ (body_limit : ℕ) where
  -- Each whole message was answered whole, nothing else was written, and the link could go on.
  pub record HasAnswered (exchanges : List Exchange) (events : List Event) : Type 0 where
    pub done : List Exchange
    pub later : List Exchange
    pub exchanges_are : exchanges ≡ done ++ later
    pub going_on : GoesOn done
    pub kept : List ℕ
    pub messages : HasMessages body_limit (given events) (messages_of done) kept
    pub unfinished : IsUnfinished body_limit kept
    pub replies : taken events ≡ texts_from 0 done

  -- The next message is whole, each before it was answered whole, and nothing of its own reply was written.
  pub record HasNext (exchanges : List Exchange) (events : List Event) (moment : ℕ) : Type 0 where
    pub done : List Exchange
    pub next : Exchange
    pub later : List Exchange
    pub exchanges_are : exchanges ≡ done ++ next ∷ later
    pub going_on : GoesOn done
    pub moment_is : next.moment ≡ moment
    pub kept : List ℕ
    pub messages : HasMessages body_limit (given events) (messages_of (done ++ next ∷ [])) kept
    pub limit : length kept ≤ HEAD_LIMIT
    pub replies : taken events ≡ texts_from 0 done
