use Rattle.std.proofs.Common.{ℕ, List}
use Rattle.osm_outside.specs.Event.{Shown}
use Rattle.http_wire.specs.declared.message.Message.{Message}
use Rattle.http_link.specs.declared.desk.Reply.{Reply}
use Rattle.http_link.specs.declared.desk.Withheld.{Withheld}
use Rattle.http_link.specs.declared.end.LinkEnd.{LinkEnd}
use Rattle.http_link.specs.declared.end.LinkEnd.TheVariants as ends
use Rattle.http_link.specs.Exchange.{Exchange}
use Rattle.http_link.specs.Link.{AreTold, TellsAll}
use Rattle.http_link.proofs.law.always_tells.Goals as goal

tells_all : {D : Type 0} (allows : D → Message → ℕ → Reply → D → Type 0) (tells : D → Type 0) (shows : D → List Shown) (withholds : D → Withheld → Type 0)
    → ((it : D) (why : Withheld) → withholds it why → ⊥) → (start now : D) (exchanges : List Exchange) (end : LinkEnd)
    → AreTold allows tells shows withholds start exchanges now end → TellsAll end
tells_all allows tells shows withholds never start now exchanges ends.Ended h = tt
tells_all allows tells shows withholds never start now exchanges ends.Closed h = tt
tells_all allows tells shows withholds never start now exchanges ends.Budget h = tt
tells_all allows tells shows withholds never start now exchanges (ends.Refused why) h = tt
tells_all allows tells shows withholds never start now exchanges ends.ReadFault h = tt
tells_all allows tells shows withholds never start now exchanges ends.WriteFault h = tt
tells_all allows tells shows withholds never start now exchanges (ends.Unkept why) (front, last, mid, are, chain, is, unshown, cause) = never now why cause
tells_all allows tells shows withholds never start now exchanges ends.Memory h = tt

pub returns : goal.returns
returns g c start now exchanges end h =
    tells_all g.D.Desk.allows g.D.Desk.tells g.D.Desk.shows g.D.Desk.withholds g.met.D.AlwaysTells.never start now exchanges end h
