-- The moments that a map keeps are bounded.
use Rattle.std.specs.Prelude.{All}
use Rattle.osm_element.specs.Elements.{EachVersion}
use Rattle.osm_element.specs.Version.{Version}
use Rattle.changeset_core.specs.Timely.{IsTimelyMoment, IsTimelyRecord}
use Rattle.osm_model.specs.declared.states.State.{State}

abbrev pub HasTimelyStamp : Version → Type 0
HasTimelyStamp v = IsTimelyMoment v.stamp

-- all moments of a map
pub record IsTimely (P : State) : Type 0 where
  pub last : IsTimelyMoment P.last
  pub changesets : All IsTimelyRecord P.changesets
  pub versions : EachVersion HasTimelyStamp P.elements
