-- The stamps of versions never go back.
use Rattle.std.specs.Prelude.{ℕ, ◌≤◌, List, All}
use Rattle.std.specs.List.Sorted.{IsNonDecreasingBy}
use Rattle.osm_base.specs.declared.keys.Key.{Key}
use Rattle.osm_element.specs.Elements.{history}
use Rattle.osm_element.specs.Version.{Version}
use Rattle.osm_model.specs.declared.states.State.{State}

abbrev pub stamp_of : Version → ℕ
stamp_of v = v.stamp

-- along a history, and none is past the last one
pub record IsStampedTo (last : ℕ) (vs : List Version) : Type 0 where
  pub rising : IsNonDecreasingBy stamp_of vs
  pub within : All (λ v. v.stamp ≤ last) vs

-- all histories of a map
pub record IsStamped (P : State) : Type 0 where
  pub each : (k : Key) → IsStampedTo P.last (history P.elements k)
