-- The rows of elements, as contracts see them: what a row borrows is part of its value.
use Rattle.std.specs.Prelude.{ℕ}
use Rattle.osm_base.specs.declared.keys.Key.{Key}
use Rattle.osm_base.specs.declared.people.Owner.{Owner}
use Rattle.osm_element.specs.Version.{Version}

-- a version of an element, and the owner of its changeset
pub record ShownVersion : Type 0 where
  pub key : Key
  pub number : ℕ
  pub version : Version
  pub owner : Owner
