-- What stays the same while the operations of an upload are judged.
use Rattle.std.specs.Prelude.{ℕ, List}
use Rattle.osm_element.specs.declared.elements.Elements.{Elements}
use Rattle.osm_change.specs.declared.operations.Op.{Op}

-- the elements before the upload, and the upload's changeset, stamp and operations
pub record Upload : Type 0 where
  pub before : Elements
  pub changeset : ℕ
  pub stamp : ℕ
  pub operations : List Op
