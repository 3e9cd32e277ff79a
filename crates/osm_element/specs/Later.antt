-- What later commands leave of the elements.
use Rattle.std.specs.Prelude.{◌≡◌, ℕ, ◌≤◌, ◌<◌, List, ◌++◌, map, Option}
use Rattle.osm_base.specs.declared.keys.Kind.{Kind}
use Rattle.osm_base.specs.declared.keys.Key.{Key}
use Rattle.osm_element.specs.Elements.{next_id, history, count, IsConsistent}
use Rattle.osm_element.specs.declared.contents.Content.{Content}
use Rattle.osm_element.specs.declared.elements.Elements.{Elements}

-- what the versions of an element hold, redacted or not
abbrev pub contents : Elements → Key → List (Option (Content ℕ))
contents E k = map (λ v. v.content) (history E k)

-- each id that was given has a version
pub record IsBegun (E : Elements) : Type 0 where
  pub begun : (k : Key) → 0 < k.id → k.id < next_id E k.kind → 0 < count E k

-- no id is taken back, and histories only grow
pub record IsLater (E F : Elements) : Type 0 where
  pub grown : (kind : Kind) → next_id E kind ≤ next_id F kind
  pub kept : (k : Key) → (more : List (Option (Content ℕ))) × (contents F k ≡ contents E k ++ more)

-- what every accepted command keeps of the elements
pub record Keeps (E F : Elements) : Type 0 where
  pub later : IsLater E F
  pub consistent : IsConsistent E → IsConsistent F
  pub begun : IsBegun E → IsBegun F
