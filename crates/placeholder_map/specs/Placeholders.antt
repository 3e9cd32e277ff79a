-- The placeholders of an upload, for each kind of element.
use Rattle.std.specs.Prelude.{ℕ, ℤ, Bool, [], Option}
use Rattle.osm_base.specs.declared.keys.Kind.{Kind}
use Rattle.osm_base.specs.declared.keys.Kind.TheVariants.{Node, Way, Relation}
use Rattle.placeholder_map.specs.Bindings.{Bindings, place_in, is_bound_in, with_binding}

pub record Placeholders : Type 0 where
  pub nodes : Bindings
  pub ways : Bindings
  pub relations : Bindings

abbrev pub no_placeholders : Placeholders
no_placeholders = record { nodes = []; ways = []; relations = [] }

abbrev pub bindings : Placeholders → Kind → Bindings
bindings m Node = m.nodes
bindings m Way = m.ways
bindings m Relation = m.relations

-- the place that a placeholder of a kind is bound to
abbrev pub look_of : Placeholders → Kind → ℤ → Option ℕ
look_of m kind placeholder = place_in (bindings m kind) placeholder

abbrev pub is_bound : Placeholders → Kind → ℤ → Bool
is_bound m kind placeholder = is_bound_in (bindings m kind) placeholder

-- with the placeholder bound, unless it is bound already
abbrev pub bound : Placeholders → Kind → ℤ → ℕ → Placeholders
bound m Node placeholder place = record m { nodes = with_binding m.nodes placeholder place }
bound m Way placeholder place = record m { ways = with_binding m.ways placeholder place }
bound m Relation placeholder place = record m { relations = with_binding m.relations placeholder place }
