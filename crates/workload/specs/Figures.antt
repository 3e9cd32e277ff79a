-- The numbers of a journal and of the map that it makes.
use Rattle.std.specs.Prelude.{ℕ, count_by, length}
use Rattle.osm_base.specs.declared.keys.Kind.{Kind}
use Rattle.osm_base.specs.declared.keys.Kind.TheVariants.{Node, Way, Relation}
use Rattle.osm_element.specs.Elements.{key, keys_to, histories, is_visible, position}
use Rattle.osm_element.specs.declared.elements.Elements.{Elements}
use Rattle.workload.specs.declared.figures.Figures.{Figures}

-- how many of the elements of a kind are visible
abbrev pub visible_count : Elements → Kind → ℕ
visible_count E kind = count_by (is_visible E) (keys_to kind (length (histories E kind)))

-- the figures of the elements that so many entries made
abbrev pub figures_of : Elements → ℕ → Figures
figures_of E entries = record {
  entries = entries;
  nodes = visible_count E Node;
  ways = visible_count E Way;
  relations = visible_count E Relation;
  first = position E (key Node 1);
}
