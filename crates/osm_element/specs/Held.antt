-- What a version lends of what it holds.
use Rattle.std.specs.Prelude.{ℕ}
use Rattle.osm_element.specs.declared.contents.Content.{Content}
use Rattle.osm_element.specs.declared.contents.Content.TheVariants as content
use Rattle.osm_element.specs.declared.contents.Held.{Held}
use Rattle.osm_element.specs.declared.contents.Held.TheVariants.{Node, Way, Relation}

-- the content that is borrowed
abbrev pub held_content : Held → Content ℕ
held_content (Node at) = content.Node at
held_content (Way nodes) = content.Way nodes.now
held_content (Relation members) = content.Relation members.now
