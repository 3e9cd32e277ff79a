use Rattle.std.proofs.Common.{◌≡◌, drop}
use Rattle.placeholder_map.specs.Placeholders.{look_of}
use Rattle.osm_base.specs.declared.keys.Kind.TheVariants.{Node}
use Rattle.osm_change.specs.Outcome.{each}
use Rattle.osm_change.specs.Build.{name_of}
use Rattle.osm_change.proofs.Each.{after}
use Rattle.osm_change.proofs.build.names_of.Given as goal

abbrev pub invariant-loop-id : goal.invariant-loop-id
invariant-loop-id l =
    each (name_of (look_of l.placeholders) Node) l.ids ≡ after l.names.items (each (name_of (look_of l.placeholders) Node) (drop l.id-index l.ids))
