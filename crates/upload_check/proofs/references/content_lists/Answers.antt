use Rattle.std.proofs.Common.{List, ap, sym, ◌∙◌}
use Rattle.std.specs.List.{list_any}
use Rattle.osm_base.specs.Key.{key_eq, lists_key}
use Rattle.osm_base.specs.declared.keys.Kind.TheVariants as kind
use Rattle.osm_element.specs.Elements.{key, refs}
use Rattle.osm_element.specs.declared.contents.Content.{Content}
use Rattle.osm_change.specs.Keys.{id_of}
use Rattle.osm_change.specs.declared.operations.Name.{Name}
use Rattle.osm_model.specs.Names.{with_ids}
use Rattle.upload_check.proofs.Named.{nodes_listed}
use Rattle.upload_check.proofs.references.content_lists.Goals as goal

pub returns-in-Way : goal.returns-in-Way
returns-in-Way c =
    c.nodes_list.ensures
    ∙ ap (λ (ns : List Name). list_any (λ name. key_eq (key kind.Node (id_of c.args.keys.now name)) c.args.used) ns) c.items.ensures
    ∙ sym (nodes_listed c.args.keys.now c.in-Way.nodes c.args.used)
    ∙ ap (λ (x : Content Name). lists_key (refs (with_ids c.args.keys.now x)) c.args.used) (sym c.in-Way.is)
