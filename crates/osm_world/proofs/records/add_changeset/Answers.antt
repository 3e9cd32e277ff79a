use Rattle.std.proofs.Common.{◌+◌, length, sym, ap, ◌∙◌, subst, List}
use Rattle.osm_base.specs.Row.{Row}
use Rattle.changeset_core.specs.Kept.{Kept}
use Rattle.osm_world.specs.Records.{AreNumbered}
use Rattle.osm_world.proofs.Uploaded.{numbered_push}
use Rattle.osm_world.proofs.records.add_changeset.Goals as goal

pub returns-clause-numbered : goal.returns-clause-numbered
returns-clause-numbered c was =
    let P : Row Kept → Type 0 = λ row. AreNumbered row.items in
    subst P (sym c.push.ensures)
    (numbered_push c.args.changesets.now.items c.new.result
    (ap (λ (k : Kept). k.id) c.new.ensures ∙ ap (λ (ks : List Kept). length ks + 1) c.items.ensures)
    was)
