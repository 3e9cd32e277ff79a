use Rattle.std.proofs.Common.{[], Some, refl, ap, ◌∙◌}
use Rattle.osm_change.specs.Change.{kind_of, names_listed}
use Rattle.osm_change.specs.declared.operations.Op.TheVariants.{Modify, Delete}
use Rattle.osm_change.proofs.Naming.{said-first}
use Rattle.osm_change.proofs.rows.row.Goals as goal

pub said-requires : goal.said-requires
said-requires c =
    let m = c.in-Modify in
    said-first c.args.change.now c.args.place (Modify m.name m.version m.content m.tags) (kind_of m.content) m.name (names_listed m.content) c.requires.well_formed (c.requires.operation ∙ ap Some m.is) refl

pub said-requires-in-Delete : goal.said-requires-in-Delete
said-requires-in-Delete c =
    let d = c.in-Delete in
    said-first c.args.change.now c.args.place (Delete d.kind d.name d.version d.if_unused) d.kind d.name [] c.requires.well_formed (c.requires.operation ∙ ap Some d.is) refl
