use Rattle.std.proofs.Common.{◌++◌, ◌∷◌, [], ap, ◌∙◌}
use Rattle.std.specs.Prelude.{filter_map}
use Rattle.osm_change.specs.declared.reads.VersionId.{VersionId}
use Rattle.osm_element.specs.Elements.{key}
use Rattle.osm_model.specs.Ask.{element_row}
use Rattle.osm_model.specs.Reads.{current_shown}
use Rattle.osm_world.specs.World.{state_of}
use Rattle.map_machine.proofs.RowSteps.{mapped_step}
use Rattle.map_machine.proofs.world_rows.add_current.Goals as goal

pub loop-id-preserved : goal.loop-id-preserved
loop-id-preserved c =
    let P = state_of c.args.world.now in
    mapped_step (element_row P) (λ id. current_shown P.elements (key c.args.kind id)) c.args.ids.now c.loop-id.id-index 0 c.args.rows.now.items c.loop-id.rows.items c.add_row.new.rows.items c.loop-id-test.true c.loop-id.invariant
    (c.in_ok-add_row.ensures ∙ ap (λ (s : VersionId). c.loop-id.rows.items ++ filter_map (element_row P) (s ∷ [])) c.current-shown.ensures)
