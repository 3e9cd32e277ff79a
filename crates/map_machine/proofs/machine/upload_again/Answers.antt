use Rattle.std.proofs.Common.{ap, ◌∙◌}
use Rattle.osm_world.specs.World.{state_of}
use Rattle.upload_check.specs.Commands.{command_of}
use Rattle.upload_check.specs.Asked.{AskedUpload}
use Rattle.map_machine.proofs.machine.upload_again.Goals as goal

pub settle_upload-requires-clause-foreseen : goal.settle_upload-requires-clause-foreseen
settle_upload-requires-clause-foreseen g c =
    let T = state_of c.args.world.now in
    record { begun = T; planned = c.in_ok-plan.ensures.planned.planned; later = c.maps_follow_themselves.ensures T }

pub returns : goal.returns
returns g c = λ begun asked up.
    let T = state_of c.args.world.now in
    let is = c.in_ok-plan.ensures.planned in
    c.settle_upload.ensures T asked
    (record {
      user = ap (λ (a : AskedUpload). a.user) is.asked ∙ up.user;
      command = ap (λ (a : AskedUpload). command_of a) is.asked ∙ up.command;
      planned = is.planned;
    })
    (c.maps_follow_themselves.ensures T)
