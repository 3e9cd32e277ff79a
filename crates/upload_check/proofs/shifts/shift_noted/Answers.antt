use Rattle.std.proofs.Common.{sym, ap}
use Rattle.std.specs.Prelude.{Option, is_some, unwrap_or}
use Rattle.osm_world.specs.World.{state_of}
use Rattle.upload_check.specs.Overlay.{standing_before}
use Rattle.upload_check.specs.declared.standings.Standing.{Standing}
use Rattle.upload_check.proofs.Shifted.{shifted_one}
use Rattle.upload_check.proofs.shifts.shift_noted.Goals as goal

pub change-requires : goal.change-requires
change-requires c = ap is_some c.requires.noted

pub returns-clause-shifted : goal.returns-clause-shifted
returns-clause-shifted c =
    let E = (state_of c.args.world.now).elements in
    shifted_one c.args.shift E c.args.standings.now c.change.new.self c.args.used c.args.standing c.in_ok-users.users
    (sym (ap (λ (o : Option Standing). unwrap_or o (standing_before E c.args.used)) c.requires.noted))
    c.in_ok-users.ensures.goes c.in_ok-users.ensures.back c.change.ensures
