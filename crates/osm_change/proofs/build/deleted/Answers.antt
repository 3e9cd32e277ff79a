use Rattle.std.proofs.Common.{◌≡◌, inr, Ok, Err, sym, rules, w64}
use mir.Val.{SFits}
use Rattle.std.proofs.lemmas.Int.{to_z-of_z}
use Rattle.std.proofs.lemmas.Result.{err_from_is_err_and}
use Rattle.placeholder_map.specs.Placeholders.{look_of}
use Rattle.osm_change.specs.Build.{name_of}
use Rattle.osm_change.proofs.Steps.{deleted-unnamed, deleted-goes}
use Rattle.osm_change.proofs.build.deleted.Goals as goal

pub returns-in_err-name : goal.returns-in_err-name
returns-in_err-name c =
    let p = err_from_is_err_and c.from_residual.result c.from_residual.ensures.1 in
    let fits : SFits w64 c.args.op.now.id = search rules in
    let unnamed : name_of (look_of c.args.placeholders.now) c.args.op.now.kind c.args.op.now.id ≡ Err c.in_err-name.field-0.0 = sym (simp to_z-of_z at c.in_err-name.ensures) in
    rw (p.1, p.2) (inr (deleted-unnamed (look_of c.args.placeholders.now) c.args.op.now c.args.if_unused c.in_err-name.field-0.0 unnamed))

pub returns : goal.returns
returns c =
    let fits : SFits w64 c.args.op.now.id = search rules in
    let named : name_of (look_of c.args.placeholders.now) c.args.op.now.kind c.args.op.now.id ≡ Ok c.in_ok-name.name = sym (simp to_z-of_z at c.in_ok-name.ensures) in
    deleted-goes (look_of c.args.placeholders.now) c.args.op.now c.args.if_unused c.in_ok-name.name c.in_ok-version.version named c.in_ok-version.ensures.ok_part
