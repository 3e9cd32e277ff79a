use Rattle.std.proofs.Common.{pos, inr, sym, ◌∙◌, rules, w64}
use Rattle.std.proofs.Math.ListN.{get_or}
use mir.Val.{SFits}
use Rattle.std.proofs.lemmas.Int.{to_z-of_z}
use Rattle.std.proofs.lemmas.Result.{err_from_is_err_and}
use Rattle.osm_base.specs.declared.keys.Kind.TheVariants.{Node}
use Rattle.placeholder_map.specs.Placeholders.{look_of}
use Rattle.osm_change.specs.Build.{name_of}
use Rattle.osm_change.proofs.Each.{each-step-at, each-stop-at}
use Rattle.osm_change.proofs.build.names_of.Goals as goal

pub returns-in_err-name_of : goal.returns-in_err-name_of
returns-in_err-name_of c =
    let fits : SFits w64 (get_or c.args.ids.now c.loop-id.id-index (pos 0)) = search rules in
    let e = simp to_z-of_z at c.in_err-name_of.ensures in
    let stop = each-stop-at (name_of (look_of c.args.placeholders.now) Node) c.args.ids.now c.loop-id.id-index (pos 0) c.loop-id.names.items c.in_err-name_of.field-0.0 c.loop-id-test.true (sym e) in
    let p = err_from_is_err_and c.from_residual-in_err-name_of.result c.from_residual-in_err-name_of.ensures.1 in
    rw (p.1, p.2) (inr (c.loop-id.invariant ∙ stop))

pub loop-id-preserved : goal.loop-id-preserved
loop-id-preserved c =
    let fits : SFits w64 (get_or c.args.ids.now c.loop-id.id-index (pos 0)) = search rules in
    let e = simp to_z-of_z at c.in_ok-name_of.ensures in
    c.loop-id.invariant ∙ each-step-at (name_of (look_of c.args.placeholders.now) Node) c.args.ids.now c.loop-id.id-index (pos 0) c.loop-id.names.items c.push.new.self.items c.in_ok-name_of.field-0 c.loop-id-test.true (sym e) c.in_ok-push.ensures.items
