use Rattle.std.proofs.Common.{◌≡◌, inr, Ok, Err, sym, ap, ◌∙◌, rules, w64}
use mir.Val.{SFits}
use Rattle.std.proofs.lemmas.Int.{to_z-of_z}
use Rattle.std.proofs.lemmas.Result.{err_from_is_err_and}
use Rattle.placeholder_map.specs.Placeholders.{look_of}
use Rattle.osm_change.specs.Build.{name_of, local_cause}
use Rattle.osm_change.proofs.Steps.{modified-stops, modified-goes, modified-unnamed, versioned, later_of}
use Rattle.osm_change.proofs.build.modified.Goals.{in-Some, in-None}
use Rattle.osm_change.proofs.build.modified.Goals as goal

pub returns-in_err-name : goal.returns-in_err-name
returns-in_err-name c =
    let p = err_from_is_err_and c.from_residual.result c.from_residual.ensures.1 in
    let fits : SFits w64 c.args.op.id = search rules in
    let unnamed : name_of (look_of c.args.placeholders.now) c.args.op.kind c.args.op.id ≡ Err c.in_err-name.field-0.0 = sym (simp to_z-of_z at c.in_err-name.ensures) in
    rw (p.1, p.2) (inr (modified-unnamed (look_of c.args.placeholders.now) c.args.op c.args.content c.in_err-name.field-0.0 unnamed))

pub returns-in_err-content : goal.returns-in_err-content
returns-in_err-content c =
    let p = err_from_is_err_and c.from_residual-in_err-content.result c.from_residual-in_err-content.ensures.1 in
    let fits : SFits w64 c.args.op.id = search rules in
    let named : name_of (look_of c.args.placeholders.now) c.args.op.kind c.args.op.id ≡ Ok c.in_ok-name.name = sym (simp to_z-of_z at c.in_ok-name.ensures) in
    let local = local_cause c.args.op.tags c.args.content in
    let later : c.match-op-4.later ≡ later_of c.args.op.version local = elim c.match-op-4.branch [ in-Some w ↦ w.later-is ∙ c.local_cause-local.ensures.value ∙ sym (ap (λ v. later_of v local) w.in-Some.is) | in-None w ↦ w.later-is ∙ sym (ap (λ v. later_of v local) w.in-None.is) ] in
    rw (p.1, p.2) (modified-stops (look_of c.args.placeholders.now) c.args.op c.args.content c.match-op-4.later c.in_err-content.field-0.0 c.in_ok-name.name named later c.in_err-content.ensures)

pub returns-in_err-version : goal.returns-in_err-version
returns-in_err-version c =
    let local = local_cause c.args.op.tags c.args.content in
    let later : c.match-op-4.later ≡ later_of c.args.op.version local = elim c.match-op-4.branch [ in-Some w ↦ w.later-is ∙ c.local_cause-local.ensures.value ∙ sym (ap (λ v. later_of v local) w.in-Some.is) | in-None w ↦ w.later-is ∙ sym (ap (λ v. later_of v local) w.in-None.is) ] in
    absurd (versioned (look_of c.args.placeholders.now) c.args.content c.match-op-4.later c.in_ok-content.content c.args.op.version local later c.in_ok-content.ensures c.in_err-version.ensures.ok_part)

pub returns : goal.returns
returns c =
    let fits : SFits w64 c.args.op.id = search rules in
    let named : name_of (look_of c.args.placeholders.now) c.args.op.kind c.args.op.id ≡ Ok c.in_ok-name.name = sym (simp to_z-of_z at c.in_ok-name.ensures) in
    let local = local_cause c.args.op.tags c.args.content in
    let later : c.match-op-4.later ≡ later_of c.args.op.version local = elim c.match-op-4.branch [ in-Some w ↦ w.later-is ∙ c.local_cause-local.ensures.value ∙ sym (ap (λ v. later_of v local) w.in-Some.is) | in-None w ↦ w.later-is ∙ sym (ap (λ v. later_of v local) w.in-None.is) ] in
    modified-goes (look_of c.args.placeholders.now) c.args.op c.args.content c.match-op-4.later c.in_ok-name.name c.in_ok-content.content c.in_ok-version.version named later c.in_ok-content.ensures c.in_ok-version.ensures.ok_part
