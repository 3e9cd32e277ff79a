use Rattle.std.proofs.Common.{List, length, sym, ap, subst, ◌∙◌}
use Rattle.osm_base.specs.declared.keys.Key.{Key}
use Rattle.osm_world.specs.World.{state_of}
use Rattle.upload_check.specs.Effects.{holds_of, IsRevised}
use Rattle.upload_check.specs.Overlay.{Notes, Overlaid, sight, standing_in}
use Rattle.upload_check.proofs.Placed.{applied_placed}
use Rattle.upload_check.proofs.overlays.Overlay.place.Goals as goal

pub returns-clause-notes : goal.returns-clause-notes
returns-clause-notes c =
    let E = (state_of c.args.world.now).elements in
    let same = ap (λ (o : Overlaid). o.notes) c.self.view_is in
    applied_placed (sight E c.args.operations.now c.args.self.now) c.args.operation.now c.args.key c.args.moved.to c.holds_of-holds.result c.revise.new.standings
    c.requires.listed
    c.requires.to
    (c.holds_of-holds.ensures ∙ ap (λ (ks : List Key). holds_of (length ks) c.args.operation.now) c.keys.ensures)
    (subst (λ (n : Notes). IsRevised E c.args.key c.holds_of-holds.result n c.revise.new.standings) same
    (c.in_ok-revise.ensures.revised E (c.requires.stood ∙ ap (λ (n : Notes). standing_in E n c.args.key) (sym same))))
