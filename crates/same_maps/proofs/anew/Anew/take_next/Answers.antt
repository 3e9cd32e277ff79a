use Rattle.std.proofs.Common.{◌≡◌, ◌<◌, true, ap, sym, subst, ◌∙◌, get_or, length}
use Rattle.osm_model.specs.Journal.{takes}
use Rattle.osm_model.specs.declared.states.State.{State}
use Rattle.same_maps.proofs.Points.{taken-at}
use Rattle.same_maps.proofs.anew.Anew.take_next.Goals as goal

pub apply-requires-clause-accepted : goal.apply-requires-clause-accepted
apply-requires-clause-accepted c =
    let es = c.self.inside.journal.now in
    let i = c.self.inside.seen in
    let d = c.index-entries-self.result in
    let e = c.in_ok-entry.entry in
    let within : i < length es = rw (ap (λ a. a.seen) c.self.view_is, ap (λ a. a.entries) c.self.view_is) c.requires in
    let taken = taken-at es i e d c.entries.ensures.legal within (c.in_ok-entry.ensures ∙ c.index-entries-self.is ∙ ap (λ j. get_or j i d) c.entries.ensures.all) in
    subst (λ (P : State). takes P e ≡ true) (sym (c.make_room.ensures.same ∙ c.self.invariant.stands)) taken
