use Rattle.std.proofs.Common.{◌≡◌, ◌≤◌, ℕ, true, sym, ap, ◌∙◌, subst, arith}
use Rattle.std.specs.Prelude.{slice_index}
use Rattle.osm_model.specs.Act.{judge}
use Rattle.osm_model.specs.Journal.{after, takes}
use Rattle.osm_model.specs.declared.states.State.{State}
use Rattle.osm_world.specs.Records.{rooms}
use Rattle.osm_world.specs.World.{Parts, stored_state, state_of}
use Rattle.osm_world.proofs.Judging.{accepted}
use Rattle.osm_world.proofs.Applied.{taken_ok, stamp_timely, after_is, kept_after}
use Rattle.osm_world.proofs.worlds.World.apply.Goals as goal

pub apply-requires-clause-accepted : goal.apply-requires-clause-accepted
apply-requires-clause-accepted c =
    let T : Parts → Type 0 = λ W. takes (state_of W) c.args.entry ≡ true in
    taken_ok (stored_state c.self.inside.stores) c.args.entry (subst T (sym c.self.view_is) c.requires.accepted)

pub apply-requires-clause-timely : goal.apply-requires-clause-timely
apply-requires-clause-timely c =
    let T : Parts → Type 0 = λ W. takes (state_of W) c.args.entry ≡ true in
    stamp_timely (stored_state c.self.inside.stores) c.args.entry (subst T (sym c.self.view_is) c.requires.accepted) c.self.invariant.kept.timely.last

pub invariant_of-self : goal.invariant_of-self
invariant_of-self c =
    let P : State = stored_state c.self.inside.stores in
    let e = c.args.entry in
    let T : Parts → Type 0 = λ W. takes (state_of W) e ≡ true in
    let taken : takes P e ≡ true = subst T (sym c.self.view_is) c.requires.accepted in
    let ok = accepted (judge P e.user e.stamp e.command) (taken_ok P e taken) in
    record {
      kept = kept_after P e (stored_state c.apply.new.self) (c.apply.ensures.done ok.0 ok.1 ∙ sym (after_is P e ok.0 taken ok.1))
          c.entries_keep_maps.ensures.elements c.entries_keep_maps.ensures.moments c.entries_keep_maps.ensures.attributed c.entries_keep_maps.ensures.stamped c.self.invariant.kept;
      numbered = c.apply.ensures.numbered;
      work = λ i other. nothing (slice_index (rooms c.self.inside.stores.changesets.items) i) (slice_index (rooms c.apply.new.self.changesets.items) i) (c.self.invariant.work i other) (c.apply.ensures.rooms i);
    }
  where
    nothing : (n m : ℕ) → n ≡ 0 → m ≤ n → m ≡ 0
    nothing n m e le = omega (arith, e, le)

pub returns-clause-done : goal.returns-clause-done
returns-clause-done c =
    let P : State = stored_state c.self.inside.stores in
    let e = c.args.entry in
    let T : Parts → Type 0 = λ W. takes (state_of W) e ≡ true in
    let taken : takes P e ≡ true = subst T (sym c.self.view_is) c.requires.accepted in
    let ok = accepted (judge P e.user e.stamp e.command) (taken_ok P e taken) in
    c.forget.ensures.same
    ∙ c.apply.ensures.done ok.0 ok.1
    ∙ sym (after_is P e ok.0 taken ok.1)
    ∙ ap (λ (W : Parts). after (state_of W) e) c.self.view_is
