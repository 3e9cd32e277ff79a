-- The laws of the map's rules that no call has to meet.
use Rattle.std.proofs.Common.{◌≡◌, ℕ, Bool, true, false, [], Result, Ok, Err, length, refl, ap, arith}
use Rattle.std.specs.Prelude.{IfSome, ◌&&◌, ◌==◌, is_ok}
use Rattle.std.proofs.lemmas.Bool.Decides.{nat_tests}
use Rattle.osm_base.specs.Stamp.{stamp_after}
use Rattle.osm_base.specs.declared.keys.Kind.{Kind}
use Rattle.osm_base.specs.declared.keys.Kind.TheVariants as kind
use Rattle.osm_change.specs.declared.refusals.Refusal.{Refusal}
use Rattle.osm_element.specs.Elements.{no_elements, histories}
use Rattle.osm_model.specs.Act.{Effect, judge}
use Rattle.osm_model.specs.Journal.{after, takes, entry_of}
use Rattle.osm_model.specs.State.{empty}
use Rattle.osm_model.specs.declared.commands.Entry.{Entry}
use Rattle.osm_model.specs.declared.states.State.{State}
use Rattle.osm_model.proofs.Replayed.{leads-after, point_consistent, replay_timely, replay_attributed}
use Rattle.osm_model.proofs.Stamped.{stamped-after, replay_stamped}
use Rattle.osm_world.specs.World.{IsKept}
use Rattle.machine_law.specs.declared.tags.Tag.{Tag}
use Rattle.map_machine.specs.Machine.{act_as, entry_if, tag_of}
use Rattle.map_machine.specs.declared.plans.Asked.{Asked}

both : (a b : Bool) → a ≡ true → b ≡ true → (a && b) ≡ true
both true b is also = also
both false b is also = is

stamp_again : (last moment : ℕ) → (stamp_after last (stamp_after last moment) == stamp_after last moment) ≡ true
stamp_again last moment = same _ _ (omega arith) where
  same : (a b : ℕ) → a ≡ b → (a == b) ≡ true
  same a b e = grind (arith, nat_tests)

-- the entry of an accepted command may come next, and carries the tag
pub accepted_taken :
    (P : State) (tag : Tag) (moment : ℕ) (asked : Asked)
    → IfSome (act_as P tag moment asked).entry (λ e. (takes P e ≡ true) × (tag_of e ≡ tag))
accepted_taken P tag moment asked = go (judge P asked.user at asked.command) refl where
  at : ℕ
  at = stamp_after P.last moment

  entry : Entry
  entry = entry_of P tag.session tag.call asked.user moment asked.command

  go : (judged : Result Effect Refusal) → judge P asked.user at asked.command ≡ judged → IfSome (entry_if judged entry) (λ e. (takes P e ≡ true) × (tag_of e ≡ tag))
  go (Ok done) is = (both (is_ok (judge P asked.user at asked.command)) (stamp_after P.last at == at) (ap (λ (r : Result Effect Refusal). is_ok r) is) (stamp_again P.last moment), refl)
  go (Err r) is = tt

no_histories : (k : Kind) → length (histories no_elements k) ≡ 0
no_histories kind.Node = refl
no_histories kind.Way = refl
no_histories kind.Relation = refl

-- the map before the first entry
pub empty_kept : IsKept empty
empty_kept = record {
  consistent = point_consistent [] 0;
  begun = record { begun = λ k counted below. absurd (omega (arith, counted, below, no_histories k.kind)) };
  timely = replay_timely [];
  attributed = replay_attributed [];
  stamped = replay_stamped [];
}

-- an entry keeps what maps keep
pub taken_kept : (P : State) (e : Entry) → takes P e ≡ true → IsKept P → IsKept (after P e)
taken_kept P e taken kept = record {
  consistent = (leads-after P e).kept.consistent kept.consistent;
  begun = (leads-after P e).kept.begun kept.begun;
  timely = (leads-after P e).timely kept.timely;
  attributed = (leads-after P e).attributed kept.attributed;
  stamped = stamped-after P e kept.stamped;
}
