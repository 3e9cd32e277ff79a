-- What an entry that is taken leaves.
use Rattle.std.proofs.Common.{◌≡◌, ℕ, ◌+◌, ◌≤◌, Bool, true, false, ◌&&◌, List, [], length, Ok, refl, sym, ap, ◌∙◌, subst, arith}
use Rattle.std.specs.Prelude.{Result, IsOk, is_ok, slice_index, ◌==◌}
use Rattle.std.proofs.lemmas.Bool.{eqb-true}
use Rattle.osm_base.specs.Stamp.{stamp_after}
use Rattle.osm_base.specs.declared.limits.TheConstants.{MOMENT_LIMIT}
use Rattle.osm_change.specs.declared.refusals.Refusal.{Refusal}
use Rattle.changeset_core.specs.Kept.{Kept}
use Rattle.changeset_core.specs.Timely.{IsTimelyMoment}
use Rattle.osm_base.specs.Row.{Row}
use Rattle.osm_base.specs.declared.keys.Kind.{Kind}
use Rattle.osm_base.specs.declared.keys.Kind.TheVariants as kind
use Rattle.osm_element.specs.Elements.{no_elements, histories, IsConsistent}
use Rattle.osm_element.specs.Later.{Keeps}
use Rattle.osm_element.specs.declared.elements.Elements.{Elements}
use Rattle.osm_model.specs.Act.{Effect, judge, settle}
use Rattle.osm_model.specs.Answered.{map_at}
use Rattle.osm_model.specs.Attributed.{IsAttributed}
use Rattle.osm_model.specs.Journal.{after, replay, takes, IsLegal}
use Rattle.osm_model.specs.Stamped.{IsStamped}
use Rattle.osm_model.specs.Timely.{IsTimely}
use Rattle.osm_model.specs.declared.commands.Entry.{Entry}
use Rattle.osm_model.specs.declared.states.State.{State}
use Rattle.osm_model.specs.State.{empty}
use Rattle.indexed_map.specs.Indexed.{Stand}
use Rattle.osm_world.specs.Records.{records, ids, rooms, AreNumbered}
use Rattle.osm_world.specs.World.{IsKept, IsSound, stored_state}
use Rattle.osm_world.specs.declared.stores.Stores.{Stores}
use Rattle.osm_world.proofs.Uploaded.{numbered_same}

both : (a b : Bool) → (a && b) ≡ true → (a ≡ true) × (b ≡ true)
both true b e = (refl, e)
both false b e = cc

-- the rules accept its command at its stamp
pub taken_ok : (P : State) (e : Entry) → takes P e ≡ true → IsOk (judge P e.user e.stamp e.command)
taken_ok P e taken = (both (is_ok (judge P e.user e.stamp e.command)) (stamp_after P.last e.stamp == e.stamp) taken).0

pub stamp_is : (P : State) (e : Entry) → takes P e ≡ true → stamp_after P.last e.stamp ≡ e.stamp
stamp_is P e taken = eqb-true (stamp_after P.last e.stamp) e.stamp (both (is_ok (judge P e.user e.stamp e.command)) (stamp_after P.last e.stamp == e.stamp) taken).1

pub stamp_timely : (P : State) (e : Entry) → takes P e ≡ true → IsTimelyMoment P.last → IsTimelyMoment e.stamp
stamp_timely P e taken last = let is = stamp_is P e taken in let bound : stamp_after P.last e.stamp ≤ MOMENT_LIMIT = omega (arith, last) in omega (arith, is, bound)

pub after_is : (P : State) (e : Entry) (done : Effect) → takes P e ≡ true → judge P e.user e.stamp e.command ≡ Ok done → after P e ≡ record done.state { last = e.stamp }
after_is P e done taken passed =
    ap (λ (t : ℕ). (settle P t (judge P e.user t e.command)).0) (stamp_is P e taken)
    ∙ ap (λ (r : Result Effect Refusal). (settle P e.stamp r).0) passed

-- what a map keeps with the entry
pub kept_after :
    (P : State) (e : Entry) (Q : State)
    → Q ≡ after P e
    → ((map : State) (entry : Entry) → Keeps map.elements (after map entry).elements)
    → ((map : State) (entry : Entry) → IsTimely map → IsTimely (after map entry))
    → ((map : State) (entry : Entry) → IsAttributed map → IsAttributed (after map entry))
    → ((map : State) (entry : Entry) → IsStamped map → IsStamped (after map entry))
    → IsKept P
    → IsKept Q
kept_after P e Q is keeps moments attributed stamped was = subst (λ (R : State). IsKept R) (sym is) (record {
  consistent = (keeps P e).consistent was.consistent;
  begun = (keeps P e).begun was.begun;
  timely = moments P e was.timely;
  attributed = attributed P e was.attributed;
  stamped = stamped P e was.stamped;
})

-- -- before the first entry

none-given : (kind : Kind) → length (histories no_elements kind) ≡ 0
none-given kind.Node = refl
none-given kind.Way = refl
none-given kind.Relation = refl

pub empty_sound :
    (m : Stand) (cs : Row Kept) (titles : Row (List ℕ))
    → m.elements ≡ no_elements
    → cs ≡ record { items = []; free = 0 }
    → titles ≡ record { items = []; free = 0 }
    → ((entries : List Entry) → IsLegal entries → (point : ℕ) → IsConsistent (map_at entries point).elements)
    → ((entries : List Entry) → IsTimely (replay entries))
    → ((entries : List Entry) → IsAttributed (replay entries))
    → ((entries : List Entry) → IsStamped (replay entries))
    → IsSound (record { map = m; changesets = cs; redactions = titles; last = 0 }) 0
empty_sound m cs titles is no_changesets no_titles consistent moments attributed stamped = record {
  kept = subst (λ (P : State). IsKept P) (sym empty_is) (record {
    consistent = consistent [] (record { taken = refl; numbered = refl }) 0;
    begun = record { begun = λ k counted below. absurd (omega (arith, counted, below, none-given k.kind)) };
    timely = moments [];
    attributed = attributed [];
    stamped = stamped [];
  });
  numbered = subst (λ (row : Row Kept). AreNumbered row.items) (sym no_changesets) (λ i within. absurd (omega (arith, within)));
  work = λ i other. ap (λ (row : Row Kept). slice_index (rooms row.items) i) no_changesets;
}
  where
    empty_is : stored_state (record { map = m; changesets = cs; redactions = titles; last = 0 }) ≡ empty
    empty_is =
        ap (λ (E : Elements). record { elements = E; changesets = records cs.items; redactions = titles.items; last = 0 }) is
        ∙ ap (λ (row : Row Kept). record { elements = no_elements; changesets = records row.items; redactions = titles.items; last = 0 }) no_changesets
        ∙ ap (λ (row : Row (List ℕ)). record { elements = no_elements; changesets = []; redactions = row.items; last = 0 }) no_titles

-- -- room alone changes

pub still_sound :
    (s r : Stores) (b d : ℕ)
    → IsSound s b
    → stored_state r ≡ stored_state s
    → ids r.changesets.items ≡ ids s.changesets.items
    → ((i : ℕ) → (i + 1 == d) ≡ false → slice_index (rooms r.changesets.items) i ≡ 0)
    → IsSound r d
still_sound s r b d was same kept none = record {
  kept = subst (λ (P : State). IsKept P) (sym same) was.kept;
  numbered = numbered_same s.changesets.items r.changesets.items kept was.numbered;
  work = none;
}
