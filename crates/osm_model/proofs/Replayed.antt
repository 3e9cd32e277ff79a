-- What entries keep of the map, taken or not: one that isn't accepted leaves it.
use Rattle.std.proofs.Common.{◌≡◌, ℕ, Bool, true, false, List, [], ◌∷◌, Ok, Err, refl, sym, ap, subst, take, arith}
use Rattle.std.specs.Prelude.{Result, IsTrue, fold, ◌==◌, if◌then◌else◌, option_and_then, length}
use Rattle.std.proofs.lemmas.List.Elements.{All-nil}
use Rattle.osm_base.specs.Key.{lists_key}
use Rattle.osm_base.specs.Stamp.{stamp_after}
use Rattle.osm_base.specs.declared.keys.Key.{Key}
use Rattle.osm_base.specs.declared.keys.Kind.{Kind}
use Rattle.osm_base.specs.declared.keys.Kind.TheVariants as kind
use Rattle.osm_element.specs.Elements.{no_elements, histories, history_in, version_in, refs_in, refs_of, IsConsistent}
use Rattle.osm_element.specs.Later.{Keeps}
use Rattle.osm_element.specs.declared.elements.Elements.{Elements}
use Rattle.osm_element.specs.Version.{Version}
use Rattle.osm_element.proofs.EachVersion.{each-none}
use Rattle.osm_element.proofs.Later.{later-trans, keeps-refl}
use Rattle.osm_change.specs.declared.refusals.Refusal.{Refusal}
use Rattle.changeset_core.specs.Timely.{IsTimelyMoment, IsTimelyRecord}
use Rattle.osm_model.specs.declared.states.State.{State}
use Rattle.osm_model.specs.declared.commands.Entry.{Entry}
use Rattle.osm_model.specs.Answered.{map_at}
use Rattle.osm_model.specs.Attributed.{DidVersions, IsAttributed}
use Rattle.osm_model.specs.State.{HasChangeset, empty}
use Rattle.osm_model.specs.Timely.{HasTimelyStamp, IsTimely}
use Rattle.osm_model.specs.Act.{Effect, judge, settle}
use Rattle.osm_model.specs.Journal.{after, replay, Later}
use Rattle.osm_model.proofs.Advances.{Advances, judge-advances}
use Rattle.osm_model.proofs.Told.{stamp_timely}

-- ---- one entry

-- what an entry leaves
pub record Leads (P Q : State) : Type 0 where
  pub kept : Keeps P.elements Q.elements
  pub timely : IsTimely P → IsTimely Q
  pub attributed : IsAttributed P → IsAttributed Q

leads-refl : (P : State) → Leads P P
leads-refl P = record { kept = keeps-refl P.elements; timely = λ was. was; attributed = λ was. was }

keeps-trans : (E F G : Elements) → Keeps E F → Keeps F G → Keeps E G
keeps-trans E F G first second = record {
  later = later-trans E F G first.later second.later;
  consistent = λ was. second.consistent (first.consistent was);
  begun = λ was. second.begun (first.begun was);
}

leads-trans : (P Q R : State) → Leads P Q → Leads Q R → Leads P R
leads-trans P Q R first second = record {
  kept = keeps-trans P.elements Q.elements R.elements first.kept second.kept;
  timely = λ was. second.timely (first.timely was);
  attributed = λ was. second.attributed (first.attributed was);
}

leads-settled :
    (P : State) (t : ℕ) (judged : Result Effect Refusal)
    → (IsTimely P → IsTimelyMoment t)
    → ((done : Effect) → judged ≡ Ok done → Advances t P done.state)
    → Leads P (settle P t judged).0
leads-settled P t (Err r) at each = leads-refl P
leads-settled P t (Ok done) at each =
    let now = each done refl in
    record {
      kept = now.kept;
      timely = λ was. record { last = at was; changesets = now.changesets (at was) was.changesets; versions = now.versions (at was) was.versions };
      attributed = λ was. let is = now.attributed was in record { versions = is.versions; changesets = is.changesets };
    }

pub leads-after : (P : State) (e : Entry) → Leads P (after P e)
leads-after P e =
    let t : ℕ = stamp_after P.last e.stamp in
    leads-settled P t (judge P e.user t e.command) (λ was. stamp_timely P.last e.stamp was.last) (judge-advances P e.user t e.command)

-- ---- many entries

leads-all : (P : State) (es : List Entry) → Leads P (fold after P es)
leads-all P [] = leads-refl P
leads-all P (e ∷ es) = leads-trans P (after P e) (fold after (after P e) es) (leads-after P e) (leads-all (after P e) es)

pub later-keeps : (S T : State) → Later S T → Keeps S.elements T.elements
later-keeps S T later = subst (λ (Q : State). Keeps S.elements Q.elements) (sym later.comes_to) (leads-all S later.since).kept

pub replay_timely : (es : List Entry) → IsTimely (replay es)
replay_timely es =
    (leads-all empty es).timely (record {
      last = omega arith;
      changesets = All-nil IsTimelyRecord;
      versions = each-none HasTimelyStamp;
    })

pub replay_attributed : (es : List Entry) → IsAttributed (replay es)
replay_attributed es =
    (leads-all empty es).attributed (record {
      versions = each-none (λ v. HasChangeset empty v.changeset);
      changesets = All-nil (DidVersions no_elements);
    })

-- ---- the map before any command

same_branches : (b : Bool) → ◌≡◌ {A = List Version} (if b then [] else []) []
same_branches true = refl
same_branches false = refl

no_history_of : (k : Kind) (id : ℕ) → history_in (histories no_elements k) id ≡ []
no_history_of kind.Node id = same_branches (id == 0)
no_history_of kind.Way id = same_branches (id == 0)
no_history_of kind.Relation id = same_branches (id == 0)

no_refs : (a : Key) → refs_of no_elements a ≡ []
no_refs a =
    ap
    (λ (vs : List Version). refs_in (option_and_then (λ v. v.content) (version_in vs (length vs))))
    (no_history_of a.kind a.id)

no_elements_consistent : IsConsistent no_elements
no_elements_consistent = record {
  seen = λ a b listed. let no : IsTrue (lists_key [] b) = subst (λ (ks : List Key). IsTrue (lists_key ks b)) (no_refs a) listed in cc;
}

pub point_consistent : (es : List Entry) (n : ℕ) → IsConsistent (map_at es n).elements
point_consistent es n = (leads-all empty (take n es)).kept.consistent no_elements_consistent
