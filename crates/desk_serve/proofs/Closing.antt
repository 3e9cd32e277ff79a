-- The one list of a hub that was closed, and what the link of its one session comes to.
use Rattle.std.proofs.Common.{◌≡◌, ℕ, zero, suc, ◌≤◌, ◌==◌, cond, List, [], ◌∷◌, take, None, refl, sym, ap, subst, arith}
use Rattle.std.proofs.lemmas.List.Sums.{sum_by-append}
use Rattle.std.specs.Prelude.{IfSome, slice_get}
use mathlib.Core.List.{IsPrefix}
use Rattle.osm_outside.specs.Told.{Told}
use Rattle.http_link.specs.declared.end.LinkEnd.{LinkEnd}
use Rattle.http_link.specs.declared.end.LinkEnd.TheVariants.{Memory}
use Rattle.machine_law.specs.Rules.{Rules, replay}
use Rattle.hub_core.specs.Journal.{calls_of}
use Rattle.snapshot_hub.specs.Known.{Known, newcomer, seeing}
use Rattle.snapshot_hub.specs.Closings.{IsFront}
use Rattle.snapshot_hub.specs.Closed.{HasClosed}
use Rattle.user_table.specs.Users.{Users}
use Rattle.session_desk.specs.Answered.{AtDesk, RowOf, HasServed}
use Rattle.desk_serve.specs.Link.{IsListOf, TellsLink, ServesPipe}
use Rattle.desk_serve.specs.Desks.{at_desk}
use Rattle.desk_serve.proofs.Sound.{PointsConsistent, sound_of}
use Rattle.desk_serve.proofs.Serving.{LinksLeftAlone, nothing_served}
use Rattle.desk_serve.proofs.Joined.{ServedStay, seen_at_last, link_served, served_at}

-- the one session of a new hub
pub first_is : {E : Type 0} (items : List (Known E)) (session : Known E) → items ≡ session ∷ []
    → ((number : ℕ) → IfSome (slice_get items number) (λ s. s ≡ newcomer number)) → session ≡ newcomer 0
first_is {E} items session is fresh = subst (λ (l : List (Known E)). IfSome (slice_get l 0) (λ s. s ≡ newcomer 0)) is (fresh 0)

module _ {S C Q P E K : Type 0} (rules : Rules S C Q P E K) where
  -- ---- the one list

  -- what holds of a front that all begin is what the one list is
  pub list_of : PointsConsistent rules → (sessions : ℕ) (one : List E) → IsFront rules sessions one → IsListOf rules sessions one
  list_of consistent sessions one front = record {
    sound = sound_of rules consistent one front.kept.legal;
    numbered = front.kept.numbered;
    own = front.seated;
  }

  -- a session has as many calls in a longer list at least
  pub more_calls : (session : ℕ) (xs ys : List E) → IsPrefix xs ys → calls_of rules.tag_of session xs ≤ calls_of rules.tag_of session ys
  more_calls session xs ys p =
      omega (arith, sum_by-append (λ (e : E). cond ((rules.tag_of e).session == session) 1 0) xs p.0, ap (calls_of rules.tag_of session) p.1)

-- ---- the one link of a new hub

module _ {S C Q P E K : Type 0} (rules : Rules S C Q P E K) (row : RowOf E) where
  pub pipe_served : (users : Users) (old new : Known E) (before after : Told) (end : LinkEnd) → TellsLink rules row (at_desk users old) (at_desk users new) before after end
      → ServedStay row → PointsConsistent rules → old ≡ newcomer 0 → HasClosed rules 1 (new ∷ []) [] → ServesPipe rules row users before after end
  pipe_served users old new before after end telling stay consistent fresh closed =
      let served = telling.serves in
      let known = seeing new closed.one in
      let all : HasServed row users old 0 served.exchanges new =
      link_served rules row (at_desk users old) (at_desk users new) (record { came = before; went = after; end = end }) served 0 (omega arith) in record {
        exchanges = served.exchanges;
        found = served.found;
        link = served.link;
        tells = telling.tells;
        one = closed.one;
        list = list_of rules consistent 1 closed.one closed.front;
        session = known;
        whole = refl;
        calls = closed.each.0.calls;
        served = subst (λ (k : Known E). HasServed row users k 0 served.exchanges known) fresh
            (seen_at_last row users old new known 0 served.exchanges stay refl closed.each.0.begins all);
      }

  -- the same of the only session of a list, and the desk that was made of it
  pub pipe_of_one : (users : Users) (items left : List (Known E)) (session : Known E) (desk new : AtDesk E) (before after : Told) (end : LinkEnd)
      → ServedStay row → PointsConsistent rules → items ≡ session ∷ [] → left ≡ new.known ∷ []
      → ((number : ℕ) → IfSome (slice_get items number) (λ s. s ≡ newcomer number))
      → desk ≡ at_desk users session → TellsLink rules row desk new before after end
      → HasClosed rules 1 left [] → ServesPipe rules row users before after end
  pipe_of_one users items left session desk new before after end stay consistent first last fresh made telling closed =
      let served : TellsLink rules row (at_desk users session) (at_desk users new.known) before after end = record {
        serves = served_at rules row users session desk new before after end made telling.serves;
        tells = telling.tells;
      } in
      pipe_served users session new.known before after end served stay consistent
      (first_is items session first fresh) (subst (λ (l : List (Known E)). HasClosed rules 1 l []) last closed)

  -- there was no memory for the hub or the desk
  pub pipe_unserved : (users : Users) (before : Told) → LinksLeftAlone → rules.consistent rules.start → ServesPipe rules row users before before Memory
  pipe_unserved users before alone consistent = record {
    exchanges = [];
    found = None;
    link = alone before;
    tells = tt;
    one = [];
    list = record { sound = record { legal = refl; consistent = nowhere }; numbered = refl; own = λ session le. refl };
    session = newcomer 0;
    whole = refl;
    calls = refl;
    served = nothing_served rules row users (newcomer 0) 0 (omega arith);
  } where
    nowhere : (point : ℕ) → rules.consistent (replay rules (take point []))
    nowhere zero = consistent
    nowhere (suc point) = consistent

  pub pipe_left_alone : (users : Users) (before after : Told) → LinksLeftAlone → rules.consistent rules.start → after ≡ before → ServesPipe rules row users before after Memory
  pipe_left_alone users before after alone consistent same =
      subst (λ (t : Told). ServesPipe rules row users before t Memory) (sym same) (pipe_unserved users before alone consistent)
