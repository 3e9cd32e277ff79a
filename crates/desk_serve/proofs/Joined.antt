-- The links of one session, joined one after another.
use Rattle.std.proofs.Common.{◌≡◌, ℕ, ◌≤◌, ⊎_elim, List, [], ◌∷◌, ◌++◌, length, refl, sym, ap, ◌∙◌, subst, arith, append_assoc, length-append}
use Rattle.std.specs.List.{AllZip}
use mathlib.Core.List.{IsPrefix}
use Rattle.http_link.specs.Exchange.{Exchange}
use Rattle.link_workers.specs.Port.{Visit, ServesEach}
use Rattle.link_workers.specs.Joined.{all_of}
use Rattle.machine_law.specs.Rules.{Rules}
use Rattle.session_desk.specs.Rows.{Place}
use Rattle.session_desk.specs.Steps.{place_at}
use Rattle.snapshot_hub.specs.Known.{Known, seeing}
use Rattle.user_table.specs.Users.{Users}
use Rattle.session_desk.specs.Answered.{AtDesk, RowOf, IsFresh, AreAnswered, HasServed}
use Rattle.osm_outside.specs.Told.{Told}
use Rattle.http_link.specs.declared.end.LinkEnd.{LinkEnd}
use Rattle.desk_serve.specs.Link.{OnVisit, ServesLink}
use Rattle.desk_serve.specs.Desks.{at_desk}
use Rattle.desk_serve.proofs.Serving.{nothing_served}

module _ {E : Type 0} where
  prefix_trans : (xs ys zs : List E) → IsPrefix xs ys → IsPrefix ys zs → IsPrefix xs zs
  prefix_trans xs ys zs p q = (p.0 ++ q.0, sym (append_assoc xs p.0 q.0) ∙ (ap (λ w. w ++ q.0) p.1 ∙ q.1))

  no_shorter : (xs ys : List E) → IsPrefix xs ys → length xs ≤ length ys
  no_shorter xs ys p = omega (arith, sym (ap length p.1) ∙ length-append xs p.0)

  pub desk_is : (users : Users) (desk : AtDesk E) → desk.users ≡ users → desk ≡ at_desk users desk.known
  desk_is users desk same = λ i. record { users = same i; known = desk.known }

module _ {E : Type 0} (row : RowOf E) where
  -- what one link and then another had answered by the same session is answered together
  abbrev pub LinksChain : Type 0
  LinksChain = (users : Users) (old mid new : Known E) (point : ℕ) (first second : List Exchange)
      → (served : HasServed row users old point first mid) → HasServed row users mid served.last second new → HasServed row users old point (first ++ second) new

  -- what was served on a front stands on each longer one
  abbrev pub ServedStay : Type 0
  ServedStay = (users : Users) (old new : Known E) (point : ℕ) (exchanges : List Exchange) (front : List E)
      → (served : HasServed row users old point exchanges new) → IsPrefix new.front front
      → AreAnswered row users old.number front (place_at old point) exchanges (place_at new served.last)

  -- the same of a session that has seen more at last
  pub seen_at_last : (users : Users) (old stopped known : Known E) (point : ℕ) (exchanges : List Exchange) → ServedStay
      → known ≡ seeing stopped known.front → IsPrefix stopped.front known.front
      → HasServed row users old point exchanges stopped → HasServed row users old point exchanges known
  seen_at_last users old stopped known point exchanges stay is longer served = subst (λ (k : Known E). HasServed row users old point exchanges k) (sym is) (record {
    number = served.number;
    begins = prefix_trans old.front stopped.front known.front served.begins longer;
    last = served.last;
    within = omega (arith, served.within, no_shorter stopped.front known.front longer);
    answered = stay users old stopped point exchanges known.front served longer;
  })

module _ {S C Q P E K : Type 0} (rules : Rules S C Q P E K) (row : RowOf E) where
  -- what a session was answered that was freshened first, it was answered from what it knew before
  from_fresh : (users : Users) (old start new : Known E) (point : ℕ) (exchanges : List Exchange)
      → IsFresh rules old start → HasServed row users start point exchanges new → HasServed row users old point exchanges new
  from_fresh users old start new point exchanges fresh served =
      let number : start.number ≡ old.number = ap (λ (k : Known E). k.number) fresh.comes_to in
      let calls : start.calls ≡ old.calls = ap (λ (k : Known E). k.calls) fresh.comes_to in
      let debts : start.debts ≡ old.debts = ap (λ (k : Known E). k.debts) fresh.comes_to in
      let same : place_at start point ≡ place_at old point = λ i. record { point = point; calls = calls i; debts = debts i } in record {
        number = served.number ∙ number;
        begins = prefix_trans old.front start.front new.front fresh.begins served.begins;
        last = served.last;
        within = served.within;
        answered =
            subst (λ (n : ℕ). AreAnswered row users n new.front (place_at old point) exchanges (place_at new served.last)) number
            (subst (λ (p : Place). AreAnswered row users start.number new.front p exchanges (place_at new served.last)) same served.answered);
      }

  -- a whole link, from any point of the front that the session had before
  pub link_served : (old new : AtDesk E) (v : Visit) (s : ServesLink rules row old new v.came v.went v.end) (point : ℕ) → point ≤ length old.known.front
      → HasServed row old.users old.known point s.exchanges new.known
  link_served old new v s point le =
      ⊎_elim
      (λ begun. from_fresh old.users old.known s.start new.known point s.exchanges begun.fresh
      (s.served point (omega (arith, le, no_shorter old.known.front s.start.front begun.fresh.begins))))
      (λ lacks. subst (λ (k : Known E). HasServed row old.users k point s.exchanges new.known) lacks.stays
      (s.served point (omega (arith, le, ap (λ (k : Known E). length k.front) lacks.stays))))
      s.started

  -- a link that a desk served, whose users and session are these
  pub served_at : (users : Users) (known : Known E) (desk new : AtDesk E) (before after : Told) (end : LinkEnd)
      → desk ≡ at_desk users known → ServesLink rules row desk new before after end → ServesLink rules row (at_desk users known) (at_desk users new.known) before after end
  served_at users known desk new before after end is served =
      let same : new ≡ at_desk users new.known = desk_is users new (served.users ∙ ap (λ (d : AtDesk E). d.users) is) in
      subst (λ (n : AtDesk E). ServesLink rules row (at_desk users known) n before after end) same
      (subst (λ (d : AtDesk E). ServesLink rules row d new before after end) is served)

  -- all links, one after another
  pub record Joins (old new : AtDesk E) (visits : List Visit) (point : ℕ) : Type 0 where
    pub users : new.users ≡ old.users
    pub exchanges : List (List Exchange)
    pub each : AllZip (λ visit exchanges. OnVisit visit exchanges) visits exchanges
    pub served : HasServed row old.users old.known point (all_of exchanges) new.known

  join_more : (old mid new : AtDesk E) (v : Visit) (visits : List Visit) (point : ℕ) → LinksChain row
      → (s : ServesLink rules row old mid v.came v.went v.end) → (first : HasServed row old.users old.known point s.exchanges mid.known)
      → Joins mid new visits first.last → Joins old new (v ∷ visits) point
  join_more old mid new v visits point chain s first rest = record {
    users = rest.users ∙ s.users;
    exchanges = s.exchanges ∷ rest.exchanges;
    each = (record { found = s.found; link = s.link }, rest.each);
    served = chain old.users old.known mid.known new.known point s.exchanges (all_of rest.exchanges) first
        (subst (λ (u : Users). HasServed row u mid.known first.last (all_of rest.exchanges) new.known) s.users rest.served);
  }

  pub joined : (old new : AtDesk E) (visits : List Visit) (point : ℕ) → LinksChain row → point ≤ length old.known.front
      → ServesEach (ServesLink rules row) old visits new → Joins old new visits point
  joined old new [] point chain le same =
      subst (λ (n : AtDesk E). Joins old n [] point) (sym same)
      (record { users = refl; exchanges = []; each = tt; served = nothing_served rules row old.users old.known point le })
  joined old new (v ∷ visits) point chain le h =
      let first = link_served old h.0 v h.1 point le in
      join_more old h.0 new v visits point chain h.1 first (joined h.0 new visits first.last chain first.within h.2)
