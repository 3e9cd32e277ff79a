-- What a session was answered on the front of its time is answered on its front at the end.
use Rattle.std.proofs.Common.{◌≡◌, ℕ, ◌≤◌, List, [], ◌∷◌, ◌++◌, length, refl, sym, ap, ◌∙◌, subst, arith}
use mathlib.Core.List.{IsPrefix}
use Rattle.http_wire.specs.declared.message.Message.{Message}
use Rattle.http_link.specs.declared.desk.Reply.{Reply}
use Rattle.http_link.specs.Exchange.{Exchange, Chain}
use Rattle.session_desk.specs.Rows.{Place}
use Rattle.session_desk.specs.Steps.{place_at}
use Rattle.snapshot_hub.specs.Known.{Known}
use Rattle.user_table.specs.Users.{Users}
use Rattle.session_desk.specs.Answered.{RowOf, RowsStay, AtDesk, Allows, AreAnswered, HasServed}
use Rattle.session_desk.proofs.Lists.{prefix_self, prefix_trans, prefix_length}

module _ {E : Type 0} (row : RowOf E) where
  -- ---- many messages on a longer front

  answered-longer : RowsStay row → (users : Users) (s : ℕ) (F G : List E) (before after : Place) (exchanges : List Exchange) → IsPrefix F G
      → AreAnswered row users s F before exchanges after → AreAnswered row users s G before exchanges after
  answered-longer stay users s F G before after [] longer h = (h.0, omega (arith, h.1, prefix_length F G longer))
  answered-longer stay users s F G before after (e ∷ exchanges) longer h = (
    h.0,
    omega (arith, h.1, prefix_length F G longer),
    stay users s F G before h.0 e.message e.moment e.answer longer h.1 h.2,
    answered-longer stay users s F G h.0 after exchanges longer h.3,
  )

  answered-append : (users : Users) (s : ℕ) (F : List E) (before mid after : Place) (first second : List Exchange)
      → AreAnswered row users s F before first mid → AreAnswered row users s F mid second after → AreAnswered row users s F before (first ++ second) after
  answered-append users s F before mid after [] second h k = subst (λ (p : Place). AreAnswered row users s F p second after) h.0 k
  answered-append users s F before mid after (e ∷ first) second h k = (h.0, h.1, h.2, answered-append users s F h.0 mid after first second h.3 k)

  -- ---- the messages of a link

  nothing_served : (users : Users) (it : Known E) (point : ℕ) → point ≤ length it.front → HasServed row users it point [] it
  nothing_served users it point le = record { number = refl; begins = prefix_self it.front; last = point; within = le; answered = (refl, le) }

  one_more : RowsStay row → (old mid new : AtDesk E) (e : Exchange) (exchanges : List Exchange) (point : ℕ) → point ≤ length old.known.front
      → Allows row old e.message e.moment e.answer mid
      → ((next : ℕ) → next ≤ length mid.known.front → (new.users ≡ mid.users) × HasServed row mid.users mid.known next exchanges new.known)
      → (new.users ≡ old.users) × HasServed row old.users old.known point (e ∷ exchanges) new.known
  one_more stay old mid new e exchanges point le allowed more =
      let step = allowed.replies.answers point le in
      let rest = more step.0 step.1 in
      let served : HasServed row old.users mid.known step.0 exchanges new.known = subst (λ (u : Users). HasServed row u mid.known step.0 exchanges new.known) allowed.users rest.1 in
      let then_on : AreAnswered row old.users old.known.number new.known.front (place_at mid.known step.0) exchanges (place_at new.known served.last) =
      subst (λ (n : ℕ). AreAnswered row old.users n new.known.front (place_at mid.known step.0) exchanges (place_at new.known served.last)) allowed.replies.number served.answered in (
        rest.0 ∙ allowed.users,
        record {
          number = served.number ∙ allowed.replies.number;
          begins = prefix_trans old.known.front mid.known.front new.known.front allowed.replies.begins served.begins;
          last = served.last;
          within = served.within;
          answered = (
            place_at mid.known step.0,
            omega (arith, step.1, prefix_length mid.known.front new.known.front served.begins),
            stay old.users old.known.number mid.known.front new.known.front (place_at old.known point) (place_at mid.known step.0) e.message e.moment e.answer served.begins step.1 step.2,
            then_on,
          );
        },
      )

  at_desk_served : {D : Type 0} → RowsStay row → (allows : D → Message → ℕ → Reply → D → Type 0) (view : D → AtDesk E)
      → ((old new : D) (message : Message) (moment : ℕ) (reply : Reply) → allows old message moment reply new → Allows row (view old) message moment reply (view new))
      → (old new : D) (exchanges : List Exchange) (point : ℕ) → point ≤ length (view old).known.front → Chain allows old exchanges new
      → ((view new).users ≡ (view old).users) × HasServed row (view old).users (view old).known point exchanges (view new).known
  at_desk_served {D} stay allows view allowed old new [] point le same =
      subst (λ (d : D). ((view d).users ≡ (view old).users) × HasServed row (view old).users (view old).known point [] (view d).known) (sym same)
      (refl, nothing_served (view old).users (view old).known point le)
  at_desk_served stay allows view allowed old new (e ∷ exchanges) point le h =
      one_more stay (view old) (view h.0) (view new) e exchanges point le (allowed old h.0 e.message e.moment e.answer h.1)
      (λ next inside. at_desk_served stay allows view allowed h.0 new exchanges next inside h.2)

  -- ---- links

  pub links_served : RowsStay row → (users : Users) (old mid new : Known E) (point : ℕ) (first second : List Exchange)
      → (served : HasServed row users old point first mid) → HasServed row users mid served.last second new → HasServed row users old point (first ++ second) new
  links_served stay users old mid new point first second served more =
      let then_on : AreAnswered row users old.number new.front (place_at mid served.last) second (place_at new more.last) =
      subst (λ (n : ℕ). AreAnswered row users n new.front (place_at mid served.last) second (place_at new more.last)) served.number more.answered in record {
        number = more.number ∙ served.number;
        begins = prefix_trans old.front mid.front new.front served.begins more.begins;
        last = more.last;
        within = more.within;
        answered = answered-append users old.number new.front (place_at old point) (place_at mid served.last) (place_at new more.last) first second
            (answered-longer stay users old.number mid.front new.front (place_at old point) (place_at mid served.last) first more.begins served.answered) then_on;
      }

  pub served_longer : RowsStay row → (users : Users) (old new : Known E) (point : ℕ) (exchanges : List Exchange) (front : List E)
      → (served : HasServed row users old point exchanges new) → IsPrefix new.front front
      → AreAnswered row users old.number front (place_at old point) exchanges (place_at new served.last)
  served_longer stay users old new point exchanges front served longer =
      answered-longer stay users old.number new.front front (place_at old point) (place_at new served.last) exchanges longer served.answered

pub exchanges_served : {E D : Type 0} (allows : D → Message → ℕ → Reply → D → Type 0) (view : D → AtDesk E) (row : RowOf E)
    → ((old new : D) (message : Message) (moment : ℕ) (reply : Reply) → allows old message moment reply new → Allows row (view old) message moment reply (view new))
    → RowsStay row
    → (old new : D) (exchanges : List Exchange) (point : ℕ) → point ≤ length (view old).known.front → Chain allows old exchanges new
    → ((view new).users ≡ (view old).users) × HasServed row (view old).users (view old).known point exchanges (view new).known
exchanges_served allows view row allowed stay = at_desk_served row stay allows view allowed
