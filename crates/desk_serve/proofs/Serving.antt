-- Serving a link by a desk of a hub.
use Rattle.std.proofs.Common.{◌≡◌, ℕ, ◌≤◌, inl, inr, List, [], length, Some, None, refl, ap, ◌∙◌, subst, arith, append-nil}
use Rattle.osm_outside.specs.Told.{Told, finding}
use Rattle.http_wire.specs.declared.message.Message.{Message}
use Rattle.http_link.specs.declared.desk.Reply.{Reply}
use Rattle.http_link.specs.declared.end.LinkEnd.{LinkEnd}
use Rattle.http_link.specs.declared.end.LinkEnd.TheVariants.{Memory}
use Rattle.http_link.specs.Exchange.{Exchange, Chain}
use Rattle.machine_law.specs.Rules.{Rules}
use Rattle.snapshot_hub.specs.Known.{Known}
use Rattle.user_table.specs.Users.{Users}
use Rattle.server_frame.specs.OnLink.{AnswersLink, OnLink}
use Rattle.session_desk.specs.Answered.{AtDesk, RowOf, IsFresh, HasServed}
use Rattle.desk_serve.specs.Link.{ServesLink, IsSound}

-- what a link that is left alone comes to
abbrev pub LinksLeftAlone : Type 0
LinksLeftAlone = (told : Told) → OnLink told told [] Memory

module _ {S C Q P E K : Type 0} (rules : Rules S C Q P E K) (row : RowOf E) where
  -- what a desk's relation over a whole link comes to
  abbrev pub Chains : {D : Type 0} → (D → Message → ℕ → Reply → D → Type 0) → (D → AtDesk E) → Type 0
  Chains {D} allows view = (old new : D) (exchanges : List Exchange) (point : ℕ) → point ≤ length (view old).known.front
      → Chain allows old exchanges new → ((view new).users ≡ (view old).users) × HasServed row (view old).users (view old).known point exchanges (view new).known

  -- so many entries were found, and the link was told of them first
  pub serves_link : {D : Type 0} (allows : D → Message → ℕ → Reply → D → Type 0) (view : D → AtDesk E) (old fresh new : D) (found : ℕ) (before told after : Told) (end : LinkEnd)
      → Chains allows view → (view fresh).users ≡ (view old).users → IsFresh rules (view old).known (view fresh).known → found ≡ length (view fresh).known.front
      → told ≡ finding (Some found) before → AnswersLink allows fresh new told after end → IsSound rules (view new).known.front
      → ServesLink rules row (view old) (view new) before after end
  serves_link allows view old fresh new found before told after end chains users is_fresh whole learned s sound =
      let at : (point : ℕ) → point ≤ length (view fresh).known.front
      → ((view new).users ≡ (view fresh).users) × HasServed row (view fresh).users (view fresh).known point s.exchanges (view new).known =
      λ point le. chains fresh new s.exchanges point le s.answered in record {
        exchanges = s.exchanges;
        found = Some found;
        link = subst (λ (t : Told). OnLink t after s.exchanges end) learned s.link;
        users = (at 0 (omega arith)).0 ∙ users;
        start = (view fresh).known;
        started = inl (record { fresh = is_fresh; whole = ap (λ (n : ℕ). Some n) whole });
        served = λ point le. subst (λ (u : Users). HasServed row u (view fresh).known point s.exchanges (view new).known) users (at point le).1;
        front = sound;
      }

  -- no message was answered
  pub nothing_served : (users : Users) (it : Known E) (point : ℕ) → point ≤ length it.front → HasServed row users it point [] it
  nothing_served users it point le = record { number = refl; begins = ([], append-nil it.front); last = point; within = le; answered = (refl, le) }

  left_alone : (old : AtDesk E) (told : Told) → LinksLeftAlone → IsSound rules old.known.front → ServesLink rules row old old told told Memory
  left_alone old told alone sound = record {
    exchanges = [];
    found = None;
    link = alone told;
    users = refl;
    start = old.known;
    started = inr (record { stays = refl; unfound = refl; nothing = refl; untouched = refl; ended = refl });
    served = λ point le. nothing_served old.users old.known point le;
    front = sound;
  }

  -- there was no memory to freshen the session
  pub unstarted : (old new : AtDesk E) (told : Told) → LinksLeftAlone → new ≡ old → IsSound rules new.known.front → ServesLink rules row old new told told Memory
  unstarted old new told alone same sound =
      subst (λ (o : AtDesk E). ServesLink rules row o new told told Memory) same (left_alone new told alone sound)
