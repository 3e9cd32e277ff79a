-- Serving a link by a desk that keeps before it tells.
use Rattle.std.proofs.Common.{◌≡◌, ℕ, ◌≤◌, inl, inr, List, [], ◌∷◌, length, Some, None, refl, ap, ◌∙◌, subst, arith}
use Rattle.osm_outside.specs.Event.{Shown}
use Rattle.osm_outside.specs.Told.{Told, finding}
use Rattle.http_wire.specs.declared.message.Message.{Message}
use Rattle.http_link.specs.declared.desk.Reply.{Reply}
use Rattle.http_link.specs.declared.desk.Withheld.{Withheld}
use Rattle.http_link.specs.Exchange.{Exchange, ChainBy, Allowing, Telling}
use Rattle.http_link.specs.Link.{AreTold}
use Rattle.http_link.specs.declared.end.LinkEnd.{LinkEnd}
use Rattle.http_link.specs.declared.end.LinkEnd.TheVariants.{Memory, Unkept}
use Rattle.machine_law.specs.Rules.{Rules}
use Rattle.user_table.specs.Users.{Users}
use Rattle.server_frame.specs.OnLink.{AnswersLinkTold, OnLink}
use Rattle.session_desk.specs.Answered.{AtDesk, RowOf, IsFresh, HasServed}
use Rattle.kept_desk.specs.Kept.{AtKept, Tells, shows_kept, Withholds, HasWithheld, AllowsKept, Sending, sendings, exchanges_in, HasKeptAndTold}
use Rattle.kept_desk.proofs.Told.{none_told}
use Rattle.desk_serve.specs.Link.{IsSound}
use Rattle.desk_serve.specs.Kept.{KeepsLink}
use Rattle.desk_serve.proofs.Serving.{LinksLeftAlone, nothing_served}

-- What is allowed is so of what is seen of it.
module _ {D X : Type 0} (view : D → X) where
  -- one relation, seen as another
  abbrev IsSeen : (D → Exchange → D → Type 0) → (X → Exchange → X → Type 0) → Type 0
  IsSeen by by_seen = (old new : D) (e : Exchange) → by old e new → by_seen (view old) e (view new)

  chain_seen : (by : D → Exchange → D → Type 0) (by_seen : X → Exchange → X → Type 0) → IsSeen by by_seen
      → (old new : D) (exchanges : List Exchange) → ChainBy by old exchanges new → ChainBy by_seen (view old) exchanges (view new)
  chain_seen by by_seen seen old new [] same = ap view same
  chain_seen by by_seen seen old new (e ∷ exchanges) (mid, is, more) =
      (view mid, seen old mid e is, chain_seen by by_seen seen mid new exchanges more)

  module _ (allows : D → Message → ℕ → Reply → D → Type 0) (tells : D → Type 0) (shows : D → List Shown) (withholds : D → Withheld → Type 0)
      (allows_seen : X → Message → ℕ → Reply → X → Type 0) (tells_seen : X → Type 0) (shows_seen : X → List Shown) (withholds_seen : X → Withheld → Type 0)
      (seen : IsSeen (Allowing allows) (Allowing allows_seen)) (told : (it : D) → tells it → tells_seen (view it))
      (shown : (it : D) → shows it ≡ shows_seen (view it)) (withheld : (it : D) (why : Withheld) → withholds it why → withholds_seen (view it) why) where
    telling_seen : IsSeen (Telling allows tells shows) (Telling allows_seen tells_seen shows_seen)
    telling_seen old new e h = (seen old new e h.0, told new h.1, h.2 ∙ shown new)

    told_seen : (old new : D) (exchanges : List Exchange) (end : LinkEnd) → AreTold allows tells shows withholds old exchanges new end
        → AreTold allows_seen tells_seen shows_seen withholds_seen (view old) exchanges (view new) end
    told_seen old new exchanges (Unkept why) (front, last, mid, are, chain, is, unshown, cause) = (
      front,
      last,
      view mid,
      are,
      chain_seen (Telling allows tells shows) (Telling allows_seen tells_seen shows_seen) telling_seen old mid front chain,
      seen mid new last is,
      unshown,
      withheld new why cause,
    )
    told_seen old new exchanges other h = chain_seen (Telling allows tells shows) (Telling allows_seen tells_seen shows_seen) telling_seen old new exchanges h

    -- a link that was answered
    pub answers_seen : (old new : D) (before after : Told) (end : LinkEnd) → AnswersLinkTold allows tells shows withholds old new before after end
        → AnswersLinkTold allows_seen tells_seen shows_seen withholds_seen (view old) (view new) before after end
    answers_seen old new before after end h = record {
      answers = record {
        exchanges = h.answers.exchanges;
        link = h.answers.link;
        answered = chain_seen (Allowing allows) (Allowing allows_seen) seen old new h.answers.exchanges h.answers.answered;
      };
      told = told_seen old new h.answers.exchanges end h.told;
    }

-- the exchanges of a link are the same, however it ended
abbrev pub SameExchanges : Type 0
SameExchanges = (end : LinkEnd) (exchanges : List Exchange) → exchanges_in (sendings end exchanges) ≡ exchanges

module _ {E : Type 0} (row : RowOf E) where
  -- what a desk's exchanges come to until a link's end
  abbrev pub ToldChain : Type 0
  ToldChain = (old new : AtKept E) (exchanges : List Exchange) (end : LinkEnd) (point : ℕ) → point ≤ length old.desk.known.front
      → AreTold (AllowsKept row) Tells shows_kept Withholds old exchanges new end
      → (new.desk.users ≡ old.desk.users) × HasKeptAndTold row old.desk.users old point (sendings end exchanges) new × HasWithheld end new

  -- what was told was answered
  abbrev pub ToldIsServed : Type 0
  ToldIsServed = (users : Users) (old new : AtKept E) (point : ℕ) (told : List Sending) → HasKeptAndTold row users old point told new
      → HasServed row users old.desk.known point (exchanges_in told) new.desk.known

-- what is sound of a session's desk is so of the same desk
pub sound_at : {S C Q P E K : Type 0} (rules : Rules S C Q P E K) (desk other : AtDesk E) → desk ≡ other
    → IsSound rules desk.known.front → IsSound rules other.known.front
sound_at {E = E} rules desk other same h = subst (λ (d : AtDesk E). IsSound rules d.known.front) same h

module _ {S C Q P E K : Type 0} (rules : Rules S C Q P E K) (row : RowOf E) where
  -- so many entries were found, and the link was told of them first
  pub keeps_link : (old fresh new : AtKept E) (found : ℕ) (before learned after : Told) (end : LinkEnd) → ToldChain row → ToldIsServed row → SameExchanges
      → fresh.desk.users ≡ old.desk.users → IsFresh rules old.desk.known fresh.desk.known → found ≡ length fresh.desk.known.front
      → fresh.receipts ≡ old.receipts → fresh.failed ≡ old.failed → learned ≡ finding (Some found) before
      → AnswersLinkTold (AllowsKept row) Tells shows_kept Withholds fresh new learned after end → IsSound rules new.desk.known.front
      → KeepsLink rules row old new before after end
  keeps_link old fresh new found before learned after end chain is_served same users is_fresh whole receipts failed is s sound =
      let exchanges = s.answers.exchanges in
      let told : (point : ℕ) → point ≤ length fresh.desk.known.front → HasKeptAndTold row old.desk.users fresh point (sendings end exchanges) new =
      λ point le. subst (λ (u : Users). HasKeptAndTold row u fresh point (sendings end exchanges) new) users (chain fresh new exchanges end point le s.told).1 in record {
        serves = record {
          exchanges = exchanges;
          found = Some found;
          link = subst (λ (t : Told). OnLink t after exchanges end) is s.answers.link;
          users = (chain fresh new exchanges end 0 (omega arith) s.told).0 ∙ users;
          start = fresh.desk.known;
          started = inl (record { fresh = is_fresh; whole = ap (λ (n : ℕ). Some n) whole });
          served = λ point le.
              subst (λ (l : List Exchange). HasServed row old.desk.users fresh.desk.known point l new.desk.known) (same end exchanges)
              (is_served old.desk.users fresh new point (sendings end exchanges) (told point le));
          front = sound;
        };
        start = fresh;
        known = refl;
        users = users;
        receipts = receipts;
        failed = failed;
        kept = told;
        withheld = (chain fresh new exchanges end 0 (omega arith) s.told).2;
      }

  -- there was no memory to freshen the session
  pub unkept_start : (old new : AtKept E) (told : Told) → LinksLeftAlone → new ≡ old → IsSound rules new.desk.known.front → KeepsLink rules row old new told told Memory
  unkept_start old new told alone same sound =
      let users : new.desk.users ≡ old.desk.users = ap (λ (d : AtKept E). d.desk.users) same in
      let known : new.desk.known ≡ old.desk.known = ap (λ (d : AtKept E). d.desk.known) same in record {
        serves = record {
          exchanges = [];
          found = None;
          link = alone told;
          users = users;
          start = new.desk.known;
          started = inr (record { stays = known; unfound = refl; nothing = refl; untouched = refl; ended = refl });
          served = λ point le. nothing_served rules row old.desk.users new.desk.known point le;
          front = sound;
        };
        start = new;
        known = refl;
        users = users;
        receipts = ap (λ (d : AtKept E). d.receipts) same;
        failed = ap (λ (d : AtKept E). d.failed) same;
        withheld = tt;
        kept = λ point le. none_told row old.desk.users new point le;
      }
