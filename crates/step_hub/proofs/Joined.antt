-- What a desk answered, over one link after another, as steps of the list.
use Rattle.std.proofs.Common.{◌≡◌, ℕ, List, [], ◌∷◌, ◌++◌, length, take, refl, ap, sym, ◌∙◌, subst}
use Rattle.std.specs.List.{AllZip}
use mathlib.Core.List.{IsPrefix}
use Rattle.osm_base.specs.declared.limits.TheConstants.{PIECE_LIMIT}
use Rattle.http_wire.specs.declared.message.Message.{Message}
use Rattle.http_link.specs.declared.desk.Reply.{Reply}
use Rattle.http_link.specs.Exchange.{Exchange, Chain}
use Rattle.http_link.specs.Turns.{exchanges_of}
use Rattle.http_link.specs.Link.{ServesTelling}
use Rattle.link_workers.specs.Port.{Visit, ServesEach}
use Rattle.link_workers.specs.Joined.{all_of}
use Rattle.step_hub.specs.Steps.{AtFront, Allows}
use Rattle.step_hub.specs.ServePorts.{IsStepOf, AreStepsOf, IsServed}
use Rattle.step_hub.proofs.Beginnings.{prefix_self, prefix_trans, prefix_length, taken_is, grows_on, grows_one}

-- a chain and then another
chain_then : {D : Type 0} (allows : D → Message → ℕ → Reply → D → Type 0) (old mid new : D) (xs ys : List Exchange)
    → Chain allows old xs mid → Chain allows mid ys new → Chain allows old (xs ++ ys) new
chain_then allows old mid new [] ys h k = subst (λ d. Chain allows d ys new) h k
chain_then allows old mid new (x ∷ xs) ys h k = (h.0, h.1, chain_then allows h.0 mid new xs ys h.2 k)

-- the links of a desk, with their exchanges, and these joined
pub record Joins {D : Type 0} (allows : D → Message → ℕ → Reply → D → Type 0) (old new : D) (visits : List Visit) : Type 0 where
  pub exchanges : List (List Exchange)
  pub each : AllZip (IsServed allows) visits exchanges
  pub chain : Chain allows old (all_of exchanges) new

pub joined : {D : Type 0} (allows : D → Message → ℕ → Reply → D → Type 0) (old new : D) (visits : List Visit)
    → ServesEach (ServesTelling PIECE_LIMIT allows) old visits new → Joins allows old new visits
joined allows old new [] same = record { exchanges = []; each = tt; chain = same }
joined allows old new (v ∷ visits) h =
    let s = h.1 in
    let rest = joined allows h.0 new visits h.2 in record {
      exchanges = exchanges_of s.serves.turns ∷ rest.exchanges;
      each = (record { old = old; new = h.0; serves = s; exchanges_are = refl }, rest.each);
      chain = chain_then allows old h.0 new (exchanges_of s.serves.turns) (all_of rest.exchanges) s.serves.served.answered rest.chain;
    }

module _ {C E : Type 0} (steps : C → List E → Message → ℕ → Reply → List E → Type 0) where
  -- what is seen over a step goes on
  pub step_begins : (old : AtFront C E) (message : Message) (moment : ℕ) (reply : Reply) (new : AtFront C E)
      → Allows steps old message moment reply new → IsPrefix old.front new.front
  step_begins old message moment reply new a =
      prefix_trans old.front a.answered.found new.front a.answered.begins (grows_on a.answered.found new.front a.answered.grows)

  -- and over a chain of them
  chain_begins : (old new : AtFront C E) (exchanges : List Exchange) → Chain (Allows steps) old exchanges new → IsPrefix old.front new.front
  chain_begins old new [] same = subst (λ (d : AtFront C E). IsPrefix old.front d.front) (sym same) (prefix_self old.front)
  chain_begins old new (e ∷ exchanges) h =
      prefix_trans old.front h.0.front new.front (step_begins old e.message e.moment e.answer h.0 h.1) (chain_begins h.0 new exchanges h.2)

  -- the setting stays
  pub chain_setting : (old new : AtFront C E) (exchanges : List Exchange) → Chain (Allows steps) old exchanges new → new.setting ≡ old.setting
  chain_setting old new [] same = ap (λ (d : AtFront C E). d.setting) same
  chain_setting old new (e ∷ exchanges) h = chain_setting h.0 new exchanges h.2 ∙ h.1.setting

  -- a step that was made on what is now a beginning of a list
  pub is_step : (list : List E) (old : AtFront C E) (e : Exchange) (new : AtFront C E) → IsPrefix new.front list
      → Allows steps old e.message e.moment e.answer new → IsStepOf (steps old.setting) list (length old.front) old.grown e (length new.front) new.grown
  is_step list old e new within a =
      let found = a.answered.found in
      let on : IsPrefix found new.front = grows_on found new.front a.answered.grows in record {
        found = length found;
        later = prefix_length old.front found a.answered.begins;
        stays = prefix_length found new.front on;
        one = grows_one found new.front a.answered.grows;
        within = prefix_length new.front list within;
        step =
            subst (λ (l : List E). steps old.setting l e.message e.moment e.answer (take (length new.front) list)) (sym (taken_is found list (prefix_trans found new.front list on within)))
            (subst (λ (l : List E). steps old.setting found e.message e.moment e.answer l) (sym (taken_is new.front list within)) a.answered.step);
        counts = a.answered.counts;
      }

  -- a chain whose last front begins a list is made of steps of that list
  pub are_steps : (setting : C) (list : List E) (old new : AtFront C E) (exchanges : List Exchange) → old.setting ≡ setting → IsPrefix new.front list
      → Chain (Allows steps) old exchanges new → AreStepsOf (steps setting) list (length old.front) old.grown exchanges (length new.front) new.grown
  are_steps setting list old new [] is within same = (ap (λ (d : AtFront C E). length d.front) same, ap (λ (d : AtFront C E). d.grown) same)
  are_steps setting list old new (e ∷ exchanges) is within h = (
    length h.0.front,
    h.0.grown,
    subst (λ (s : C). IsStepOf (steps s) list (length old.front) old.grown e (length h.0.front) h.0.grown) is
        (is_step list old e h.0 (prefix_trans h.0.front new.front list (chain_begins h.0 new exchanges h.2) within) h.1),
    are_steps setting list h.0 new exchanges (h.1.setting ∙ is) within h.2,
  )
