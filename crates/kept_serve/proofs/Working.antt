-- What comes back from desks that keep before they tell, as contracts see it.
use Rattle.std.proofs.Common.{◌≡◌, ℕ, List, [], ◌∷◌, ◌++◌, length, map, sym, ap, ◌∙◌, subst, arith}
use Rattle.std.specs.List.{AllByRecursion, AllZip}
use Rattle.std.proofs.lemmas.List.{length-map}
use mathlib.Core.List.{IsPrefix}
use Rattle.osm_outside.specs.Told.{Told}
use Rattle.osm_outside.specs.Port.{PortTold}
use Rattle.http_link.specs.declared.end.LinkEnd.{LinkEnd}
use Rattle.link_workers.specs.declared.worker.Worker.{Worker}
use Rattle.link_workers.specs.Port.{Visit, ServesEach}
use Rattle.link_workers.specs.Seats.{seated, sessions_of}
use Rattle.link_workers.specs.Workers.{Works}
use Rattle.machine_law.specs.Rules.{Rules}
use Rattle.durable_log.specs.Receipts.{Receipt}
use Rattle.session_desk.specs.Answered.{RowOf}
use Rattle.session_desk.proofs.Lists.{prefix_self, prefix_trans}
use Rattle.kept_desk.specs.Kept.{AtKept}
use Rattle.desk_serve.specs.Kept.{KeepsLink}
use Rattle.desk_serve.proofs.Working.{seen_through, cons_same, nil_other}
use Rattle.desk_serve.proofs.KeptWorking.{AreSeen}

-- what is seen of something that is seen of desks, which were put behind an empty list
pub seen_back : {D A X : Type 0} (view : D → A) (part : A → X) (left before : List X) (desks back : List D)
    → left ≡ before ++ map (λ desk. part (view desk)) desks → before ≡ [] → desks ≡ back → map part (map view back) ≡ left
seen_back view part left before desks back taken empty same =
    sym (taken
    ∙ (ap (λ l. l ++ map (λ desk. part (view desk)) desks) empty ∙ (ap (λ l. map (λ desk. part (view desk)) l) same ∙ seen_through view part back)))

-- what holds of what is seen of each desk holds of all that is seen
pub all_seen : {D A : Type 0} (view : D → A) (Q : A → Type 0) (desks : List D) → AllByRecursion (λ desk. Q (view desk)) desks → AllByRecursion Q (map view desks)
all_seen view Q [] h = tt
all_seen view Q (d ∷ desks) h = (h.0, all_seen view Q desks h.1)

-- what is made of what sessions know, where that is told by their numbers
pub starts_are : {A X Y : Type 0} (knows : A → X) (f : X → Y) (start : ℕ → X) (sessions : List A) (numbers : List ℕ)
    → map knows sessions ≡ map start numbers → map (λ s. f (knows s)) sessions ≡ map (λ n. f (start n)) numbers
starts_are knows f start sessions numbers same = seen_through knows f sessions ∙ (ap (λ l. map f l) same ∙ sym (seen_through start f numbers))

-- there are as many numbers as sessions
pub numbers_count : {A X : Type 0} (knows : A → X) (start : ℕ → X) (sessions : List A) (numbers : List ℕ)
    → map knows sessions ≡ map start numbers → length numbers ≡ length sessions
numbers_count knows start sessions numbers same =
    sym (length-map numbers start) ∙ (sym (ap (λ l. length l) same) ∙ length-map sessions knows)

module _ {S C Q P E K : Type 0} (rules : Rules S C Q P E K) (row : RowOf E) where
  -- no receipt in hand is lost over a link
  link_grows : (old new : AtKept E) (before after : Told) (end : LinkEnd) → KeepsLink rules row old new before after end → IsPrefix old.receipts new.receipts
  link_grows old new before after end k = subst (λ (l : List Receipt). IsPrefix l new.receipts) k.receipts (k.kept 0 (omega arith)).receipts

  module _ {D Port : Type 0} (serves : D → D → Told → Told → LinkEnd → Type 0) (view : D → AtKept E) (seen : AreSeen serves (KeepsLink rules row) view)
      (told : Port → PortTold) where
    each_grows : (old new : D) (visits : List Visit) → ServesEach serves old visits new → IsPrefix (view old).receipts (view new).receipts
    each_grows old new [] same = subst (λ (d : D). IsPrefix (view old).receipts (view d).receipts) (sym same) (prefix_self (view old).receipts)
    each_grows old new (v ∷ visits) h =
        prefix_trans (view old).receipts (view h.0).receipts (view new).receipts
        (link_grows (view old) (view h.0) v.came v.went v.end (seen old h.0 v.came v.went v.end h.1)) (each_grows h.0 new visits h.2)

    -- the receipts that each desk had at first are the first ones of those that it has at last
    pub had_in_hand : {A : Type 0} (start : A → AtKept E) (had : List Receipt) → ((s : A) → (start s).receipts ≡ had)
        → (desks : List D) (sessions : List A) (ports : List Port) (new : List (Worker D Port)) → map view desks ≡ map start sessions
        → AllZip (Works serves told) (seated desks ports) new → AllByRecursion (λ held. IsPrefix had held) (map (λ s. s.receipts) (map view (sessions_of new)))
    had_in_hand start had has [] sessions ports [] are h = tt
    had_in_hand start had has [] sessions ports (w ∷ new) are h = absurd h
    had_in_hand start had has (d ∷ desks) [] ports new are h = absurd (nil_other (view d) (map view desks) are)
    had_in_hand start had has (d ∷ desks) (s ∷ sessions) [] [] are h = tt
    had_in_hand start had has (d ∷ desks) (s ∷ sessions) [] (w ∷ new) are h = absurd h
    had_in_hand start had has (d ∷ desks) (s ∷ sessions) (p ∷ ports) [] are h = absurd h
    had_in_hand start had has (d ∷ desks) (s ∷ sessions) (p ∷ ports) (w ∷ new) are h =
        let same = cons_same (view d) (start s) (map view desks) (map start sessions) are in
        let mine : (view d).receipts ≡ had = ap (λ (k : AtKept E). k.receipts) same.0 ∙ has s in (
          subst (λ (l : List Receipt). IsPrefix l (view w.session).receipts) mine (each_grows d w.session h.0.links.visits h.0.links.served),
          had_in_hand start had has desks sessions ports new same.1 h.1,
        )
