-- What workers did over a hub whose journal is kept in a file, once the hub is closed.
use Rattle.std.proofs.Common.{◌≡◌, ℕ, ◌+◌, ◌-◌, ◌<◌, ◌≤◌, zero, suc, Bool, true, false, List, [], ◌∷◌, ◌++◌, length, map, take, drop, get_or, refl, sym, ap, ◌∙◌, subst, arith}
use Rattle.std.specs.Prelude.{IfSome, slice_get}
use Rattle.std.specs.List.{AllByRecursion, range_with_len}
use Rattle.std.proofs.lemmas.Bool.{both_ways}
use mathlib.Core.List.{IsPrefix}
use Rattle.osm_outside.specs.Port.{PortTold}
use Rattle.machine_law.specs.Rules.{Rules}
use Rattle.user_table.specs.Users.{Users}
use Rattle.hub_core.specs.Journal.{calls_of}
use Rattle.snapshot_hub.specs.Known.{Known, returner}
use Rattle.snapshot_hub.specs.Closed.{HasAllOf, HasClosed}
use Rattle.durable_log.specs.Receipts.{AreKept}
use Rattle.durable_log.specs.Receipts.{Receipt}
use Rattle.link_workers.specs.declared.outcome.Outcome.{Outcome}
use Rattle.link_workers.specs.declared.outcome.Outcome.TheVariants.{Served, Failed, Unkept, LacksMemory}
use Rattle.session_desk.specs.Answered.{RowOf}
use Rattle.session_desk.proofs.Lists.{prefix_trans}
use Rattle.kept_desk.specs.Kept.{AtKept}
use Rattle.desk_serve.specs.KeptPorts.{KeptShift, kept_returner, HasKeptPort, HaveKept, ServesKept}
use Rattle.desk_serve.proofs.KeptJoined.{KeptChain, KeptStay, kept_joined}
use Rattle.desk_serve.proofs.KeptWorking.{serves_kept}
use Rattle.desk_serve.proofs.Sound.{PointsConsistent}
use Rattle.kept_serve.specs.Ports.{ServesKeptPorts, AreMatched, EndsSo}

-- ---- the sessions of a hub, by their numbers

suc_moves : (first k : ℕ) → first + suc k ≡ first + 1 + k
suc_moves first k = omega arith

module _ {X : Type 0} (start : ℕ → X) where
  are_from : (items : List X) (first : ℕ) → ((number : ℕ) → IfSome (slice_get items number) (λ s. s ≡ start (first + number)))
      → items ≡ map start (range_with_len first (length items))
  are_from [] first h = refl
  are_from (x ∷ items) first h =
      let head : x ≡ start first = h 0 ∙ ap start (omega arith) in
      let rest = are_from items (first + 1) (λ k. subst (λ (n : ℕ). IfSome (slice_get items k) (λ s. s ≡ start n)) (suc_moves first k) (h (suc k))) in
      λ i. head i ∷ rest i

  some_taken : (Q : X → Type 0) (count : ℕ) (items : List X) (number : ℕ) → IfSome (slice_get items number) Q → IfSome (slice_get (take count items) number) Q
  some_taken Q zero items number h = tt
  some_taken Q (suc count) [] number h = h
  some_taken Q (suc count) (x ∷ items) zero h = h
  some_taken Q (suc count) (x ∷ items) (suc number) h = some_taken Q count items number h

  plain : (items : List X) (number : ℕ) → IfSome (slice_get items number) (λ s. s ≡ start number) → IfSome (slice_get items number) (λ s. s ≡ start (0 + number))
  plain items number h = subst (λ (n : ℕ). IfSome (slice_get items number) (λ s. s ≡ start n)) (omega arith) h

  -- the first ones of the sessions, whose numbers begin with 0
  pub first_ones : (count : ℕ) (items : List X) → ((number : ℕ) → IfSome (slice_get items number) (λ s. s ≡ start number))
      → length (take count items) ≡ count → take count items ≡ map start (range_with_len 0 count)
  first_ones count items h long =
      are_from (take count items) 0 (λ number. plain (take count items) number (some_taken (λ s. s ≡ start number) count items number (h number)))
      ∙ ap (λ (n : ℕ). map start (range_with_len 0 n)) long

  -- an item behind so many
  get-drop : (count : ℕ) (items : List X) (number : ℕ) → slice_get (drop count items) number ≡ slice_get items (count + number)
  get-drop zero items number = ap (λ (n : ℕ). slice_get items n) (omega arith)
  get-drop (suc count) [] number = refl
  get-drop (suc count) (x ∷ items) number =
      let next : suc count + number ≡ suc (count + number) = omega arith in
      get-drop count items number ∙ sym (ap (λ (n : ℕ). slice_get (x ∷ items) n) next)

  some_dropped : (count : ℕ) (items : List X) → ((number : ℕ) → IfSome (slice_get items number) (λ s. s ≡ start number))
      → (number : ℕ) → IfSome (slice_get (drop count items) number) (λ s. s ≡ start (count + number))
  some_dropped count items h number =
      subst (λ o. IfSome o (λ s. s ≡ start (count + number))) (sym (get-drop count items number)) (h (count + number))

  -- the other ones, whose numbers go on from there
  pub other_ones : (count : ℕ) (items : List X) → ((number : ℕ) → IfSome (slice_get items number) (λ s. s ≡ start number))
      → drop count items ≡ map start (range_with_len count (length (drop count items)))
  other_ones count items h = are_from (drop count items) count (some_dropped count items h)

  -- the first one
  pub first_one : (items : List X) (d : X) → ((number : ℕ) → IfSome (slice_get items number) (λ s. s ≡ start number)) → 0 < length items → get_or items 0 d ≡ start 0
  first_one [] d h some = absurd (omega (arith, some))
  first_one (x ∷ items) d h some = h 0

-- ---- what holds of each item

module _ {A B : Type 0} (f : A → B) (Q : B → Type 0) where
  all_through : (items : List A) → AllByRecursion Q (map f items) → AllByRecursion (λ x. Q (f x)) items
  all_through [] h = tt
  all_through (x ∷ items) h = (h.0, all_through items h.1)

-- those that each has in hand lie between those that each had and all that were given
first_given : (had given : List Receipt) (in_hand : List (List Receipt)) → 0 < length in_hand → AllByRecursion (λ held. IsPrefix had held) in_hand
    → AllByRecursion (λ held. IsPrefix held given) in_hand → IsPrefix had given
first_given had given [] some before after = absurd (omega (arith, some))
first_given had given (held ∷ in_hand) some before after = prefix_trans had held given before.0 after.0

-- what was compared, as slices and fronts of their own
pub matched_of : {E : Type 0} (in_hand hands : List (List Receipt)) (withheld broken : Bool) (sessions slice : List (Known E)) (entries front : List E) (receipts given : List Receipt)
    → hands ≡ in_hand → given ≡ receipts → slice ≡ sessions → front ≡ entries → AllByRecursion (λ held. IsPrefix held given) hands
    → ((one : List E) → AllByRecursion (λ session. IsPrefix session.front one) slice → IsPrefix front one) → (withheld ≡ true → broken ≡ true)
    → AreMatched in_hand withheld sessions entries receipts broken
matched_of {E} in_hand hands withheld broken sessions slice entries front receipts given hands_are given_is slice_is front_is held seen failed = record {
  given =
      subst (λ (l : List (List Receipt)). AllByRecursion (λ h. IsPrefix h receipts) l) hands_are
      (subst (λ (r : List Receipt). AllByRecursion (λ h. IsPrefix h r) hands) given_is held);
  seen = λ one each.
      subst (λ (l : List E). IsPrefix l one) front_is
      (seen one (subst (λ (l : List (Known E)). AllByRecursion (λ session. IsPrefix session.front one) l) (sym slice_is) each));
  failed = failed;
}

-- of sessions of which one at most withheld a reply because keeping failed, each did so only for a cause
all_caused : {E : Type 0} (cause : Type 0) (withheld : Bool) (stopped : List (AtKept E)) → (withheld ≡ true → cause)
    → (withheld ≡ false → AllByRecursion (λ it. it.failed ≡ false) stopped) → AllByRecursion (λ it. it.failed ≡ true → cause) stopped
all_caused {E} cause true stopped so none = of_cause (so refl) stopped
  where
    of_cause : cause → (items : List (AtKept E)) → AllByRecursion (λ it. it.failed ≡ true → cause) items
    of_cause holds [] = tt
    of_cause holds (it ∷ items) = (λ was. holds, of_cause holds items)
all_caused {E} cause false stopped so none = of_none stopped (none refl)
  where
    of_none : (items : List (AtKept E)) → AllByRecursion (λ it. it.failed ≡ false) items → AllByRecursion (λ it. it.failed ≡ true → cause) items
    of_none [] h = tt
    of_none (it ∷ items) h = (λ was. absurd (both_ways it.failed h.0 was), of_none items h.1)

-- what holds of the one list of a closed hub holds of the beginnings
begins_all : {S C Q P E K : Type 0} (rules : Rules S C Q P E K) (one : List E) (sessions : List (Known E)) → AllByRecursion (HasAllOf rules one) sessions
    → AllByRecursion (λ session. IsPrefix session.front one) sessions
begins_all rules one [] h = tt
begins_all rules one (s ∷ sessions) h = (h.0.begins, begins_all rules one sessions h.1)

module _ {S C Q P E K : Type 0} (rules : Rules S C Q P E K) (row : RowOf E) where
  -- what a session that began with the journal J has seen at last begins with it
  begun : KeptChain row → (users : Users) (J : List E) (had : List Receipt) (shift : KeptShift E) → HasKeptPort rules row users J had shift
      → IsPrefix J shift.stopped.desk.known.front
  begun chain users J had shift h =
      (kept_joined rules row chain (kept_returner rules users shift.number J had) shift.stopped h.links.visits 0 (omega arith) h.links.served).joined.begins

  goes_on : KeptChain row → (users : Users) (J one : List E) (had : List Receipt) (shifts : List (KeptShift E)) → 0 < length (map (λ shift. shift.before) shifts)
      → AllByRecursion (HasKeptPort rules row users J had) shifts
      → AllByRecursion (λ session. IsPrefix session.front one) (map (λ it. it.desk.known) (map (λ shift. shift.stopped) shifts)) → IsPrefix J one
  goes_on chain users J one had [] some served seen = absurd (omega (arith, some))
  goes_on chain users J one had (s ∷ shifts) some served seen =
      prefix_trans J s.stopped.desk.known.front one (begun chain users J had s served.0) seen.0

  -- There are as many shifts as sessions that stopped.
  some_stopped : (shifts : List (KeptShift E)) → 0 < length (map (λ shift. shift.before) shifts)
      → 0 < length (map (λ (it : AtKept E). it.receipts) (map (λ shift. shift.stopped) shifts))
  some_stopped [] some = some
  some_stopped (s ∷ shifts) some = omega arith

  module _ {D : Type 0} (text : List E → List ℕ) (moment : D → ℕ) (left_since : D → ℕ → List ℕ → Type 0) where
    -- what is kept of a list is kept of each longer one
    abbrev pub ReceiptsStay : Type 0
    ReceiptsStay = (device : D) (entries longer : List E) (receipts : List Receipt) → IsPrefix entries longer
        → AreKept text moment left_since device entries receipts → AreKept text moment left_since device longer receipts

    module _ (faults : D → ℕ) (chain : KeptChain row) (stay : KeptStay row) (consistent : PointsConsistent rules) (longer : ReceiptsStay) where
      served_kept : (users : Users) (seats : ℕ) (J : List E) (before after : List PortTold) (stopped : List (AtKept E)) (sessions spare : List (Known E)) (in_hand : List (List Receipt))
          (first : Receipt) (receipts : List Receipt) (held : List E) (device : D) (withheld failed broken : Bool)
          → 0 < length before
          → map (λ s. s.desk.known) stopped ≡ sessions → map (λ s. s.receipts) stopped ≡ in_hand
          → (withheld ≡ false → AllByRecursion (λ it. it.failed ≡ false) stopped)
          → HaveKept rules row users J (first ∷ []) (range_with_len 0 (length before)) stopped before after failed
          → spare ≡ map (λ n. returner n J (calls_of rules.tag_of n J)) (range_with_len (length before) (seats - length before))
          → AllByRecursion (λ held. IsPrefix (first ∷ []) held) in_hand → first.count ≡ length J
          → HasClosed rules seats sessions spare → AreKept text moment left_since device held receipts → (broken ≡ true → 0 < faults device)
          → AreMatched in_hand withheld sessions held receipts broken
          → ServesKept rules row text moment left_since faults users J before after failed device
      served_kept users seats J before after stopped sessions spare in_hand first receipts held device withheld failed broken some known_are hands_are none served spare_are begin first_for closed kept broke matched =
          let shifts = served.shifts in
          let shut : HasClosed rules seats (map (λ (it : AtKept E). it.desk.known) stopped) spare = subst (λ (l : List (Known E)). HasClosed rules seats l spare) (sym known_are) closed in
          let one = shut.one in
          let seen : AllByRecursion (λ session. IsPrefix session.front one) (map (λ (it : AtKept E). it.desk.known) stopped) = begins_all rules one (map (λ (it : AtKept E). it.desk.known) stopped) shut.each in
          let some_shifts : 0 < length (map (λ (shift : KeptShift E). shift.before) shifts) = subst (λ (l : List PortTold). 0 < length l) (sym served.handed) some in
          let some_hands : 0 < length in_hand =
          subst (λ (l : List (List Receipt)). 0 < length l) (ap (λ (l : List (AtKept E)). map (λ it. it.receipts) l) served.stopped_are ∙ hands_are) (some_stopped shifts some_shifts) in
          serves_kept rules row text moment left_since faults chain stay consistent users seats J before after stopped spare failed device first receipts served spare_are shut
          (goes_on chain users J one (first ∷ []) shifts some_shifts served.served
          (subst (λ (l : List (AtKept E)). AllByRecursion (λ session. IsPrefix session.front one) (map (λ it. it.desk.known) l)) (sym served.stopped_are) seen))
          (longer device held one receipts (matched.seen one (subst (λ (l : List (Known E)). AllByRecursion (λ session. IsPrefix session.front one) l) known_are seen)) kept)
          (all_through (λ (it : AtKept E). it.receipts) (λ l. IsPrefix l receipts) stopped
          (subst (λ (l : List (List Receipt)). AllByRecursion (λ h. IsPrefix h receipts) l) (sym hands_are) matched.given))
          (all_caused (0 < faults device) withheld stopped (λ was. broke (matched.failed was)) none)
          (first_given (first ∷ []) receipts in_hand some_hands begin matched.given) first_for

      -- the same, by how serving ended
      pub ports_kept : (users : Users) (seats : ℕ) (J : List E) (before after : List PortTold) (stopped : List (AtKept E)) (sessions spare : List (Known E)) (in_hand : List (List Receipt))
          (first : Receipt) (receipts : List Receipt) (held : List E) (device : D) (withheld failed broken : Bool) (outcome : Outcome)
          → 0 < length before
          → map (λ s. s.desk.known) stopped ≡ sessions → map (λ s. s.receipts) stopped ≡ in_hand
          → (withheld ≡ false → AllByRecursion (λ it. it.failed ≡ false) stopped)
          → HaveKept rules row users J (first ∷ []) (range_with_len 0 (length before)) stopped before after failed
          → spare ≡ map (λ n. returner n J (calls_of rules.tag_of n J)) (range_with_len (length before) (seats - length before))
          → AllByRecursion (λ held. IsPrefix (first ∷ []) held) in_hand → first.count ≡ length J
          → HasClosed rules seats sessions spare → AreKept text moment left_since device held receipts
          → (broken ≡ false → faults device ≡ 0) → (broken ≡ true → 0 < faults device)
          → AreMatched in_hand withheld sessions held receipts broken → EndsSo failed broken outcome
          → ServesKeptPorts rules row text moment left_since faults users J device before after outcome
      ports_kept users seats J before after stopped sessions spare in_hand first receipts held device withheld failed broken Served some known_are hands_are none served spare_are begin first_for closed kept fine broke matched ends = (
        subst (λ (b : Bool). ServesKept rules row text moment left_since faults users J before after b device) ends.0
            (served_kept users seats J before after stopped sessions spare in_hand first receipts held device withheld failed broken some known_are hands_are none served spare_are begin first_for closed kept broke matched),
        fine ends.1,
      )
      ports_kept users seats J before after stopped sessions spare in_hand first receipts held device withheld failed broken Failed some known_are hands_are none served spare_are begin first_for closed kept fine broke matched ends = (
        subst (λ (b : Bool). ServesKept rules row text moment left_since faults users J before after b device) ends.0
            (served_kept users seats J before after stopped sessions spare in_hand first receipts held device withheld failed broken some known_are hands_are none served spare_are begin first_for closed kept broke matched),
        fine ends.1,
      )
      ports_kept users seats J before after stopped sessions spare in_hand first receipts held device withheld failed broken Unkept some known_are hands_are none served spare_are begin first_for closed kept fine broke matched ends = (
        failed,
        served_kept users seats J before after stopped sessions spare in_hand first receipts held device withheld failed broken some known_are hands_are none served spare_are begin first_for closed kept broke matched,
        broke ends,
      )
      ports_kept users seats J before after stopped sessions spare in_hand first receipts held device withheld failed broken LacksMemory some known_are hands_are none served spare_are begin first_for closed kept fine broke matched ends = absurd ends
