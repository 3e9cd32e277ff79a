-- A hub that began with a journal, and what its workers did once it is closed.
use Rattle.std.proofs.Common.{◌≡◌, ℕ, ◌+◌, ◌-◌, ◌<◌, ◌≤◌, zero, suc, Bool, true, false, List, [], ◌∷◌, length, map, take, drop, get_or, length-drop, sym, ap, ◌∙◌, subst, arith}
use Rattle.std.specs.Prelude.{IfSome, slice_get}
use Rattle.std.specs.List.{AllByRecursion, range_with_len}
use Rattle.std.proofs.lemmas.List.{length-take-le}
use Rattle.std.proofs.Math.Decide.{dec_le}
use mathlib.Core.Logic.{dite}
use mathlib.Core.List.{IsPrefix}
use Rattle.osm_outside.specs.Port.{PortTold}
use Rattle.machine_law.specs.Rules.{Rules}
use Rattle.machine_law.specs.declared.tags.Tag.{Tag}
use Rattle.hub_core.specs.Journal.{calls_of}
use Rattle.user_table.specs.Users.{Users}
use Rattle.snapshot_hub.specs.Known.{Known, returner}
use Rattle.snapshot_hub.specs.Closed.{HasClosed}
use Rattle.snapshot_hub.specs.Closings.{AreSeated}
use Rattle.durable_log.specs.Receipts.{AreKept}
use Rattle.durable_log.specs.Receipts.{Receipt}
use Rattle.link_workers.specs.declared.outcome.Outcome.{Outcome}
use Rattle.session_desk.specs.Answered.{RowOf}
use Rattle.desk_serve.specs.KeptPorts.{HaveKept}
use Rattle.desk_serve.proofs.KeptJoined.{KeptChain, KeptStay}
use Rattle.desk_serve.proofs.Sound.{PointsConsistent}
use Rattle.kept_desk.specs.Kept.{AtKept}
use Rattle.kept_serve.specs.Ports.{ServesKeptPorts, AreMatched, EndsSo}
use Rattle.kept_serve.proofs.Serving.{ReceiptsStay, first_one, first_ones, other_ones, ports_kept}

module _ {E : Type 0} (tag_of : E → Tag) where
  too_many : (limit : ℕ) (journal : List E) (last : ℕ) → (suc last ≤ limit → ⊥) → AreSeated tag_of limit journal
      → ((session : ℕ) → suc last ≡ session + 1 → 0 < calls_of tag_of session journal) → ⊥
  too_many limit journal last more seated least =
      let past : limit ≤ last = omega (arith, more) in
      let none : calls_of tag_of last journal ≡ 0 = seated last past in
      let some : 0 < calls_of tag_of last journal = least last (omega arith) in omega (arith, none, some)

  -- A journal has no more sessions than those that may have entries.
  pub few_sessions : (limit : ℕ) (journal : List E) (sessions : ℕ) → AreSeated tag_of limit journal
      → ((session : ℕ) → sessions ≡ session + 1 → 0 < calls_of tag_of session journal) → sessions ≤ limit
  few_sessions limit journal zero seated least = omega arith
  few_sessions limit journal (suc last) seated least = dite (dec_le (suc last) limit) (λ le. le) (λ more. absurd (too_many limit journal last more seated least))

-- the first receipt is for the whole journal
pub first_had : {E : Type 0} (J front : List E) (had given : List Receipt) → front ≡ J → had ≡ given
    → (r : Receipt) × (given ≡ r ∷ []) × (r.count ≡ length front) → (r : Receipt) × (had ≡ r ∷ []) × (r.count ≡ length J)
first_had {E} J front had given same is first = (first.0, is ∙ first.1, first.2 ∙ ap (λ (l : List E). length l) same)

module _ {S C Q P E K : Type 0} (rules : Rules S C Q P E K) where
  -- what a session of that number knows of the journal that its hub began with
  abbrev pub begun_at : List E → ℕ → Known E
  begun_at J number = returner number J (calls_of rules.tag_of number J)

  -- the first session has seen the whole journal
  pub front_of_first : (J : List E) (items : List (Known E)) (first : Known E) (front : List E)
      → ((number : ℕ) → IfSome (slice_get items number) (λ s. s ≡ begun_at J number)) → 0 < length items
      → first ≡ get_or items 0 first → front ≡ first.front → front ≡ J
  front_of_first J items first front each some is same = same ∙ ap (λ (k : Known E). k.front) (is ∙ first_one (begun_at J) items first each some)

  module _ {V : Type 0} (row : RowOf E) (text : List E → List ℕ) (moment : V → ℕ) (left_since : V → ℕ → List ℕ → Type 0) (faults : V → ℕ) where
    -- what ports were served to come to, by the sessions of the hub and by what came back from its workers
    pub kept_ports : KeptChain row → KeptStay row → PointsConsistent rules → ReceiptsStay rules row text moment left_since
        → (users : Users) (seats named : ℕ) (J : List E) (before after : List PortTold) (begun seated sessions spare : List (Known E)) (stopped : List (AtKept E))
        (in_hand : List (List Receipt)) (had given : List Receipt) (held : List E) (device : V) (withheld failed broken : Bool) (outcome : Outcome)
        → 0 < length before → length before ≤ seats → seats ≡ named → length begun ≡ seats
        → ((number : ℕ) → IfSome (slice_get begun number) (λ s. s ≡ begun_at J number)) → seated ≡ take (length before) begun → spare ≡ drop (length before) begun
        → map (λ s. s.desk.known) stopped ≡ sessions → map (λ s. s.receipts) stopped ≡ in_hand
        → (withheld ≡ false → AllByRecursion (λ it. it.failed ≡ false) stopped)
        → ((numbers : List ℕ) (K : List E) → seated ≡ map (begun_at K) numbers → HaveKept rules row users K had numbers stopped before after failed)
        → AllByRecursion (λ receipts. IsPrefix had receipts) in_hand → (r : Receipt) × (had ≡ r ∷ []) × (r.count ≡ length J)
        → HasClosed rules named sessions spare → AreKept text moment left_since device held given
        → (broken ≡ false → faults device ≡ 0) → (broken ≡ true → 0 < faults device)
        → AreMatched in_hand withheld sessions held given broken → EndsSo failed broken outcome
        → ServesKeptPorts rules row text moment left_since faults users J device before after outcome
    kept_ports chain stay consistent longer users seats named J before after begun seated sessions spare stopped in_hand had given held device withheld failed broken outcome some enough same count each is others known_are hands_are none served begin (r, had_is, for_all) closed kept fine broke matched ends =
        let n = length before in
        let long : length (take n begun) ≡ n = length-take-le n begun (omega (arith, enough, count)) in
        let rest : length (drop n begun) ≡ seats - n = length-drop n begun ∙ ap (λ (k : ℕ). k - n) count in
        ports_kept rules row text moment left_since faults chain stay consistent longer users seats J before after stopped sessions spare in_hand r given held device withheld failed broken outcome
        some known_are hands_are none
        (subst (λ (l : List Receipt). HaveKept rules row users J l (range_with_len 0 n) stopped before after failed) had_is
        (served (range_with_len 0 n) J (is ∙ first_ones (begun_at J) n begun each long)))
        (others ∙ (other_ones (begun_at J) n begun each ∙ ap (λ (k : ℕ). map (begun_at J) (range_with_len n k)) rest))
        (subst (λ (l : List Receipt). AllByRecursion (λ receipts. IsPrefix l receipts) in_hand) had_is begin) for_all
        (subst (λ (k : ℕ). HasClosed rules k sessions spare) (sym same) closed) kept fine broke matched ends
