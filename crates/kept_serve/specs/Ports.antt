-- What serving ports comes to by a hub whose journal is kept in a file.
use Rattle.std.specs.Prelude.{◌≡◌, ◌⊎◌, ℕ, ◌<◌, ◌≤◌, ◌^◌, ⊤, Bool, true, false, List, length}
use Rattle.std.specs.List.{AllByRecursion}
use mathlib.Core.List.{IsPrefix}
use Rattle.osm_outside.specs.Port.{PortTold}
use Rattle.machine_law.specs.Rules.{Rules}
use Rattle.user_table.specs.Users.{Users}
use Rattle.snapshot_hub.specs.Known.{Known}
use Rattle.journal_file.specs.Settled.{IsSealed}
use Rattle.durable_log.specs.Held.{LeavesAll}
use Rattle.durable_log.specs.Receipts.{Receipt}
use Rattle.session_desk.specs.Answered.{RowOf}
use Rattle.desk_serve.specs.KeptPorts.{ServesKept}
use Rattle.link_workers.specs.declared.outcome.Outcome.{Outcome}
use Rattle.link_workers.specs.declared.outcome.Outcome.TheVariants.{Served, Failed, Unkept, LacksMemory}

-- over the rules of a machine, what one message may be answered, how a journal is written, and what a file that it is kept in tells
module _ {S C Q P E K D : Type 0} (rules : Rules S C Q P E K) (row : RowOf E) (text : List E → List ℕ) (moment : D → ℕ)
    (left_since : D → ℕ → List ℕ → Type 0) (faults : D → ℕ) where
  -- By the users, the journal that the hub began with, the file as it was at last, and the ports before and after. Where serving ended in
  -- order no call of the device had failed. Where one had, whatever was told before is kept too. Want of memory leaves the ports as they were,
  -- and the file with the whole journal, of which no call had failed either.
  abbrev pub ServesKeptPorts : Users → List E → D → List PortTold → List PortTold → Outcome → Type 0
  ServesKeptPorts users J device before after Served =
      ServesKept rules row text moment left_since faults users J before after false device × (faults device ≡ 0)
  ServesKeptPorts users J device before after Failed =
      ServesKept rules row text moment left_since faults users J before after true device × (faults device ≡ 0)
  ServesKeptPorts users J device before after Unkept =
      (failed : Bool) × ServesKept rules row text moment left_since faults users J before after failed device × (0 < faults device)
  ServesKeptPorts users J device before after LacksMemory = (after ≡ before) × LeavesAll text moment left_since device J × (faults device ≡ 0)

-- over how a journal is written, and what the bytes of a file that it is kept in are now
module _ {E D : Type 0} (text : List E → List ℕ) (seen : D → List ℕ) where
  -- Two empty lines stand behind the text of these entries, and zeros behind those; or the file is so long that nothing more is added to it.
  abbrev pub IsSealedWith : List E → D → Type 0
  IsSealedWith entries device = ((old : List ℕ) × IsSealed (text entries) old (seen device)) ⊎ (2 ^ 62 ≤ length (seen device))

  -- Where serving ended with no failed call of the device, its file tells of a byte of the last batch that is lost later.
  abbrev pub EndsSealed : D → Outcome → Type 0
  EndsSealed device Served = (entries : List E) × IsSealedWith entries device
  EndsSealed device Failed = (entries : List E) × IsSealedWith entries device
  EndsSealed device Unkept = ⊤
  EndsSealed device LacksMemory = ⊤

-- ---- for clauses of what leads there

-- What sessions held at last is what the file's shelf gave: the receipts in hand of each are the first ones of its receipts; a list that
-- begins with all that each session has seen begins with all that the file may hold; and a reply was withheld because keeping failed only
-- where the shelf is broken.
pub record AreMatched {E : Type 0} (in_hand : List (List Receipt)) (withheld : Bool) (sessions : List (Known E)) (entries : List E) (receipts : List Receipt)
    (broken : Bool) : Type 0 where
  pub given : AllByRecursion (λ held. IsPrefix held receipts) in_hand
  pub seen : (one : List E) → AllByRecursion (λ session. IsPrefix session.front one) sessions → IsPrefix entries one
  pub failed : withheld ≡ true → broken ≡ true

-- how serving ended, by whether accepting failed, and whether a call of the device did
abbrev pub EndsSo : Bool → Bool → Outcome → Type 0
EndsSo failed broken Served = (failed ≡ false) × (broken ≡ false)
EndsSo failed broken Failed = (failed ≡ true) × (broken ≡ false)
EndsSo failed broken Unkept = broken ≡ true
EndsSo failed broken LacksMemory = ⊥
