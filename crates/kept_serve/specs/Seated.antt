-- What a hub that goes on from a journal serves ports by.
use Rattle.std.specs.Prelude.{◌≡◌, ℕ, List, take, drop, length, IfSome, slice_get}
use Rattle.hub_core.specs.Journal.{calls_of}
use Rattle.machine_law.specs.declared.tags.Tag.{Tag}
use Rattle.snapshot_hub.specs.Known.{Known, returner}

-- The sessions of so many ports and the spare ones are together all of the hub's, each of which stands at the end of that journal.
pub record IsSeated {E : Type 0} (tag_of : E → Tag) (seats : ℕ) (J : List E) (ports : ℕ) (sessions spare : List (Known E)) : Type 0 where
  pub all : List (Known E)
  pub count : length all ≡ seats
  pub each : (number : ℕ) → IfSome (slice_get all number) (λ s. s ≡ returner number J (calls_of tag_of number J))
  pub seated : sessions ≡ take ports all
  pub left : spare ≡ drop ports all
