-- Paths that name the keeper of a copy.
use Rattle.std.specs.Prelude.{◌≡◌, ℕ, List, ◌++◌, codes, true}
use Rattle.copied_file.specs.Copied.{Copied}

-- `+tcp://` stands somewhere in the path
abbrev pub NamesKeeper : List ℕ → Type 0
NamesKeeper path = (file : List ℕ) × (address : List ℕ) × (path ≡ file ++ (codes "+tcp://" ++ address))

-- A file given for a path that names a keeper has a copy, and it counts.
abbrev pub IsGivenFor : List ℕ → Copied → Type 0
IsGivenFor path file = NamesKeeper path → file.now.counts ≡ true
