-- A list in segments of one length.
use Rattle.std.specs.Prelude.{◌≡◌, ℕ, ◌<◌, ◌≤◌, ◌^◌, List, [], ◌∷◌, length}
use Rattle.std.specs.List.{flat_map}

abbrev pub joined : {T : Type 0} → List (List T) → List T
joined segments = flat_map (λ segment. segment) segments

-- each segment but the last has 1024 items, and the last has at least one
abbrev pub AllFullButLast : {T : Type 0} → List (List T) → Type 0
AllFullButLast [] = Unit {0}
AllFullButLast (segment ∷ rest) = (0 < length segment) × ((length segment ≤ 1024) × ((0 < length rest → length segment ≡ 1024) × AllFullButLast rest))

pub record IsInSegments {T : Type 0} (segments : List (List T)) (count : ℕ) : Type 0 where
  pub split : AllFullButLast segments
  pub counted : count ≡ length (joined segments)
  pub few : count < 2 ^ 63
