-- The statuses that a reply may have (RFC 9110, section 15).
use Rattle.std.specs.Prelude.{ℕ, List, [], ◌∷◌, ◌==◌, IsTrue}
use Rattle.std.specs.List.{list_any}

abbrev pub statuses : List ℕ
statuses = 200 ∷ 400 ∷ 401 ∷ 403 ∷ 404 ∷ 405 ∷ 409 ∷ 410 ∷ 412 ∷ 413 ∷ 415 ∷ 431 ∷ 501 ∷ 503 ∷ []

abbrev pub IsStatus : ℕ → Type 0
IsStatus status = IsTrue (list_any (λ s. s == status) statuses)
