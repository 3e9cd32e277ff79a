-- What a reader gives that was limited.
use Rattle.std.proofs.Common.{◌≡◌, ◌∙◌, ◌++◌, ℕ, List, [], Option, Some, None, IfSome, take, ap}
use Rattle.std.specs.Option.{option_map}

pub of_limited : (known : Option (List ℕ)) (n : ℕ) (bytes start : List ℕ) → start ≡ []
    → IfSome (option_map (take n) known) (λ xs. bytes ≡ start ++ xs) → IfSome known (λ text. bytes ≡ take n text)
of_limited None n bytes start e h = tt
of_limited (Some text) n bytes start e h = h ∙ ap (λ l. l ++ take n text) e
