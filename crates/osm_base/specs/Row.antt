-- A list, and how many more items it is promised room for.
use Rattle.std.specs.Prelude.{ℕ, List}

pub record Row (T : Type 0) : Type 0 where
  pub items : List T
  pub free : ℕ
