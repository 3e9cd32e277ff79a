-- What of a file counts: a first line, and the whole lines behind it.
use Rattle.std.specs.Prelude.{◌≡◌, ◌≢◌, ⊤, ℕ, ◌==◌, List, [], ◌∷◌, ◌++◌, if◌then◌else◌, Option, Some, None, option_map, unwrap_or}

abbrev pub with_first : ℕ → Option (List ℕ) → Option (List ℕ)
with_first b rest = option_map (λ bs. b ∷ bs) rest

abbrev mutual
  -- the whole lines at the front: each begins with `{` and is ended by byte 10; an empty line among them is passed over
  pub whole : List ℕ → List ℕ
  whole [] = []
  whole (b ∷ bs) = if b == 123 then unwrap_or (with_first b (ended bs)) [] else (if b == 10 then whole bs else [])

  -- the rest of a begun line and the whole lines behind it; none where a byte 0 stands in that line or no byte 10 ends it
  pub ended : List ℕ → Option (List ℕ)
  ended [] = None
  ended (b ∷ bs) = if b == 0 then None else (if b == 10 then Some (b ∷ whole bs) else with_first b (ended bs))

-- the text that a file stands for: its first line, the header, and the whole lines behind it
abbrev pub text_of : List ℕ → List ℕ
text_of file = unwrap_or (ended file) []

-- a first line and whole lines, and nothing else
abbrev pub IsText : List ℕ → Type 0
IsText text = ended text ≡ Some text

-- whole lines, and nothing else
abbrev pub AreLines : List ℕ → Type 0
AreLines lines = whole lines ≡ lines

-- whole lines, and an empty one that ends them
abbrev pub IsBatch : List ℕ → Type 0
IsBatch batch = batch ≡ whole batch ++ 10 ∷ []

-- it begins with this header
abbrev pub BeginsWith : List ℕ → List ℕ → Type 0
BeginsWith header file = (rest : List ℕ) × (file ≡ header ++ rest)

abbrev mutual
  -- what stands behind the whole lines at the front and the empty ones among them
  pub behind_lines : List ℕ → List ℕ
  behind_lines [] = []
  behind_lines (b ∷ bs) = if b == 123 then unwrap_or (behind_line bs) (b ∷ bs) else (if b == 10 then behind_lines bs else b ∷ bs)

  -- the same behind the rest of a begun line
  pub behind_line : List ℕ → Option (List ℕ)
  behind_line [] = None
  behind_line (b ∷ bs) = if b == 0 then None else (if b == 10 then Some (behind_lines bs) else behind_line bs)

-- what stands behind the text of a file, which is all of it where it has none
abbrev pub rest_of : List ℕ → List ℕ
rest_of file = unwrap_or (behind_line file) file

-- These bytes stand for the text, whatever stands behind them: what counts of that is what its own whole lines are.
pub record IsRaw (raw text : List ℕ) : Type 0 where
  pub stands : (more : List ℕ) → ended (raw ++ more) ≡ Some (text ++ whole more)
  pub stops : (more : List ℕ) → behind_line (raw ++ more) ≡ Some (behind_lines more)

abbrev mutual
  -- lines without the empty ones among them
  pub packed : List ℕ → List ℕ
  packed [] = []
  packed (b ∷ bs) = if b == 10 then packed bs else b ∷ packed_line bs

  -- the rest of a begun line, and the lines behind it without the empty ones
  pub packed_line : List ℕ → List ℕ
  packed_line [] = []
  packed_line (b ∷ bs) = b ∷ (if b == 10 then packed bs else packed_line bs)

-- what may stand in a line behind its first byte: neither the byte 10 that ends it nor a byte 0
abbrev pub IsOneLine : List ℕ → Type 0
IsOneLine [] = ⊤
IsOneLine (b ∷ bs) = (b ≢ 0) × (b ≢ 10) × IsOneLine bs

-- These whole lines begin with the line of `{` and these bytes, and the others of them are a front of what stands behind it.
pub record GoesOn (line more some rest : List ℕ) : Type 0 where
  pub others : List ℕ
  pub is : some ≡ 123 ∷ (line ++ 10 ∷ others)
  pub whole : AreLines others
  pub front : more ≡ others ++ rest
