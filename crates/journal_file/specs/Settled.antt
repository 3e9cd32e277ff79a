-- Files with zeros behind their text, which later lines are written over.
use Rattle.std.specs.Prelude.{◌≡◌, ◌⊎◌, ◌≢◌, ℕ, Bool, List, [], ◌∷◌, ◌++◌, length, replicate}
use Rattle.journal_file.specs.Device.{Only}
use Rattle.journal_file.specs.Whole.{text_of, AreLines, IsRaw, rest_of}

-- bytes that stand for the text, and zeros behind them
pub record IsRoomy (text file : List ℕ) : Type 0 where
  pub raw : List ℕ
  pub room : ℕ
  pub stands : IsRaw raw text
  pub is : file ≡ raw ++ replicate room 0

-- Nothing is under way: what stands for the text ends at this place, zeros stand behind it, and all of it is on the disk.
pub record IsSettled (seen : List ℕ) (may_leave : List ℕ → Type 0) (end : ℕ) (text : List ℕ) : Type 0 where
  pub roomy : IsRoomy text seen
  pub place : end ≡ length roomy.raw
  pub durable : Only seen may_leave

-- nothing but zeros
abbrev pub AreZeros : List ℕ → Type 0
AreZeros bytes = bytes ≡ replicate (length bytes) 0

-- The first byte is none of those that may stand behind a text: 0, as room; `{` of a line that wasn't written whole; `#`, which older files have there.
abbrev pub BeginsOddly : List ℕ → Type 0
BeginsOddly [] = ⊥
BeginsOddly (b ∷ bs) = (b ≢ 0) × (b ≢ 123) × (b ≢ 35)

-- A batch ends in it, by two bytes 10 side by side, and something is written behind that.
pub record HasMoreBehind (rest : List ℕ) : Type 0 where
  pub before : List ℕ
  pub after : List ℕ
  pub is : rest ≡ before ++ 10 ∷ 10 ∷ after
  pub more : AreZeros after → ⊥

-- what stands behind the text is none that a crash leaves
abbrev pub IsDamaged : List ℕ → Type 0
IsDamaged file = BeginsOddly (rest_of file) ⊎ HasMoreBehind (rest_of file)

-- The file stands for this text, and it isn't damaged.
pub record Stands (text file : List ℕ) : Type 0 where
  pub is : text_of file ≡ text
  pub sound : IsDamaged file → ⊥

-- The other stands for the same text as the file, and it isn't damaged where that isn't.
pub record Keeps (file other : List ℕ) : Type 0 where
  pub is : text_of other ≡ text_of file
  pub sound : IsDamaged other → IsDamaged file

-- The file stands for the text and a beginning of these lines, each of them whole, and it isn't damaged.
pub record HasSome (text lines file : List ℕ) : Type 0 where
  pub some : List ℕ
  pub rest : List ℕ
  pub whole : AreLines some
  pub front : lines ≡ some ++ rest
  pub is : text_of file ≡ text ++ some
  pub sound : IsDamaged file → ⊥

-- The new file has two empty lines more behind what stood for the text in the old one, and zeros behind those.
pub record IsSealed (text old new : List ℕ) : Type 0 where
  pub raw : List ℕ
  pub room : ℕ
  pub left : ℕ
  pub stands : IsRaw raw text
  pub was : old ≡ raw ++ replicate room 0
  pub is : new ≡ raw ++ 10 ∷ 10 ∷ replicate left 0

-- a file that is open to append: its device, the text that it stands for, and whether a call of the device has failed
pub record Kept (D : Type 0) : Type 0 where
  pub device : D
  pub text : List ℕ
  pub broken : Bool

abbrev pub kept : {D : Type 0} → D → List ℕ → Bool → Kept D
kept device text broken = record { device = device; text = text; broken = broken }
