-- Data whose compact text is read as that data, and what such a text is read as.
use Rattle.std.specs.Prelude.{◌≡◌, ℕ, ◌^◌, ◌<◌, ◌==◌, Bool, not, List, pos, negsuc, Option, Some, None, option_map, Result, Ok, Err, ⊤}
use Rattle.std.specs.Cmp.Lexicographic.{slice_cmp}
use Rattle.std.specs.List.{list_all}
use Rattle.std.specs.Ordering.{nat_cmp}
use Rattle.std.specs.declared.cmp.Ordering.TheVariants.{Less}
use Rattle.json.specs.Token.{Token}
use Rattle.serde_json.specs.Data.{Num, unsigned, negative, float, Data, null, boolean, number, string, array, object, Items, no_items, item, Members, no_members, member}
use Rattle.serde_json.specs.Find.{as_number, as_u64}
use Rattle.osm_change.specs.declared.raw.RawOp.{RawOp}
use Rattle.osm_json.specs.Pull.{next_data}
use Rattle.osm_json.specs.Reading.{◌>>=◌, list_of, block_of, operations_in}
use Rattle.osm_json.specs.declared.fault.BodyFault.{BodyFault}
use Rattle.osm_json.specs.declared.fault.BodyFault.TheVariants.{NotJson, Shape}

-- a whole number that fits 64 bits, with a sign or without
abbrev pub IsShort : Num → Type 0
IsShort (unsigned n) = n < 2 ^ 64
IsShort (negative (pos n)) = ⊥
IsShort (negative (negsuc n)) = n < 2 ^ 63
IsShort (float x) = ⊥

-- the name stands before those of the members
abbrev pub IsBefore : List ℕ → Members → Type 0
IsBefore k no_members = ⊤
IsBefore k (member l d ms) = (slice_cmp nat_cmp k l ≡ Less) × IsBefore k ms

-- its numbers are short, and the names of each object rise
abbrev mutual
  pub IsPlainData : Data → Type 0
  IsPlainData null = ⊤
  IsPlainData (boolean b) = ⊤
  IsPlainData (number n) = IsShort n
  IsPlainData (string s) = ⊤
  IsPlainData (array ds) = ArePlainItems ds
  IsPlainData (object ms) = ArePlainMembers ms

  pub ArePlainItems : Items → Type 0
  ArePlainItems no_items = ⊤
  ArePlainItems (item d ds) = IsPlainData d × ArePlainItems ds

  pub ArePlainMembers : Members → Type 0
  ArePlainMembers no_members = ⊤
  ArePlainMembers (member k d ms) = IsBefore k ms × IsPlainData d × ArePlainMembers ms

-- no byte 10 stands in it
abbrev pub is_one_line : List ℕ → Bool
is_one_line text = list_all (λ b. not (b == 10)) text

-- no byte 0 stands in it
abbrev pub has_no_zero : List ℕ → Bool
has_no_zero text = list_all (λ b. not (b == 0)) text

-- ---- parts of a text that is read token by token

-- what begins the tokens, read, and the tokens behind it
abbrev pub read_as : {A : Type 0} → (Data → Option A) → Option (Data × List Token) → Option (A × List Token)
read_as reading None = None
read_as reading (Some p) = option_map (λ x. (x, p.1)) (reading p.0)

abbrev pub next_as : {A : Type 0} → (Data → Option A) → List Token → Option (A × List Token)
next_as reading ts = read_as reading (next_data 127 ts)

-- a whole number of 64 bits
abbrev pub natural_of : Data → Option ℕ
natural_of d = as_number d >>= as_u64

-- the operations of a list of blocks, where each of them reads
abbrev pub all_ops : Result (List RawOp) BodyFault → Option (List RawOp)
all_ops (Ok ops) = Some ops
all_ops (Err fault) = None

abbrev pub ops_of : Data → Option (List RawOp)
ops_of d = all_ops (operations_in (list_of block_of d))

-- what a function gave is what was found, unless memory ran out
abbrev pub Draws : {X A : Type 0} → (X → A) → Result X BodyFault → Option (A × List Token) → List Token → Type 0
Draws view (Ok x) found new = found ≡ Some (view x, new)
Draws view (Err BodyFault.Memory) found new = ⊤
Draws view (Err NotJson) found new = found ≡ None
Draws view (Err (Shape op)) found new = found ≡ None
