-- How a name is kept in 64 bits: the id of an element of before, which is below 2^63, as it is; the place of a
-- creation above all ids.
use Rattle.std.specs.Prelude.{◌≡◌, ℕ, ◌+◌, ◌-◌, ◌^◌, ◌<◌, nat_lt, Bool, true, false, if◌then◌else◌, refl}
use Rattle.std.proofs.Common.{ap, ltb-false}
use Rattle.std.proofs.Math.Nat.{add-sub_of_le}
use Rattle.osm_change.specs.declared.operations.Name.TheInside.{Inside}
use Rattle.osm_change.specs.declared.operations.Referent.{Referent}
use Rattle.osm_change.specs.declared.operations.Referent.TheVariants.{Old, New}

-- what the bits say
abbrev pub referent_of : ℕ → Referent
referent_of bits = if nat_lt bits (2 ^ 63) then Old bits else New (bits - 2 ^ 63)

-- the bits that say it
abbrev pub bits_of : Referent → ℕ
bits_of (Old id) = id
bits_of (New place) = 2 ^ 63 + place

-- an id of 63 bits, or a place of 32
abbrev pub AreBits : ℕ → Type 0
AreBits bits = bits < 2 ^ 63 + 2 ^ 32

-- an id below 2^63, or a place of 32 bits
abbrev pub Fits : Referent → Type 0
Fits (Old id) = id < 2 ^ 63
Fits (New place) = place < 2 ^ 32

-- the fields of a name with these bits
abbrev pub with_bits : ℕ → Inside
with_bits bits = record { bits = bits }

-- what they say gives the bits back
pub bits-again : (n : Inside) → with_bits (bits_of (referent_of n.bits)) ≡ n
bits-again n = ap with_bits (by (nat_lt n.bits (2 ^ 63)) refl)
  where
    by : (below : Bool) → nat_lt n.bits (2 ^ 63) ≡ below → bits_of (if below then Old n.bits else New (n.bits - 2 ^ 63)) ≡ n.bits
    by true e = refl
    by false e = add-sub_of_le (ltb-false n.bits (2 ^ 63) e)
