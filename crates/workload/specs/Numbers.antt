-- The numbers of a load, one for each node, and where the nodes stand.
use Rattle.std.specs.Prelude.{ℕ, zero, suc, ◌+◌, ◌*◌, ◌/◌, ◌%◌, ◌^◌}

-- the number after one: a linear congruence modulo 2^64, by Knuth's factor for MMIX
abbrev pub next_number : ℕ → ℕ
next_number number = (number * 6364136223846793005 + 1442695040888963407) % 2 ^ 64

-- the number that many nodes later
unfoldable pub number_after : ℕ → ℕ → ℕ
number_after zero number = number
number_after (suc nodes) number = number_after nodes (next_number number)

-- where the node of a number stands, in units of 1e-7 degrees: within 0.1 degrees north of 48
abbrev pub lat7_of : ℕ → ℕ
lat7_of number = 480000000 + number / 2 ^ 40 % 1000000

-- and within 0.1 degrees east of 11
abbrev pub lon7_of : ℕ → ℕ
lon7_of number = 110000000 + number / 2 ^ 20 % 1000000
