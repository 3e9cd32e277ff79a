-- The path of a target that is ASCII.
use Rattle.std.proofs.Common.{◌≡◌, ℕ, ◌-◌, ◌<◌, Bool, true, false, List, length, IsAscii, refl, arith}
use Rattle.std.specs.Prelude.{nat_eq, codes}
use Rattle.std.specs.Char.{is_ascii}
use Rattle.std.specs.List.{list_all, ends_with}
use Rattle.std.proofs.lemmas.Bool.Decides.{nat_tests}
use Rattle.std.proofs.lemmas.List.Elements.{All-weaker}
use Rattle.std.proofs.lemmas.List.Sums.{AllPass-from_list_all}
use Rattle.std.proofs.lemmas.Str.{IsAscii-take}
use Rattle.std.proofs.lemmas.Str.Ascii.{IsAscii-from_all}
use Rattle.route_table.specs.Targets.{without_json}

pub ascii_from_test : (bs : List ℕ) → list_all is_ascii bs ≡ true → IsAscii bs
ascii_from_test bs all =
    IsAscii-from_all bs (All-weaker (λ b. is_ascii b ≡ true) (λ b. b < 128) below bs (AllPass-from_list_all is_ascii bs all))
  where
    below : (b : ℕ) → is_ascii b ≡ true → b < 128
    below b e = grind (arith, nat_tests)

pub ascii_without_json : (path : List ℕ) → IsAscii path → IsAscii (without_json path)
ascii_without_json path ascii = by_test (ends_with nat_eq path (codes ".json")) refl
  where
    by_test : (ends : Bool) → ends_with nat_eq path (codes ".json") ≡ ends → IsAscii (without_json path)
    by_test true e = rw e (IsAscii-take path (length path - 5) ascii)
    by_test false e = rw e ascii
