-- Worked rows: the definitions compute what they should.
use Rattle.std.proofs.Common.{◌≡◌, ℕ, true, false, List, [], ◌∷◌, ◌++◌, Some, None, Ok, Err, codes, refl}
use Rattle.std.specs.Str.{chars}
use Rattle.std.specs.Str.Lines.{lines}
use Rattle.user_table.specs.Rows.{Row}
use Rattle.user_table.specs.Users.{nobody, with_lines}
use Rattle.user_table.specs.Who.{who_of}
use Rattle.user_table.specs.declared.tables.Who.TheVariants as who
use Rattle.user_table.specs.declared.faults.UsersFault.TheVariants as fault

abbrev alice : Row
alice = record { token = codes "alicetoken"; user = record { id = 1; name = codes "alice"; moderator = false; limit = None } }

abbrev bob : Row
bob = record { token = codes "bobtoken"; user = record { id = 2; name = codes "bob"; moderator = true; limit = None } }

abbrev line_end : List ℕ
line_end = 13 ∷ 10 ∷ []

two_users : with_lines 1 nobody (lines (codes "1 alicetoken user alice" ++ line_end ++ codes "# more" ++ line_end ++ line_end ++ codes "2 bobtoken moderator bob")) ≡ Ok (record { rows = alice ∷ bob ∷ []; large_from = None })
unfolding chars
two_users = refl

twice : with_lines 1 nobody (lines (codes "1 a user x" ++ line_end ++ codes "1 a user x" ++ line_end)) ≡ Err (fault.DoubleId 2)
unfolding chars
twice = refl

skipped_lines_count : with_lines 1 nobody (lines (codes "#" ++ line_end ++ codes "1 a user x" ++ line_end ++ codes "2 a user y")) ≡ Err (fault.DoubleToken 3)
unfolding chars
skipped_lines_count = refl

no_header : who_of (alice ∷ bob ∷ []) None ≡ who.Anonymous
no_header = refl

any_case : who_of (alice ∷ bob ∷ []) (Some (codes "bearer  bobtoken")) ≡ who.Known 1
any_case = refl

tab_before_token : who_of (alice ∷ bob ∷ []) (Some (codes "Bearer " ++ 9 ∷ codes "alicetoken")) ≡ who.Known 0
tab_before_token = refl

tab_for_space : who_of (alice ∷ bob ∷ []) (Some (codes "Bearer" ++ 9 ∷ codes "alicetoken")) ≡ who.Unknown
tab_for_space = refl

spaces_around : who_of (alice ∷ bob ∷ []) (Some (codes " Bearer  alicetoken" ++ 9 ∷ [])) ≡ who.Known 0
spaces_around = refl

another_scheme : who_of (alice ∷ bob ∷ []) (Some (codes "Basic x")) ≡ who.Unknown
another_scheme = refl

a_limit : with_lines 1 nobody (lines (codes "1 alicetoken user/1000000 alice")) ≡ Ok (record { rows = record { token = codes "alicetoken"; user = record { id = 1; name = codes "alice"; moderator = false; limit = Some 1000000 } } ∷ []; large_from = None })
unfolding chars
a_limit = refl

no_limit_behind : with_lines 1 nobody (lines (codes "1 alicetoken user/ alice")) ≡ Err (fault.Line 1)
unfolding chars
no_limit_behind = refl

a_moment : with_lines 1 nobody (lines (codes "@large-from 1700000000" ++ line_end ++ codes "1 alicetoken user alice")) ≡ Ok (record { rows = alice ∷ []; large_from = Some 1700000000 })
unfolding chars
a_moment = refl

two_moments : with_lines 1 nobody (lines (codes "@large-from 1" ++ line_end ++ codes "@large-from 1")) ≡ Err (fault.Line 2)
unfolding chars
two_moments = refl
