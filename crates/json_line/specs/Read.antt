-- What the tokens of a line are read as, token by token: members in their order, and no other ones.
use Rattle.std.specs.Prelude.{ℕ, ◌^◌, nat_lt, List, [], ◌∷◌, codes, if◌then◌else◌, Option, Some, None}
use Rattle.std.specs.Str.{bytes_eq}
use Rattle.json.specs.Token.{Token}
use Rattle.serde_json.specs.Data.{Data}
use Rattle.osm_json.specs.Again.{natural_of, next_as}

-- what was read, and the tokens behind it
abbrev pub Parsed : Type 0 → Type 0
Parsed A = Option (A × List Token)

infixl 10 ◌>>=◌
abbrev pub ◌>>=◌ : {A B : Type 0} → Parsed A → (A → List Token → Parsed B) → Parsed B
None >>= f = None
(Some p) >>= f = f p.0 p.1

abbrev pub begin_next : List Token → Parsed (Unit {0})
begin_next (Token.begin_object ∷ ts) = Some (tt, ts)
begin_next ts = None

abbrev pub end_next : List Token → Parsed (Unit {0})
end_next (Token.end_object ∷ ts) = Some (tt, ts)
end_next ts = None

abbrev pub key_next : List ℕ → List Token → Parsed (Unit {0})
key_next name (Token.key k ∷ ts) = if bytes_eq k name then Some (tt, ts) else None
key_next name ts = None

abbrev pub member_next : {A : Type 0} → List ℕ → (Data → Option A) → List Token → Parsed A
member_next name reading ts = key_next name ts >>= λ _ ts. next_as reading ts

abbrev pub as_session : ℕ → List Token → Parsed ℕ
as_session n ts = if nat_lt n (2 ^ 32) then Some (n, ts) else None

unfoldable pub session_next : List Token → Parsed ℕ
session_next ts = member_next (codes "session") natural_of ts >>= λ n ts. as_session n ts

-- where nothing follows
abbrev pub alone : {A : Type 0} → Parsed A → Option A
alone None = None
alone (Some (e, [])) = Some e
alone (Some (e, t ∷ ts)) = None
