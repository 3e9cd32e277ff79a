-- The tokens of a record, with what stands behind it, and what of them is read again.
use Rattle.std.proofs.Common.{◌≡◌, ℕ, ◌^◌, ◌<◌, Bool, List, [], ◌∷◌, ◌++◌, codes, Some, None, refl, ap, ◌∙◌, append_assoc}
use Rattle.std.specs.Prelude.{if◌then◌else◌}
use Rattle.std.proofs.lemmas.Bool.{lt-ltb}
use Rattle.json.specs.Token.{Token, begin_object, end_object}
use Rattle.json.specs.Tree.{members_tokens}
use Rattle.serde_json.specs.Written.{members_outline}
use Rattle.osm_json.specs.Again.{natural_of, next_as}
use Rattle.osm_json.specs.Sent.{tokens_of}
use Rattle.osm_json.specs.Shown.{Field, members_of, natural, record_of}
use Rattle.json_line.specs.Read.{Parsed, ◌>>=◌, as_session, session_next}

abbrev pub onto : List Field → List Token → List Token
onto [] rest = end_object ∷ rest
onto (None ∷ fs) rest = onto fs rest
onto (Some m ∷ fs) rest = Token.key m.0 ∷ (tokens_of m.1 ++ onto fs rest)

fields_onto : (fs : List Field) (rest : List Token) → members_tokens (members_outline (members_of fs)) ++ rest ≡ onto fs rest
unfolding tokens_of
fields_onto [] rest = refl
fields_onto (None ∷ fs) rest = fields_onto fs rest
fields_onto (Some m ∷ fs) rest =
    ap (λ ts. Token.key m.0 ∷ ts) (append_assoc (tokens_of m.1) (members_tokens (members_outline (members_of fs))) rest ∙ ap (λ ts. tokens_of m.1 ++ ts) (fields_onto fs rest))

pub record_onto : (fs : List Field) (rest : List Token) → tokens_of (record_of fs) ++ rest ≡ begin_object ∷ onto fs rest
unfolding tokens_of record_of
record_onto fs rest = ap (λ ts. begin_object ∷ ts) (fields_onto fs rest)

pub session_read : ((n : ℕ) → n < 2 ^ 64 → (rest : List Token) → next_as natural_of (tokens_of (natural n) ++ rest) ≡ Some (n, rest))
    → (n : ℕ) (rest : List Token) → n < 2 ^ 32 → n < 2 ^ 64 → session_next (Token.key (codes "session") ∷ (tokens_of (natural n) ++ rest)) ≡ Some (n, rest)
unfolding session_next
session_read natural_law n rest small fits =
    ap (λ (o : Parsed ℕ). o >>= λ n ts. as_session n ts) (natural_law n fits rest) ∙ ap (λ (b : Bool). if b then Some (n, rest) else None) (lt-ltb n (2 ^ 32) small)
