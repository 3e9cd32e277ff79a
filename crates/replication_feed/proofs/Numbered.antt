-- The parts of a piece's text.
use Rattle.std.proofs.Common.{◌≡◌, ℕ, List, [], ◌∷◌, ◌++◌, codes, Option, Some, None, sym, ap, ◌∙◌, append_assoc, Bor}
use Rattle.std.specs.Prelude.{IfSome, MatchOption}
use Rattle.std.proofs.lemmas.List.{append_cancel_left, append_cancel_right}
use Rattle.replication_feed.specs.Text.{beginning, middle, ending}

-- what stands between the beginning and the ending
pub inner_is : (line digits : List ℕ) → beginning ++ line ++ middle ++ digits ++ ending ≡ beginning ++ (line ++ middle ++ digits) ++ ending
inner_is line digits =
    ap (λ text. text ++ ending)
    (append_assoc (beginning ++ line) middle digits ∙ append_assoc beginning line (middle ++ digits)
    ∙ ap (λ text. beginning ++ text) (sym (append_assoc line middle digits)))

-- the name of the number, without its colon
abbrev pub name : List ℕ
name = codes ",\"number\""

-- a colon stands before the digits
pub colon_last : (line : List ℕ) → line ++ middle ≡ line ++ name ++ 58 ∷ []
colon_last line = sym (append_assoc line name (58 ∷ []))

-- ---- a text without its ending, and then without its beginning

pub some_inside : (text rest : List ℕ) (found : Option (Bor (List ℕ))) → text ≡ rest ++ ending
    → MatchOption found ((inner : List ℕ) → rest ≡ beginning ++ inner → ⊥) (λ inner. rest ≡ beginning ++ inner.now)
    → IfSome found (λ inner. text ≡ beginning ++ inner.now ++ ending)
some_inside text rest None is begins = tt
some_inside text rest (Some x) is begins = is ∙ ap (λ part. part ++ ending) begins

pub all_inside : (text rest : List ℕ) (found : Option (Bor (List ℕ))) → text ≡ rest ++ ending
    → MatchOption found ((inner : List ℕ) → rest ≡ beginning ++ inner → ⊥) (λ inner. rest ≡ beginning ++ inner.now)
    → (inner : List ℕ) → text ≡ beginning ++ inner ++ ending → MatchOption found ⊥ (λ x. x.now ≡ inner)
all_inside text rest None is begins inner same = begins inner (append_cancel_right rest (beginning ++ inner) ending (sym is ∙ same))
all_inside text rest (Some x) is begins inner same =
    append_cancel_left beginning x.now inner (sym begins ∙ append_cancel_right rest (beginning ++ inner) ending (sym is ∙ same))
