-- What is told of bytes by reading them one after another.
use Rattle.std.proofs.Common.{◌≡◌, ◌≢◌, inl, inr, ℕ, ◌+◌, ◌≤◌, List, [], ◌∷◌, ◌++◌, length, take, Option, refl, sym, ap, ◌∙◌, arith, length-append}
use Rattle.std.specs.Prelude.{unwrap_or}
use Rattle.std.proofs.lemmas.List.{take_at}
use Rattle.journal_file.specs.Whole.{text_of, behind_lines, rest_of, packed_line, BeginsWith}
use Rattle.journal_file.proofs.Lines.{InLine, rest_stop, parts}

-- where none is begun or empty
pub no_line : (bytes : List ℕ) → (BeginsWith (10 ∷ []) bytes → ⊥) → (BeginsWith (123 ∷ []) bytes → ⊥) → behind_lines bytes ≡ bytes
no_line [] empty begun = refl
no_line (b ∷ bs) empty begun =
    rest_stop b bs (λ is. begun (bs, ap (λ (x : ℕ). x ∷ bs) is)) (λ is. empty (bs, ap (λ (x : ℕ). x ∷ bs) is))

-- ---- the parts of a file

-- the front stands for the text
pub record Front (file : List ℕ) : Type 0 where
  pub raw : List ℕ
  pub is : file ≡ raw ++ rest_of file
  pub packs : packed_line raw ≡ text_of file

pub front_of : (file : List ℕ) → Front file
front_of file = by (parts file).1
  where
    by : InLine file → Front file
    by (inl none) = record {
      raw = [];
      is = sym (ap (λ (o : Option (List ℕ)). unwrap_or o file) none.1);
      packs = sym (ap (λ (o : Option (List ℕ)). unwrap_or o []) none.0);
    }
    by (inr p) = record {
      raw = p.raw;
      is = p.is ∙ ap (λ (l : List ℕ). p.raw ++ l) (sym (ap (λ (o : Option (List ℕ)). unwrap_or o file) p.behind));
      packs = p.packs ∙ sym (ap (λ (o : Option (List ℕ)). unwrap_or o []) p.ended_is);
    }

pub rest_long : (file : List ℕ) → length (rest_of file) ≤ length file
rest_long file = let f = front_of file in omega (arith, ap length f.is, length-append f.raw (rest_of file))

pub front_taken : (file : List ℕ) (n : ℕ) → n + length (rest_of file) ≡ length file → take n file ≡ (front_of file).raw
front_taken file n size =
    let f = front_of file in
    ap (λ (l : List ℕ). take n l) f.is ∙ take_at f.raw (rest_of file) n (omega (arith, size, ap length f.is, length-append f.raw (rest_of file)))
