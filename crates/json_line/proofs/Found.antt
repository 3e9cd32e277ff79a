-- The entry of a line, from what its tokens are read as.
use Rattle.std.proofs.Common.{◌≡◌, List, [], ◌∷◌, Option, Some, None, Result, Ok, Err, sym, ap, ◌∙◌}
use Rattle.json.specs.Token.{Token}
use Rattle.line_text.specs.Found.{Finds, IsEntryRead}
use Rattle.line_text.specs.declared.faults.LineFault.{LineFault}
use Rattle.line_text.specs.declared.faults.LineFault.TheVariants.{NotLine, Memory}
use Rattle.json_line.specs.Read.{Parsed, alone}

module _ {E : Type 0} where
  pub is_alone : (e : E) (found : Parsed E) (new : List Token) → found ≡ Some (e, new) → new ≡ [] → alone found ≡ Some e
  is_alone e found new h none = ap alone (h ∙ ap (λ ts. Some (e, ts)) none)

  pub not_alone : (e : E) (found : Parsed E) (new : List Token) (t : Token) (ts : List Token) → found ≡ Some (e, new) → new ≡ t ∷ ts → alone found ≡ None
  not_alone e found new t ts h more = ap alone (h ∙ ap (λ ts. Some (e, ts)) more)

  -- what was found is the entry
  pub found_is : (result : Result E LineFault) (found : Option E) (e : E) → Finds result found → found ≡ Some e → IsEntryRead result e
  found_is (Ok x) found e h is = let same : Some x ≡ Some e = sym h ∙ is in cc
  found_is (Err Memory) found e h is = tt
  found_is (Err NotLine) found e h is = let clash : Some e ≡ None = sym is ∙ h in cc

  -- one reading has one entry
  pub same_read : (e other : E) → ◌≡◌ {A = Parsed E} (Some (e, [])) (Some (other, [])) → e ≡ other
  same_read e other same = let both : Some e ≡ Some other = ap alone same in cc
