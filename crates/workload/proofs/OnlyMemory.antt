-- A text that has a table is refused for want of memory alone.
use Rattle.std.proofs.Common.{◌≡◌, Result, Ok, Err, refl, sym, ◌∙◌}
use Rattle.user_table.specs.declared.faults.UsersFault.{UsersFault}
use Rattle.user_table.specs.declared.faults.UsersFault.TheVariants as fault
use Rattle.user_table.specs.Users.{Refuses}

module _ {A : Type 0} where
  pub only_memory : (expected made : Result A UsersFault) (why : UsersFault) → expected ≡ made → (users : A) × (made ≡ Ok users)
      → Refuses expected why → why ≡ fault.Memory
  only_memory expected made fault.Long same is refused = let no : Err fault.Long ≡ Ok is.0 = sym refused ∙ same ∙ is.1 in absurd (cc)
  only_memory expected made fault.NotUtf8 same is refused = let no : Err fault.NotUtf8 ≡ Ok is.0 = sym refused ∙ same ∙ is.1 in absurd (cc)
  only_memory expected made (fault.Line n) same is refused = let no : Err (fault.Line n) ≡ Ok is.0 = sym refused ∙ same ∙ is.1 in absurd (cc)
  only_memory expected made (fault.DoubleId n) same is refused = let no : Err (fault.DoubleId n) ≡ Ok is.0 = sym refused ∙ same ∙ is.1 in absurd (cc)
  only_memory expected made (fault.DoubleToken n) same is refused = let no : Err (fault.DoubleToken n) ≡ Ok is.0 = sym refused ∙ same ∙ is.1 in absurd (cc)
  only_memory expected made (fault.DoubleName n) same is refused = let no : Err (fault.DoubleName n) ≡ Ok is.0 = sym refused ∙ same ∙ is.1 in absurd (cc)
  only_memory expected made fault.Memory same is refused = refl
