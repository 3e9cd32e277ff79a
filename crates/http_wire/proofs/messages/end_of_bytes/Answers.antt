use Rattle.std.proofs.Common.{◌≡◌, ◌⊎◌, inl, inr}
use Rattle.http_wire.specs.declared.end.WireEnd.{WireEnd}
use Rattle.http_wire.specs.declared.end.WireEnd.TheVariants.{End, Truncated, BadHead, HeadLong, BadLength, BodyLong, Coded}
use Rattle.http_wire.specs.End.{IsTold}
use Rattle.http_wire.proofs.messages.end_of_bytes.Goals as goal

told : (why : WireEnd) → (why ≡ End) ⊎ ((why ≡ Truncated) ⊎ ((why ≡ BadHead) ⊎ ((why ≡ HeadLong) ⊎ ((why ≡ BadLength) ⊎ ((why ≡ BodyLong) ⊎ (why ≡ Coded)))))) → IsTold why
told why (inl e) = rw e tt
told why (inr (inl e)) = rw e tt
told why (inr (inr (inl e))) = rw e tt
told why (inr (inr (inr (inl e)))) = rw e tt
told why (inr (inr (inr (inr (inl e))))) = rw e tt
told why (inr (inr (inr (inr (inr (inl e)))))) = rw e tt
told why (inr (inr (inr (inr (inr (inr e)))))) = rw e tt

pub returns-in-End : goal.returns-in-End
returns-in-End c = told _ c.in-End.is
