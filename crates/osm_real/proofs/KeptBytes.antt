-- What calls do to known bytes behind calls that kept them.
use Rattle.std.proofs.Common.{◌∙◌, ◌++◌, ℕ, List, Option, Some, None, Result, Ok, Err, ap, refl, sym, take}
use Rattle.std.specs.Io.KnownBytes.{Appends, Consumes, Keeps, ReadConsumes, WriteAppends}

pub keeps_itself : (known : Option (List ℕ)) → Keeps known known
keeps_itself None = tt
keeps_itself (Some bytes) = refl

pub keeps_behind : (a b c : Option (List ℕ)) → Keeps a b → Keeps b c → Keeps a c
keeps_behind None b c ab bc = tt
keeps_behind (Some x) None c ab bc = absurd ab
keeps_behind (Some x) (Some y) None ab bc = absurd bc
keeps_behind (Some x) (Some y) (Some z) ab bc = bc ∙ ab

consumes_behind : (a b c : Option (List ℕ)) (bytes : List ℕ) → Keeps a b → Consumes b c bytes → Consumes a c bytes
consumes_behind None b c bytes ab bc = tt
consumes_behind (Some x) None c bytes ab bc = absurd ab
consumes_behind (Some x) (Some y) None bytes ab bc = absurd bc
consumes_behind (Some x) (Some y) (Some z) bytes ab bc = sym ab ∙ bc

appends_behind : (a b c : Option (List ℕ)) (bytes : List ℕ) → Keeps a b → Appends b c bytes → Appends a c bytes
appends_behind None b c bytes ab bc = tt
appends_behind (Some x) None c bytes ab bc = absurd ab
appends_behind (Some x) (Some y) None bytes ab bc = absurd bc
appends_behind (Some x) (Some y) (Some z) bytes ab bc = bc ∙ ap (λ l. l ++ bytes) ab

pub reads_behind : {E : Type 0} (a b c : Option (List ℕ)) (result : Result ℕ E) (into : List ℕ) → Keeps a b → ReadConsumes b c result into → ReadConsumes a c result into
reads_behind a b c (Ok n) into ab bc = (consumes_behind a b c (take n into) ab bc.0, bc.1)
reads_behind a b c (Err why) into ab bc = keeps_behind a b c ab bc

pub writes_behind : {E : Type 0} (a b c : Option (List ℕ)) (result : Result ℕ E) (piece : List ℕ) → Keeps a b → WriteAppends b c result piece → WriteAppends a c result piece
writes_behind a b c (Ok n) piece ab bc = appends_behind a b c (take n piece) ab bc
writes_behind a b c (Err why) piece ab bc = keeps_behind a b c ab bc

pub reads_untold : {E : Type 0} (result : Result ℕ E) (into : List ℕ) → ReadConsumes None None result into
reads_untold (Ok n) into = (tt, λ _ _. tt)
reads_untold (Err why) into = tt

pub writes_untold : {E : Type 0} (result : Result ℕ E) (piece : List ℕ) → WriteAppends None None result piece
writes_untold (Ok n) piece = tt
writes_untold (Err why) piece = tt
