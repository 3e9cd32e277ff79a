-- Paths that name no keeper.
use Rattle.std.proofs.Common.{◌++◌, ℕ, List, length, drop, None, codes, refl, ap, ◌∙◌, arith, length-append}
use Rattle.std.proofs.lemmas.List.{drop_at}
use Rattle.std.specs.Str.Pattern.{FindsText}
use Rattle.osm_real.specs.Keeper.{NamesKeeper}

-- where no `+tcp://` is found, none is there
pub none_found : (path : List ℕ) → FindsText (codes "+tcp://") path None → NamesKeeper path → ⊥
none_found path lacks (file, address, is) =
    let rest = codes "+tcp://" ++ address in
    lacks (length file) (omega (arith, ap length is, length-append file rest)) address (ap (λ l. drop (length file) l) is ∙ drop_at file rest (length file) refl)
