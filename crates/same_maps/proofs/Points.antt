-- Entries of a journal where they stand.
use Rattle.std.proofs.Common.{◌≡◌, ℕ, zero, suc, ◌<◌, Bool, true, false, List, [], ◌∷◌, length, take, get_or, refl, ap, ◌∙◌, arith}
use Rattle.std.specs.Prelude.{fold, ◌&&◌}
use Rattle.osm_model.specs.Answered.{map_at}
use Rattle.osm_model.specs.Journal.{IsLegal, after, is_legal_from, takes}
use Rattle.osm_model.specs.State.{empty}
use Rattle.osm_model.specs.declared.commands.Entry.{Entry}
use Rattle.osm_model.specs.declared.states.State.{State}

and-first : (a b : Bool) → (a && b) ≡ true → a ≡ true
and-first true b both = refl
and-first false b both = both

and-second : (a b : Bool) → (a && b) ≡ true → b ≡ true
and-second true b both = both
and-second false b both = cc

taken-from : (P : State) (es : List Entry) (i : ℕ) (d : Entry) → i < length es → is_legal_from P es ≡ true → takes (fold after P (take i es)) (get_or es i d) ≡ true
taken-from P [] i d within legal = absurd (omega (arith, within))
taken-from P (x ∷ es) zero d within legal = and-first (takes P x) (is_legal_from (after P x) es) legal
taken-from P (x ∷ es) (suc i) d within legal =
    taken-from (after P x) es i d (omega (arith, within)) (and-second (takes P x) (is_legal_from (after P x) es) legal)

-- the entry at a point is taken by the map there
pub taken-at : (es : List Entry) (i : ℕ) (e d : Entry) → IsLegal es → i < length es → e ≡ get_or es i d → takes (map_at es i) e ≡ true
taken-at es i e d legal within is = ap (takes (map_at es i)) is ∙ taken-from empty es i d within legal.taken
