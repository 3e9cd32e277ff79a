-- What a machine keeps, after every entry of a legal journal.
use Rattle.std.proofs.Common.{◌≡◌, ℕ, zero, suc, ◌&&◌, Bool, true, false, List, [], ◌∷◌, take, fold, refl}
use Rattle.machine_law.specs.Rules.{Rules, replay, is_legal, is_legal_from}
use Rattle.desk_serve.specs.Link.{IsSound}

both_true : (a b : Bool) → a && b ≡ true → (a ≡ true) × (b ≡ true)
both_true true b h = (refl, h)
both_true false b h = absurd (cc h)

module _ {S C Q P E K : Type 0} (rules : Rules S C Q P E K) where
  -- what holds of a state, and goes on where an entry may come next, holds after each beginning of legal entries
  pub kept_from : ((s : S) (e : E) → rules.takes s e ≡ true → rules.consistent s → rules.consistent (rules.after s e))
      → (s : S) (es : List E) (point : ℕ) → rules.consistent s → is_legal_from rules s es ≡ true → rules.consistent (fold rules.after s (take point es))
  kept_from goes s es zero holds legal = holds
  kept_from goes s [] (suc point) holds legal = holds
  kept_from goes s (e ∷ es) (suc point) holds legal =
      let both = both_true (rules.takes s e) (is_legal_from rules (rules.after s e) es) legal in
      kept_from goes (rules.after s e) es point (goes s e both.0 holds) both.1

  -- after every entry of a legal journal the machine keeps what it keeps
  abbrev pub PointsConsistent : Type 0
  PointsConsistent = (entries : List E) → is_legal rules entries ≡ true → (point : ℕ) → rules.consistent (replay rules (take point entries))

  pub sound_of : PointsConsistent → (entries : List E) → is_legal rules entries ≡ true → IsSound rules entries
  sound_of consistent entries legal = record { legal = legal; consistent = consistent entries legal }
