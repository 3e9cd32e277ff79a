-- Beginnings of a hub's journal that are seen.
use Rattle.std.proofs.Common.{◌≡◌, ℕ, ◌+◌, ◌<◌, true, List, [], ◌∷◌, ◌++◌, length, get_or, take, drop, Some, refl, sym, ap, ◌∙◌, subst, take-append-drop}
use Rattle.std.proofs.lemmas.List.{drop_more}
use Rattle.std.proofs.lemmas.List.Sums.{fold_push}
use Rattle.machine_law.specs.Rules.{Rules, replay}
use Rattle.hub_core.specs.Journal.{calls_of}
use Rattle.snapshot_hub.specs.Closings.{IsFront}
use Rattle.snapshot_hub.proofs.Calls.{seated_entered, seated_next}
use Rattle.snapshot_hub.proofs.Legal.{legal_push, legal_next, StaysConsistent}
use Rattle.snapshot_hub.proofs.Numbers.{numbered_push, numbered_next}

module _ {S C Q P E K : Type 0} (rules : Rules S C Q P E K) where
  pub front_of_none : rules.consistent rules.start → (sessions : ℕ) (entries : List E) → entries ≡ [] → IsFront rules sessions entries
  front_of_none start sessions entries empty = subst (λ (l : List E). IsFront rules sessions l) (sym empty) (record {
    kept = record { legal = refl; numbered = refl; consistent = start };
    seated = λ session le. refl;
  })

  -- an entry that may come next, as the next call of a session that has a seat
  abbrev pub IsWelcome : ℕ → List E → E → Type 0
  IsWelcome sessions xs e = (rules.takes (replay rules xs) e ≡ true) × ((rules.tag_of e).call ≡ calls_of rules.tag_of (rules.tag_of e).session xs + 1) × ((rules.tag_of e).session < sessions)

  -- each entry is welcome behind those before it
  pub welcome_at : (sessions : ℕ) (entries : List E) (i : ℕ) (d : E) → i < length entries → IsFront rules sessions entries → IsWelcome sessions (take i entries) (get_or entries i d)
  welcome_at sessions entries i d within front =
      let first = take i entries in
      let e = get_or entries i d in
      let rest = drop (i + 1) entries in
      let parts : entries ≡ first ++ e ∷ rest = sym (take-append-drop i entries) ∙ ap (λ (l : List E). first ++ l) (drop_more entries i d within) in
      let all : IsFront rules sessions (first ++ e ∷ rest) = subst (λ (l : List E). IsFront rules sessions l) parts front in (
        legal_next rules rules.start first e rest all.kept.legal,
        numbered_next rules.tag_of [] first e rest all.kept.numbered,
        seated_next rules.tag_of sessions first e rest all.seated,
      )

  -- with one more
  pub front_push : StaysConsistent rules → (sessions : ℕ) (xs : List E) (e : E) → IsFront rules sessions xs
      → IsWelcome sessions xs e → IsFront rules sessions (xs ++ e ∷ [])
  front_push keeps sessions xs e h next = record {
    kept = record {
      legal = legal_push rules rules.start xs e h.kept.legal next.0;
      numbered = numbered_push rules.tag_of [] xs e h.kept.numbered next.1;
      consistent = subst rules.consistent (sym (fold_push rules.after rules.start xs e)) (keeps (replay rules xs) e next.0 h.kept.consistent);
    };
    seated = seated_entered rules.tag_of sessions (rules.tag_of e) xs (xs ++ e ∷ []) (Some (length xs)) next.2 (e, refl, refl, refl) h.seated;
  }

  -- the beginning of such entries with the one that stands behind it
  pub front_more : StaysConsistent rules → (sessions : ℕ) (entries xs : List E) (i : ℕ) (e : E) → i < length entries → e ≡ get_or entries i e
      → IsFront rules sessions entries → xs ≡ take i entries → IsFront rules sessions xs → IsFront rules sessions (xs ++ e ∷ [])
  front_more keeps sessions entries xs i e within is all begun kept =
      let welcome : IsWelcome sessions (take i entries) (get_or entries i e) = welcome_at sessions entries i e within all in
      front_push keeps sessions xs e kept (subst (λ (l : List E). IsWelcome sessions l e) (sym begun) (subst (λ (x : E). IsWelcome sessions (take i entries) x) (sym is) welcome))
