-- The calls of a session, told by its last entry.
use Rattle.std.proofs.Common.{◌≡◌, ℕ, ◌+◌, ◌-◌, ◌<◌, ◌≤◌, Bool, true, false, List, [], length, take, get_or, Some, sym, ap, subst, ◌∙◌, arith}
use Rattle.std.specs.Prelude.{◌==◌}
use Rattle.std.proofs.lemmas.Bool.{eq-eqb, ne_eqb}
use Rattle.std.proofs.lemmas.List.Sums.{count_by-le-length, count_by_more_yes, count_by_more_no}
use Rattle.std.proofs.lemmas.Option.{slice_get-get_or}
use Rattle.osm_model.specs.declared.commands.Entry.{Entry}
use Rattle.osm_model.specs.Journal.{IsLegal, calls_of}
use Rattle.plain_model.proofs.JournalLemmas.{numbered-at}

abbrev is_of : ℕ → Entry → Bool
is_of session e = e.session == session

pub calls_of-few : (session : ℕ) (es : List Entry) → calls_of session es ≤ length es
calls_of-few session es = count_by-le-length (is_of session) es

-- an entry before a place
module _
    (session : ℕ) (es : List Entry) (place : ℕ) (e : Entry) (some : 0 < place) (within : place ≤ length es)
    (is : e ≡ get_or es (place - 1) e)
  where
    last_place : place - 1 + 1 ≡ place
    last_place = omega (arith, some)

    below : place - 1 < length es
    below = omega (arith, some, within)

    -- one of another session is no call
    pub other_session : ¬ (e.session ≡ session) → calls_of session (take place es) ≡ calls_of session (take (place - 1) es)
    other_session other =
        ap (λ (n : ℕ). calls_of session (take n es)) (sym last_place)
        ∙ count_by_more_no (is_of session) es (place - 1) e below (subst (λ (x : Entry). is_of session x ≡ false) is (ne_eqb e.session session other))

    -- its number is how many calls its session has up to it
    pub number_of_last : IsLegal es → e.session ≡ session → e.call ≡ calls_of session (take place es)
    number_of_last legal own =
        numbered-at [] es (place - 1) e legal.numbered (slice_get-get_or es (place - 1) e below ∙ ap Some (sym is))
        ∙ ap (λ (s : ℕ). calls_of s (take (place - 1) es) + 1) own
        ∙ sym (count_by_more_yes (is_of session) es (place - 1) e below (subst (λ (x : Entry). is_of session x ≡ true) is (eq-eqb e.session session own)))
        ∙ ap (λ (n : ℕ). calls_of session (take n es)) last_place
