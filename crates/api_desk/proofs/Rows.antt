-- One request: acting on a journal is a row of "answered", and stays one where the journal grows.
use Rattle.std.proofs.Common.{◌≡◌, ℕ, suc, zero, ◌+◌, ◌<◌, ◌≤◌, inl, inr, ⊎_elim, List, [], ◌∷◌, ◌++◌, length, Bool, true, Option, Some, Result, Ok, Err, refl, sym, ap, ◌∙◌, subst, arith}
use Rattle.std.specs.Prelude.{slice_get, ◌==◌, cond}
use Rattle.std.proofs.lemmas.List.{take-append-le}
use Rattle.std.proofs.lemmas.List.Sums.{sum_by-append}
use Rattle.std.proofs.lemmas.Option.{slice_get_within}
use Rattle.std.proofs.lemmas.Bool.Decides.{nat_tests}
use Rattle.std.proofs.Math.Seq.{take-append_seam, take-length}
use Rattle.osm_base.specs.declared.people.User.{User}
use Rattle.osm_change.specs.declared.answers.Answer.{Answer}
use Rattle.osm_change.specs.declared.refusals.Refusal.{Refusal}
use Rattle.osm_model.specs.declared.commands.Command.{Command}
use Rattle.osm_model.specs.declared.commands.Entry.{Entry}
use Rattle.osm_model.specs.declared.states.State.{State}
use Rattle.osm_model.specs.Act.{Effect, act, judge, settle}
use Rattle.osm_model.specs.Journal.{replay, calls_of, appended, next_entry, journal_after}
use Rattle.osm_model.specs.Ask.{ask}
use Rattle.osm_model.specs.Answered.{Request, refused, does, reads, Place, all_of, map_at, stamp_on, RefusesCommand, AcceptsCommand, AnswersQuery, IsRow}
use Rattle.osm_model.specs.declared.queries.Query.{Query}

-- ---- lists

-- what follows a list is its next item
slice_get-next : {A : Type 0} (xs : List A) (x : A) → slice_get (xs ++ x ∷ []) (length xs) ≡ Some x
slice_get-next [] x = refl
slice_get-next (z ∷ xs) x = slice_get-next xs x

length-next : {A : Type 0} (xs : List A) (x : A) → length (xs ++ x ∷ []) ≡ length xs + 1
length-next [] x = refl
length-next (z ∷ xs) x = omega (arith, length-next xs x)

-- ---- the map at a point

map_at-all : (es : List Entry) → map_at es (length es) ≡ replay es
map_at-all es = ap replay (take-length es)

map_at-next : (es : List Entry) (e : Entry) → map_at (es ++ e ∷ []) (length es) ≡ replay es
map_at-next es e = ap replay (take-append_seam es (e ∷ []))

-- ---- one more entry of a session

same_number : (n : ℕ) → (n == n) ≡ true
same_number n = grind (arith, nat_tests)

pub calls_of-next : (es : List Entry) (e : Entry) → calls_of e.session (es ++ e ∷ []) ≡ calls_of e.session es + 1
calls_of-next es e =
    let split = sum_by-append (λ (x : Entry). cond (x.session == e.session) 1 0) es (e ∷ []) in
    let one : ◌≡◌ {A = ℕ} (cond (e.session == e.session) 1 0) 1 = ap (λ (b : Bool). cond b 1 0) (same_number e.session) in
    omega (arith, split, one)

all_of-next :
    (es : List Entry) (e : Entry)
    → all_of e.session (es ++ e ∷ []) ≡ record { point = length es + 1; calls = calls_of e.session es + 1; debts = 0 }
all_of-next es e =
    ap (λ (n : ℕ). record { point = n; calls = calls_of e.session (es ++ e ∷ []); debts = 0 }) (length-next es e)
    ∙ ap (λ (n : ℕ). record { point = length es + 1; calls = n; debts = 0 }) (calls_of-next es e)

-- ---- a command

-- what a command comes to on all of a journal is a row, whatever it comes to
row_of_judged :
    (es : List Entry) (s : ℕ) (user : User) (m : ℕ) (c : Command) (j : Result Effect Refusal)
    → judge (replay es) user (stamp_on (replay es) m) c ≡ j
    → IsRow
    (appended es (next_entry es s user m c) j)
    s
    (all_of s es)
    (does user c)
    m
    (Some (settle (replay es) (stamp_on (replay es) m) j).1)
    (all_of s (appended es (next_entry es s user m c) j))
row_of_judged es s user m c (Err r) judged = inl (record {
  refusal = r;
  later = omega arith;
  judged = subst (λ (P : State). judge P user (stamp_on P m) c ≡ Err r) (sym (map_at-all es)) judged;
  told = refl;
  calls = refl;
  debts = refl;
})
row_of_judged es s user m c (Ok done) judged =
    let e : Entry = next_entry es s user m c in
    inr (inl (record {
      at = length es;
      done = done;
      later = omega arith;
      judged = subst (λ (P : State). judge P user (stamp_on P m) c ≡ Ok done) (sym (map_at-next es e)) judged;
      told = refl;
      entry = slice_get-next es e ∙ ap
          (λ (P : State). Some (record { session = s; call = calls_of s es + 1; user = user; stamp = stamp_on P m; command = c }))
          (sym (map_at-next es e));
      comes_to = all_of-next es e;
    }))

-- acting on a journal is a row of it
pub row_of_act :
    (es : List Entry) (s : ℕ) (user : User) (m : ℕ) (c : Command)
    → IsRow
    (journal_after es s user m c)
    s
    (all_of s es)
    (does user c)
    m
    (Some (act (replay es) user m c).1)
    (all_of s (journal_after es s user m c))
row_of_act es s user m c = row_of_judged es s user m c (judge (replay es) user (stamp_on (replay es) m) c) refl

-- ---- a query

-- asking all of a journal is a row of it
pub row_of_ask : (es : List Entry) (s : ℕ) (m : ℕ) (q : Query) → IsRow es s (all_of s es) (reads q) m (Some (ask (replay es) m q)) (all_of s es)
row_of_ask es s m q = inl (record {
  later = omega arith;
  told = ap (λ (P : State). Some (ask P m q)) (sym (map_at-all es));
  calls = refl;
  debts = refl;
})

-- ---- places

-- the points never go back
pub row_later : (F : List Entry) (s : ℕ) (before after : Place) (q : Request) (m : ℕ) (reply : Option Answer) → IsRow F s before q m reply after → before.point ≤ after.point
row_later F s before after (refused r) m reply row =
    ⊎_elim (λ refuses. omega (arith, ap (λ (p : Place). p.point) refuses.stays)) (λ lacks. omega (arith, ap (λ (p : Place). p.point) lacks.stays)) row
row_later F s before after (does user c) m reply row =
    ⊎_elim
    (λ refuses. refuses.later)
    (λ other. ⊎_elim
    (λ accepts. omega (arith, accepts.later, ap (λ (p : Place). p.point) accepts.comes_to))
    (λ rest. ⊎_elim (λ lacks. omega (arith, ap (λ (p : Place). p.point) lacks.stays)) (λ owed. omega (arith, owed.point)) rest)
    other)
    row
row_later F s before after (reads q) m reply row = ⊎_elim (λ answers. answers.later) (λ lacks. omega (arith, ap (λ (p : Place). p.point) lacks.stays)) row
