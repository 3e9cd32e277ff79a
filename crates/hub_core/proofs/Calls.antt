-- One more entry of a session is one more call.
use Rattle.std.proofs.Common.{◌≡◌, ◌≢◌, ℕ, ◌+◌, ◌<◌, ◌≤◌, ◌==◌, Bool, true, false, cond, length, take, drop, sym, List, [], ◌∷◌, ◌++◌, ap, ◌∙◌, nat_lt, arith}
use Rattle.std.specs.Prelude.{count_by}
use Rattle.std.specs.List.{sum_by}
use Rattle.std.proofs.lemmas.List.{take-append-drop, take-append-le, length-take-le}
use Rattle.std.proofs.lemmas.List.Sums.{sum_by-append}
use Rattle.std.proofs.lemmas.Bool.{eq-eqb, ne_eqb, ltb-false}
use Rattle.machine_law.specs.declared.tags.Tag.{Tag}
use Rattle.std.proofs.Common.{Option, Some, None, unwrap_or, refl}
use Rattle.std.specs.BTreeMap.{BTreeMap, get, is_at, Updates}
use Rattle.std.specs.Ordering.{is_eq, is_lt, nat_cmp}
use Rattle.std.specs.Prelude.{IsSome}
use Rattle.std.proofs.lemmas.Map.Keys.{ge_from_not_lt}
use Rattle.std.specs.declared.cmp.Ordering.TheVariants.{Less, Equal, Greater}
use native.Mathlib.Decide.{ℕ_discrete}
use Rattle.hub_core.specs.Journal.{calls_of, count_of, AreCounted}

same_session : (session : ℕ) → (session == session) ≡ true
same_session session = eq-eqb session session refl

other_session : (session other : ℕ) → session ≢ other → (other == session) ≡ false
other_session session other apart = ne_eqb other session (λ same. apart (sym same))

-- two numbers that differ aren't compared as equal
unequal : (less same : Bool) → same ≡ false → is_eq (cond less Less (cond same Equal Greater)) ≡ false
unequal true same h = refl
unequal false true h = cc
unequal false false h = refl

other_key : (key other : ℕ) → key ≢ other → is_at (nat_cmp key) other ≡ false
other_key key other apart = unequal (nat_lt key other) (key == other) (ne_eqb key other apart)

module _ {E : Type 0} where
  count_push : (p : E → Bool) (xs : List E) (e : E) → p e ≡ true → count_by p (xs ++ e ∷ []) ≡ count_by p xs + 1
  count_push p xs e h =
      let weight : E → ℕ = λ x. cond (p x) 1 0 in
      sum_by-append weight xs (e ∷ []) ∙ ap (λ (b : Bool). sum_by weight xs + (0 + cond b 1 0)) h

  pub calls_push : (tag_of : E → Tag) (xs : List E) (e : E) (tag : Tag) → tag_of e ≡ tag → calls_of tag_of tag.session (xs ++ e ∷ []) ≡ calls_of tag_of tag.session xs + 1
  calls_push tag_of xs e tag is = count_push (λ x. (tag_of x).session == tag.session) xs e (ap (λ (t : Tag). t.session == tag.session) is ∙ same_session tag.session)

  pub calls_other : (tag_of : E → Tag) (xs : List E) (e : E) (tag : Tag) (session : ℕ) → tag_of e ≡ tag → session ≢ tag.session → calls_of tag_of session (xs ++ e ∷ []) ≡ calls_of tag_of session xs
  calls_other tag_of xs e tag session is apart =
      let weight : E → ℕ = λ x. cond ((tag_of x).session == session) 1 0 in
      let none : ((tag_of e).session == session) ≡ false = ap (λ (t : Tag). t.session == session) is ∙ other_session session tag.session apart in
      let one : sum_by weight (e ∷ []) ≡ 0 = ap (λ (b : Bool). 0 + cond b 1 0) none in
      omega (arith, sum_by-append weight xs (e ∷ []), one)

  -- a beginning has no more
  count_take : (p : E → Bool) (n : ℕ) (xs : List E) → count_by p (take n xs) ≤ count_by p xs
  count_take p n xs =
      let weight : E → ℕ = λ x. cond (p x) 1 0 in
      omega (arith, sum_by-append weight (take n xs) (drop n xs), ap (sum_by weight) (take-append-drop n xs))

  -- a longer beginning has no fewer
  pub calls_between : (tag_of : E → Tag) (session n m : ℕ) (xs : List E) → n ≤ m → m ≤ length xs
      → calls_of tag_of session (take n xs) ≡ calls_of tag_of session xs → calls_of tag_of session (take m xs) ≡ calls_of tag_of session xs
  calls_between tag_of session n m xs le within all =
      let p : E → Bool = λ x. (tag_of x).session == session in
      let short : take n (take m xs) ≡ take n xs = sym (take-append-le n (take m xs) (drop m xs) (omega (arith, length-take-le m xs within))) ∙ ap (take n) (take-append-drop m xs) in
      omega (arith, count_take p m xs, count_take p n (take m xs), ap (count_by p) short, all)

  -- the count of an entry's session is raised with it
  pub counted_push : (tag_of : E → Tag) (old new : BTreeMap ℕ ℕ) (xs : List E) (e : E) (tag : Tag) → AreCounted tag_of old xs → tag_of e ≡ tag
      → Updates nat_cmp old new tag.session (Some tag.call) → tag.call ≡ calls_of tag_of tag.session xs + 1 → AreCounted tag_of new (xs ++ e ∷ [])
  counted_push tag_of old new xs e tag counted is set next session = go (ℕ_discrete session tag.session) where
    go : Dec (session ≡ tag.session) → count_of new session ≡ calls_of tag_of session (xs ++ e ∷ [])
    go (yes same) = rw same (ap (λ (o : Option ℕ). unwrap_or o 0) set.1 ∙ (next ∙ sym (calls_push tag_of xs e tag is)))
    go (no apart) = ap (λ (o : Option ℕ). unwrap_or o 0) (set.2 session (other_key tag.session session (λ same. apart (sym same)))) ∙ (counted session ∙ sym (calls_other tag_of xs e tag session is apart))

-- a place more changes no count
pub place_more : (old new : BTreeMap ℕ ℕ) (session : ℕ) → get nat_cmp old session ≡ None → Updates nat_cmp old new session (Some 0) → (other : ℕ) → count_of new other ≡ count_of old other
place_more old new session none set other = go (ℕ_discrete other session) where
  go : Dec (other ≡ session) → count_of new other ≡ count_of old other
  go (yes same) = rw same (ap (λ (o : Option ℕ). unwrap_or o 0) set.1 ∙ sym (ap (λ (o : Option ℕ). unwrap_or o 0) none))
  go (no apart) = ap (λ (o : Option ℕ). unwrap_or o 0) (set.2 other (other_key session other (λ same. apart (sym same))))

-- where the last place below an end is known, and no session from the end on has an entry, none past that place has
pub none_past : (counts : BTreeMap ℕ ℕ) (last end : ℕ) → ((session : ℕ) → nat_cmp session end ≡ Less → IsSome (get nat_cmp counts session) → is_lt (nat_cmp last session) ≡ false)
    → ((session : ℕ) → end ≤ session → count_of counts session ≡ 0) → (session : ℕ) → last < session → count_of counts session ≡ 0
none_past counts last end below from session past = go (nat_lt session end) refl where
  at : nat_lt session end ≡ true → (o : Option ℕ) → get nat_cmp counts session ≡ o → count_of counts session ≡ 0
  at lt None is = ap (λ (o : Option ℕ). unwrap_or o 0) is
  at lt (Some n) is =
      let less : nat_cmp session end ≡ Less = ap (λ (b : Bool). cond b Less (cond (session == end) Equal Greater)) lt in
      absurd (omega (arith, ge_from_not_lt last session (below session less (rw is refl)), past))

  go : (b : Bool) → nat_lt session end ≡ b → count_of counts session ≡ 0
  go true lt = at lt (get nat_cmp counts session) refl
  go false ge = from session (ltb-false session end ge)
