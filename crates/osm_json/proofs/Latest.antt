-- Going through entries in order, and taking the last of each name.
use Rattle.std.proofs.Common.{◌≡◌, ℕ, ◌+◌, ◌<◌, ◌≤◌, ◌⊎◌, inl, inr, Bool, true, false, ◌||◌, ◌==◌, List, [], ◌∷◌, ◌++◌, length, get_or, drop, Some, None, T, Ordering, Less, Equal, Greater, refl, sym, ap, ◌∙◌, subst, arith, append_assoc, true≢false, eqb-true, add-one, drop-cons}
use Rattle.std.proofs.lemmas.Bool.Decides.{nat_tests}
use Rattle.std.proofs.lemmas.Cmp.{nat_list_cmp_total}
use Rattle.std.proofs.lemmas.List.{append-nil, drop_all}
use Rattle.std.specs.FinMap.Entries.{is_sorted}
use Rattle.std.specs.Ordering.{is_lt, ordering_reverse}
use Rattle.osm_element.specs.Tags.{KeysRise}
use Rattle.osm_json.specs.Entries.{Entry, name_cmp, is_last, AreInOrder, gather, text_pairs}
use Rattle.osm_json.proofs.Gathered.{gathered_rise, order_after, gather_again, gather_next}
use Rattle.osm_json.proofs.Rising.{front_rises}
use Rattle.osm_json.proofs.Texts.{pairs_more, pairs_none}

abbrev Pairs : Type 0
Pairs = List (List ℕ × List ℕ)

abbrev no_entry : Entry
no_entry = ([], None)

either : (a b : Bool) → (a || b) ≡ true → (a ≡ true) ⊎ ((a ≡ false) × (b ≡ true))
either true b h = inl refl
either false b h = inr (refl, h)

neither : (a b : Bool) → (a || b) ≡ false → (a ≡ false) × (b ≡ false)
neither true b h = absurd (true≢false h)
neither false b h = (refl, h)

less : (o : Ordering) → is_lt o ≡ true → o ≡ Less
less Less h = refl
less Equal h = absurd (true≢false (sym h))
less Greater h = absurd (true≢false (sym h))

tied : (o : Ordering) → is_lt o ≡ false → is_lt (ordering_reverse o) ≡ false → o ≡ Equal
tied Less h k = absurd (true≢false h)
tied Equal h k = refl
tied Greater h k = absurd (true≢false k)

module _ (es : List Entry) (i : ℕ) (within : i < length es) (order : AreInOrder es) where
  abbrev here : Entry
  here = get_or es i no_entry

  abbrev next : Entry
  next = get_or es (i + 1) no_entry

  abbrev is_end : Bool
  is_end = i + 1 == length es

  abbrev is_less : Bool
  is_less = is_lt (name_cmp here.0 next.0)

  from_here : drop i es ≡ here ∷ drop (i + 1) es
  from_here = drop-cons es i no_entry within ∙ ap (λ (n : ℕ). here ∷ drop n es) (sym (add-one i))

  from_next : i + 1 < length es → drop (i + 1) es ≡ next ∷ drop (i + 1 + 1) es
  from_next more = drop-cons es (i + 1) no_entry more ∙ ap (λ (n : ℕ). next ∷ drop n es) (sym (add-one (i + 1)))

  not_over : is_end ≡ false → i + 1 < length es
  not_over f = grind (arith, nat_tests)

  at_end : is_end ≡ true → gather [] (drop i es) ≡ here ∷ gather [] (drop (i + 1) es)
  at_end t =
      let last : length es ≤ i + 1 = omega (arith, eqb-true (i + 1) (length es) t) in
      let over : drop (i + 1) es ≡ [] = drop_all (i + 1) es last in
      ap (gather []) (from_here ∙ ap (λ (l : List Entry). here ∷ l) over) ∙ ap (λ (l : List Entry). here ∷ gather [] l) (sym over)

  before_next : i + 1 < length es → is_less ≡ true → gather [] (drop i es) ≡ here ∷ gather [] (drop (i + 1) es)
  before_next more h =
      let rest = from_next more in
      ap (gather []) (from_here ∙ ap (λ (l : List Entry). here ∷ l) rest)
      ∙ gather_next here next (drop (i + 1 + 1) es) (less _ h) (subst AreInOrder rest (order_after (i + 1) es order))
      ∙ ap (λ (l : List Entry). here ∷ gather [] l) (sym rest)

  stays : is_last es i ≡ true → gather [] (drop i es) ≡ here ∷ gather [] (drop (i + 1) es)
  stays h = elim (either is_end is_less h) [ inl t ↦ at_end t | inr p ↦ before_next (not_over p.0) p.1 ]

  passes : is_last es i ≡ false → gather [] (drop i es) ≡ gather [] (drop (i + 1) es)
  passes h =
      let tests = neither is_end is_less h in
      let rest = from_next (not_over tests.0) in
      let whole = from_here ∙ ap (λ (l : List Entry). here ∷ l) rest in
      let sorted = subst AreInOrder whole (order_after i es order) in
      let same = tied (name_cmp next.0 here.0) sorted.0 (ap is_lt (sym (nat_list_cmp_total.antisymm here.0 next.0)) ∙ tests.1) in
      ap (gather []) whole ∙ gather_again here next (drop (i + 1 + 1) es) same ∙ ap (gather []) (sym rest)

-- those before i were gone through, and these are the pairs that they make
pub record Gone (es : List Entry) (i : ℕ) (pairs : Pairs) : Type 0 where
  pub front : List Entry
  pub whole : gather [] es ≡ front ++ gather [] (drop i es)
  pub made : text_pairs front ≡ Some pairs

pub none_gone : (es : List Entry) → Gone es 0 []
none_gone es = record { front = []; whole = refl; made = refl }

module _ (es : List Entry) (i : ℕ) (pairs : Pairs) (gone : Gone es i pairs) (within : i < length es) (order : AreInOrder es) where
  -- one that isn't the last of its name
  pub gone_past : is_last es i ≡ false → Gone es (i + 1) pairs
  gone_past h = record { front = gone.front; whole = gone.whole ∙ ap (λ (l : List Entry). gone.front ++ l) (passes es i within order h); made = gone.made }

  with_here : (e : Entry) → is_last es i ≡ true → get_or es i ([], None) ≡ e → gather [] es ≡ gone.front ++ e ∷ gather [] (drop (i + 1) es)
  with_here e h is = gone.whole ∙ ap (λ (l : List Entry). gone.front ++ l) (stays es i within order h) ∙ ap (λ (e : Entry). gone.front ++ e ∷ gather [] (drop (i + 1) es)) is

  -- the last of its name, with a text
  pub gone_more : (key text : List ℕ) → is_last es i ≡ true → get_or es i ([], None) ≡ (key, Some text) → Gone es (i + 1) (pairs ++ (key, text) ∷ [])
  gone_more key text h is =
      record {
        front = gone.front ++ (key, Some text) ∷ [];
        whole = with_here (key, Some text) h is ∙ sym (append_assoc gone.front ((key, Some text) ∷ []) (gather [] (drop (i + 1) es)));
        made = pairs_more gone.front pairs key text gone.made;
      }

  -- the last of its name, with no text
  pub gone_none : (key : List ℕ) → is_last es i ≡ true → get_or es i ([], None) ≡ (key, None) → text_pairs (gather [] es) ≡ None
  gone_none key h is = ap text_pairs (with_here (key, None) h is) ∙ pairs_none gone.front pairs key (gather [] (drop (i + 1) es)) gone.made

pub gone_rises : (es : List Entry) (i : ℕ) (pairs : Pairs) → Gone es i pairs → KeysRise pairs
gone_rises es i pairs gone = front_rises gone.front (gather [] (drop i es)) pairs gone.made (subst (λ (l : List Entry). T (is_sorted name_cmp l)) gone.whole (gathered_rise es))

pub all_gone : (es : List Entry) (i : ℕ) (pairs : Pairs) → Gone es i pairs → length es ≤ i → text_pairs (gather [] es) ≡ Some pairs
all_gone es i pairs gone over =
    ap text_pairs (gone.whole ∙ ap (λ (l : List Entry). gone.front ++ gather [] l) (drop_all i es over) ∙ append-nil gone.front) ∙ gone.made
