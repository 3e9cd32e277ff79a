-- A row changes, and all others are as they were.
use Rattle.std.proofs.Common.{◌≡◌, ◌≢◌, ℕ, zero, suc, ◌+◌, ◌<◌, ◌≤◌, if◌then◌else◌, true, List, [], ◌∷◌, ◌++◌, length, get_or, set, map, refl, sym, ap, ◌∙◌, subst, ⊎_elim, arith, get_or-set_same, get_or-set_other}
use Rattle.std.specs.Prelude.{slice_get, Some, Result, Ok, Err, OnOk, OnErr, is_ok}
use Rattle.std.proofs.lemmas.Bool.{cases_eq, false≢true}
use Rattle.std.proofs.lemmas.List.{set-get_or}
use Rattle.std.proofs.lemmas.List.Sums.{sum_by-set, sum_by-append}
use Rattle.std.proofs.lemmas.Option.{slice_get_within, get_or_from_slice_get}
use Rattle.osm_base.specs.declared.keys.Key.{Key}
use Rattle.reverse_refs.specs.Users.{UserRow, WideList, no_row, row_at}
use Rattle.reverse_refs.specs.Slots.{slot_at, no_slot, IsTaken}
use Rattle.reverse_refs.specs.Held.{held_at, row_held, promises, wide_end, IsSmall, IsAdded, IsSound}
use Rattle.reverse_refs.specs.declared.slots.Slot.{Slot}
use Rattle.reverse_refs.specs.declared.held.Held.{Held}
use Rattle.reverse_refs.specs.declared.held.Held.TheVariants.{Nothing, Promised, One, Left, WideOne, WideLeft, Listed}

get_map : {X Y : Type 0} (f : X → Y) (xs : List X) (i : ℕ) (d : X) → get_or (map f xs) i (f d) ≡ f (get_or xs i d)
get_map f [] i d = refl
get_map f (x ∷ xs) zero d = refl
get_map f (x ∷ xs) (suc i) d = get_map f xs i d

map_same : {X Y : Type 0} (f g : X → Y) (d : X) (xs : List X) → ((j : ℕ) → f (get_or xs j d) ≡ g (get_or xs j d)) → map f xs ≡ map g xs
map_same f g d [] same = refl
map_same f g d (x ∷ xs) same = let head = same 0 in let rest = map_same f g d xs (λ j. same (suc j)) in cc

-- one item changes, and of all others the two functions make the same
map_changed :
    {X Y : Type 0} (f g : X → Y) (d : X) (xs : List X) (i : ℕ) (x : X)
    → ((j : ℕ) → j ≢ i → f (get_or xs j d) ≡ g (get_or xs j d))
    → map f (set xs i x) ≡ set (map g xs) i (f x)
map_changed f g d [] i x same = refl
map_changed f g d (y ∷ xs) zero x same = let rest = map_same f g d xs (λ j. same (suc j) (omega arith)) in cc
map_changed f g d (y ∷ xs) (suc i) x same =
    let head = same 0 (omega arith) in
    let rest = map_changed f g d xs i x (λ j other. same (suc j) (omega arith)) in
    cc

in_use : (slots : List Slot) (p : ℕ) → (slot_at slots p).is_used ≡ true → p < length slots
in_use [] p used = absurd (false≢true used)
in_use (s ∷ slots) zero used = omega arith
in_use (s ∷ slots) (suc p) used = let rest = in_use slots p used in omega (arith, rest)

-- a row reads the same where its list and its wide key are the same
read_same :
    (slots slots' : List Slot) (keys keys' : List Key) (h : Held)
    → ((p : ℕ) → h ≡ Listed p → slot_at slots' p ≡ slot_at slots p)
    → IsAdded keys keys'
    → wide_end h ≤ length keys
    → row_held slots' keys' h ≡ row_held slots keys h
read_same slots slots' keys keys' Nothing lists added within = refl
read_same slots slots' keys keys' Promised lists added within = refl
read_same slots slots' keys keys' (One kind id) lists added within = refl
read_same slots slots' keys keys' (Left kind id) lists added within = refl
read_same slots slots' keys keys' (WideOne place) lists added within = ap (λ (k : Key). record no_row { present = k ∷ [] }) (added.same place (omega arith))
read_same slots slots' keys keys' (WideLeft place) lists added within = ap (λ (k : Key). record no_row { past = k ∷ [] }) (added.same place (omega arith))
read_same slots slots' keys keys' (Listed place) lists added within = ap (λ (s : Slot). s.list) (lists place refl)

pub same_keys : (keys keys' : List Key) → keys' ≡ keys → IsAdded keys keys'
same_keys keys keys' same = subst (λ (ks : List Key). IsAdded keys ks) (sym same) (record { longer = omega arith; same = λ p inside. refl })

pub nothing : (many : ℕ) → IsSmall many Nothing
nothing many = record { apart = λ p is. cc; settled = refl; within = omega arith }

-- what is known where a row is looked at
pub record IsHere (rows : List Held) (slots : List Slot) (wide : WideList) (old : List UserRow) (i : ℕ) (row : Held) : Type 0 where
  pub sound : IsSound rows slots wide
  pub view : map (row_held slots wide.keys) rows ≡ old
  pub held : held_at rows i ≡ row
  pub inside : i < length rows

pub at_row :
    {rows : List Held} {slots : List Slot} {wide : WideList} {old : List UserRow} {i : ℕ} {row : Held}
    → IsSound rows slots wide
    → map (row_held slots wide.keys) rows ≡ old
    → slice_get rows i ≡ Some row
    → IsHere rows slots wide old i row
at_row {rows = rows} {i = i} {row = row} sound view found = record {
  sound = sound;
  view = view;
  held = get_or_from_slice_get rows i row Nothing found;
  inside = slice_get_within rows i row found;
}

-- a row is replaced by another: the lists of all others stay, its own is in use by it alone, and its wide key is there
pub record IsChange (rows : List Held) (slots : List Slot) (wide : WideList) (i : ℕ) (row h : Held) (slots' : List Slot) (wide' : WideList) : Type 0 where
  pub lists : (j p : ℕ) → j ≢ i → held_at rows j ≡ Listed p → slot_at slots' p ≡ slot_at slots p
  pub used : (p : ℕ) → h ≡ Listed p → (slot_at slots' p).is_used ≡ true
  pub apart : (j p : ℕ) → j ≢ i → h ≡ Listed p → held_at rows j ≢ Listed p
  pub added : IsAdded wide.keys wide'.keys
  pub within : wide_end h ≤ length wide'.keys
  pub awaited : wide.awaited + promises h ≤ wide'.awaited + promises row

module _ {rows : List Held} {slots : List Slot} {wide : WideList} {old : List UserRow} {i : ℕ} {row : Held} (here : IsHere rows slots wide old i row) where
  pub there : row_at old i ≡ row_held slots wide.keys row
  there =
      sym (ap (λ (l : List UserRow). row_at l i) here.view)
      ∙ get_map (row_held slots wide.keys) rows i Nothing
      ∙ ap (row_held slots wide.keys) here.held

  pub spent : promises row ≤ wide.awaited
  spent =
      let sums = sum_by-set promises rows i Nothing Nothing here.inside in
      let same = ap promises here.held in
      let was = here.sound.awaited in
      omega (arith, sums, same, was)

  pub wide_there : wide_end row ≤ length wide.keys
  wide_there = subst (λ (h : Held). wide_end h ≤ length wide.keys) here.held (here.sound.within i)

  same_rows : set rows i row ≡ rows
  same_rows = ap (set rows i) (sym here.held) ∙ set-get_or rows i Nothing

  -- nothing changes
  pub stays : (slots' : List Slot) (wide' : WideList) → slots' ≡ slots → wide'.keys ≡ wide.keys → wide'.awaited ≡ wide.awaited → IsSound (set rows i row) slots' wide'
  stays slots' wide' same keys awaited =
      let also : wide' ≡ wide = ap (λ (ks : List Key). record wide' { keys = ks }) keys ∙ ap (λ (n : ℕ). record wide { awaited = n }) awaited in
      subst (λ (rs : List Held). IsSound rs slots' wide') (sym same_rows)
      (subst (λ (ss : List Slot). IsSound rows ss wide') (sym same) (subst (λ (w : WideList). IsSound rows slots w) (sym also) here.sound))

  pub same_view : (slots' : List Slot) (keys' : List Key) → slots' ≡ slots → keys' ≡ wide.keys → map (row_held slots' keys') (set rows i row) ≡ old
  same_view slots' keys' same keys =
      ap (map (row_held slots' keys')) same_rows
      ∙ ap (λ (ss : List Slot). map (row_held ss keys') rows) same
      ∙ ap (λ (ks : List Key). map (row_held slots ks) rows) keys
      ∙ here.view

  pub same_row : set old i (row_at old i) ≡ old
  same_row = set-get_or old i no_row

  -- where the row has no list, it reads the same over any
  pub without_lists : (slots' : List Slot) → ((p : ℕ) → row ≢ Listed p) → row_held slots' wide.keys row ≡ row_at old i
  without_lists slots' apart =
      read_same slots slots' wide.keys wide.keys row (λ p is. absurd (apart p is)) (same_keys wide.keys wide.keys refl) wide_there ∙ sym there

  module _ {h : Held} {slots' : List Slot} {wide' : WideList} (change : IsChange rows slots wide i row h slots' wide') where
    pub view_after : map (row_held slots' wide'.keys) (set rows i h) ≡ set old i (row_held slots' wide'.keys h)
    view_after =
        map_changed (row_held slots' wide'.keys) (row_held slots wide.keys) Nothing rows i h
        (λ j off. read_same slots slots' wide.keys wide'.keys (held_at rows j) (λ p. change.lists j p off) change.added (here.sound.within j))
        ∙ ap (λ (l : List UserRow). set l i (row_held slots' wide'.keys h)) here.view

    at_i : held_at (set rows i h) i ≡ h
    at_i = get_or-set_same rows i h Nothing here.inside

    at_other : (j : ℕ) → j ≢ i → held_at (set rows i h) j ≡ held_at rows j
    at_other j off = get_or-set_other rows i j h Nothing off

    used_after : (j p : ℕ) → held_at (set rows i h) j ≡ Listed p → (slot_at slots' p).is_used ≡ true
    used_after j p is =
        ⊎_elim
        (λ (at : j ≡ i). change.used p (sym at_i ∙ ap (held_at (set rows i h)) (sym at) ∙ is))
        (λ (off : j ≢ i). let was : held_at rows j ≡ Listed p = sym (at_other j off) ∙ is in ap (λ (s : Slot). s.is_used) (change.lists j p off was) ∙ here.sound.used j p was)
        (cases_eq j i)

    -- no other row has the list of this one
    alone_after : (j k p : ℕ) → j ≡ i → k ≢ i → held_at (set rows i h) j ≡ Listed p → held_at (set rows i h) k ≢ Listed p
    alone_after j k p at off one two =
        change.apart k p off (sym at_i ∙ ap (held_at (set rows i h)) (sym at) ∙ one) (sym (at_other k off) ∙ two)

    apart_after : (j k p : ℕ) → held_at (set rows i h) j ≡ Listed p → held_at (set rows i h) k ≡ Listed p → j ≡ k
    apart_after j k p one two =
        ⊎_elim
        (λ (at : j ≡ i). ⊎_elim (λ (too : k ≡ i). at ∙ sym too) (λ (off : k ≢ i). absurd (alone_after j k p at off one two)) (cases_eq k i))
        (λ (away : j ≢ i). ⊎_elim
        (λ (at : k ≡ i). absurd (alone_after k j p at away two one))
        (λ (off : k ≢ i). here.sound.apart j k p (sym (at_other j away) ∙ one) (sym (at_other k off) ∙ two))
        (cases_eq k i))
        (cases_eq j i)

    within_after : (j : ℕ) → wide_end (held_at (set rows i h) j) ≤ length wide'.keys
    within_after j =
        ⊎_elim
        (λ (at : j ≡ i). subst (λ (x : Held). wide_end x ≤ length wide'.keys) (sym (ap (held_at (set rows i h)) at ∙ at_i)) change.within)
        (λ (off : j ≢ i). subst (λ (x : Held). wide_end x ≤ length wide'.keys) (sym (at_other j off)) (let was = here.sound.within j in let more = change.added.longer in omega (arith, was, more)))
        (cases_eq j i)

    pub sound_after : IsSound (set rows i h) slots' wide'
    sound_after = record {
      used = used_after;
      apart = apart_after;
      within = within_after;
      awaited = let sums = sum_by-set promises rows i h Nothing here.inside in
          let same = ap promises here.held in
          let was = here.sound.awaited in
          let more = change.awaited in
          omega (arith, sums, same, was, more);
    }

  -- the row needs no list from now on, and lists stay as they are
  pub small : (h : Held) (wide' : WideList) → IsSmall (length wide'.keys) h → IsAdded wide.keys wide'.keys → wide.awaited ≤ wide'.awaited + promises row → IsChange rows slots wide i row h slots wide'
  small h wide' is added spent = record {
    lists = λ j p off was. refl;
    used = λ p listed. absurd (is.apart p listed);
    apart = λ j p off listed. absurd (is.apart p listed);
    added = added;
    within = is.within;
    awaited = let none = is.settled in omega (arith, spent, none);
  }

  -- the row awaits its first user
  pub waiting : (wide' : WideList) → wide'.keys ≡ wide.keys → wide.awaited + 1 ≤ wide'.awaited + promises row → IsChange rows slots wide i row Promised slots wide'
  waiting wide' keys spent = record {
    lists = λ j p off was. refl;
    used = λ p listed. cc;
    apart = λ j p off listed was. cc;
    added = same_keys wide.keys wide'.keys keys;
    within = omega arith;
    awaited = spent;
  }

  -- the row's one user comes back or leaves
  pub turned : (h : Held) → ((p : ℕ) → h ≢ Listed p) → promises h ≡ 0 → wide_end h ≡ wide_end row → IsChange rows slots wide i row h slots wide
  turned h apart settled end =
      small h wide (record { apart = apart; settled = settled; within = let there = wide_there in omega (arith, end, there) }) (same_keys wide.keys wide.keys refl) (omega arith)

  -- the row's list stands where none was
  pub taken : (p : ℕ) (list : UserRow) (slots' : List Slot) (wide' : WideList) → IsTaken slots slots' p list → IsAdded wide.keys wide'.keys → wide.awaited ≤ wide'.awaited + promises row → IsChange rows slots wide i row (Listed p) slots' wide'
  taken p list slots' wide' take added spent = record {
    lists = λ j q off was. take.same q (λ (at : q ≡ p). free j q was at);
    used = λ q listed. ap (λ (n : ℕ). (slot_at slots' n).is_used) (let at : q ≡ p = cc in at) ∙ take.used;
    apart = λ j q off listed was. free j q was (let at : q ≡ p = cc in at);
    added = added;
    within = omega arith;
    awaited = omega (arith, spent);
  }
    where
      free : (j q : ℕ) → held_at rows j ≡ Listed q → q ≡ p → ⊥
      free j q was at = false≢true (sym take.was ∙ ap (λ (n : ℕ). (slot_at slots n).is_used) (sym at) ∙ here.sound.used j q was)

  module _ (p : ℕ) (listed : row ≡ Listed p) where
    pub list_there : p < length slots
    list_there = in_use slots p (here.sound.used i p (here.held ∙ listed))

    pub list_at : (slot_at slots p).list ≡ row_at old i
    list_at = sym (there ∙ ap (row_held slots wide.keys) listed)

    pub list_is : {slot : Slot} → slice_get slots p ≡ Some slot → slot.list ≡ row_at old i
    list_is {slot} found = ap (λ (s : Slot). s.list) (sym (get_or_from_slice_get slots p slot no_slot found)) ∙ list_at

    -- no other row has this list
    lone : (j q : ℕ) → j ≢ i → held_at rows j ≡ Listed q → q ≢ p
    lone j q off was at = off (here.sound.apart j i q was (here.held ∙ listed ∙ ap Listed (sym at)))

    -- the row's list changes where it stands
    pub edited : {slot : Slot} (s : Slot) → slice_get slots p ≡ Some slot → s.is_used ≡ slot.is_used → IsChange rows slots wide i row row (set slots p s) wide
    edited {slot} s found same = record {
      lists = λ j q off was. get_or-set_other slots p q s no_slot (lone j q off was);
      used = λ q is. let at : q ≡ p = cc in
          ap (λ (n : ℕ). (slot_at (set slots p s) n).is_used) at
          ∙ ap (λ (x : Slot). x.is_used) (get_or-set_same slots p s no_slot list_there)
          ∙ same
          ∙ ap (λ (x : Slot). x.is_used) (sym (get_or_from_slice_get slots p slot no_slot found))
          ∙ here.sound.used i p (here.held ∙ listed);
      apart = λ j q off is was. lone j q off was (let at : q ≡ p = cc in at);
      added = same_keys wide.keys wide.keys refl;
      within = let end = ap wide_end listed in omega (arith, end);
      awaited = omega arith;
    }

    pub edited_view : {slot : Slot} (s : Slot) → slice_get slots p ≡ Some slot → s.is_used ≡ slot.is_used → map (row_held (set slots p s) wide.keys) (set rows i row) ≡ set old i s.list
    edited_view s found same =
        view_after (edited s found same)
        ∙ ap (set old i) (ap (row_held (set slots p s) wide.keys) listed ∙ ap (λ (x : Slot). x.list) (get_or-set_same slots p s no_slot list_there))

    -- the row gives its list up
    pub freed : (h : Held) (slots' : List Slot) → ((q : ℕ) → q ≢ p → slot_at slots' q ≡ slot_at slots q) → IsSmall 0 h → IsChange rows slots wide i row h slots' wide
    freed h slots' same is = record {
      lists = λ j q off was. same q (lone j q off was);
      used = λ q is_list. absurd (is.apart q is_list);
      apart = λ j q off is_list. absurd (is.apart q is_list);
      added = same_keys wide.keys wide.keys refl;
      within = let end = is.within in omega (arith, end);
      awaited = let none = is.settled in omega (arith, none);
    }

held_more : (rows : List Held) (j : ℕ) → held_at (rows ++ Nothing ∷ []) j ≡ held_at rows j
held_more [] zero = refl
held_more [] (suc j) = refl
held_more (h ∷ rows) zero = refl
held_more (h ∷ rows) (suc j) = held_more rows j

one_more : (rows : List Held) (slots : List Slot) (wide : WideList) → IsSound rows slots wide → IsSound (rows ++ Nothing ∷ []) slots wide
one_more rows slots wide sound = record {
  used = λ i p is. sound.used i p (sym (held_more rows i) ∙ is);
  apart = λ i j p one two. sound.apart i j p (sym (held_more rows i) ∙ one) (sym (held_more rows j) ∙ two);
  within = λ i. subst (λ (h : Held). wide_end h ≤ length wide.keys) (sym (held_more rows i)) (sound.within i);
  awaited = let sums = sum_by-append promises rows (Nothing ∷ []) in let was = sound.awaited in omega (arith, sums, was);
}

pub grown :
    {E : Type 0} (r : Result (Unit {0}) E) (rows new : List Held) (slots : List Slot) (wide : WideList)
    → IsSound rows slots wide
    → OnOk r (new ≡ rows ++ Nothing ∷ [])
    → OnErr r (new ≡ rows)
    → IsSound new slots wide
grown (Ok x) rows new slots wide sound ok err = subst (λ (rs : List Held). IsSound rs slots wide) (sym ok) (one_more rows slots wide sound)
grown (Err e) rows new slots wide sound ok err = subst (λ (rs : List Held). IsSound rs slots wide) (sym err) sound

pub on_err : {T E P : Type 0} (r : Result T E) → P → OnErr r P
on_err (Ok x) p = tt
on_err (Err e) p = p

-- what is one more where a call succeeds, and the same where it fails
module _ {T E X : Type 0} (r : Result T E) (x : X) (f : ℕ → X) (is : x ≡ f (if is_ok r then 1 else 0)) where
  pub if_ok : OnOk r (x ≡ f 1)
  if_ok = elim r as (λ (q : Result T E). x ≡ f (if is_ok q then 1 else 0) → OnOk q (x ≡ f 1)) [ Ok v ↦ λ e. e | Err v ↦ λ e. tt ] is

  pub if_err : OnErr r (x ≡ f 0)
  if_err = elim r as (λ (q : Result T E). x ≡ f (if is_ok q then 1 else 0) → OnErr q (x ≡ f 0)) [ Ok v ↦ λ e. tt | Err v ↦ λ e. e ] is
