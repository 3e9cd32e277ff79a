-- Arrays and objects, a turn at a time.
use Rattle.std.proofs.Common.{◌≡◌, ℕ, zero, suc, ◌<◌, ◌≤◌, List, [], ◌∷◌, ◌++◌, length, Option, Some, None, option_and_then, refl, sym, ap, ◌∙◌, arith}
use Rattle.json.specs.Token.{Token}
use Rattle.json.specs.Json as json
use Rattle.json.specs.Json.{Parse, parse_map, after_end_array, read_key, items_step, members_step, items, members, value}
use Rattle.json.proofs.Grammar.{left, Takes, items_end, items_fail, members_end, members_no_key, skip_value-shorter, read_key-shorter}
use Rattle.serde_json.specs.Data.{Data, Items, no_items, item, Members, no_members, put}
use Rattle.serde_json.specs.Read.{of_json, of_items, of_members, converted}
use Rattle.osm_json.proofs.Converted.{left_same, item_turn, member_turn}
use Rattle.osm_json.specs.Pull.{next_data, next_items, more_members, next_members}

-- ---- the turns that are allowed play no part where they are enough

module _ (p : Parse json.Json) (takes : Takes p) where
  same_and : {B : Type 0} (f : json.Json → B → B) (some other : Parse B) (o : Option (json.Json × List Token)) → ((r : List Token) → left o ≡ Some r → some r ≡ other r)
      → option_and_then (λ q. parse_map (f q.0) (some q.1)) o ≡ option_and_then (λ q. parse_map (f q.0) (other q.1)) o
  same_and f some other None same = refl
  same_and f some other (Some q) same = ap (parse_map (f q.0)) (same q.1 refl)

  nowhere : (o : Option (json.Json × List Token)) → ((r : List Token) → left o ≡ Some r → length r < 0) → o ≡ None
  nowhere None h = refl
  nowhere (Some q) h = let never : ⊥ = omega (arith, h q.1 refl) in absurd never

  no_items_left : (n : ℕ) → items p n [] ≡ None
  no_items_left n = items_fail p n [] refl (nowhere (p []) (takes []))

  item_same : (n m : ℕ) (ts : List Token) (o : Option (List Token)) → ((r : List Token) → left (p ts) ≡ Some r → items p n r ≡ items p m r) → items_step p (items p n) ts o ≡ items_step p (items p m) ts o
  item_same n m ts (Some r) same = refl
  item_same n m ts None same = same_and json.item (items p n) (items p m) (p ts) same

  items_same : (n m : ℕ) (ts : List Token) → length ts ≤ n → length ts ≤ m → items p n ts ≡ items p m ts
  unfolding items
  items_same zero m [] a b = sym (no_items_left m)
  items_same zero m (t ∷ ts) a b = let never : ⊥ = omega arith in absurd never
  items_same (suc n) zero [] a b = no_items_left (suc n)
  items_same (suc n) zero (t ∷ ts) a b = let never : ⊥ = omega arith in absurd never
  items_same (suc n) (suc m) ts a b =
      item_same n m ts (after_end_array ts) (λ r e. let less = takes ts r e in items_same n m r (omega arith) (omega arith))

  member_same : (n m : ℕ) (o : Option (Option (List ℕ) × List Token)) → ((k : List ℕ) (s r : List Token) → o ≡ Some (Some k, s) → left (p s) ≡ Some r → members p n r ≡ members p m r)
      → option_and_then (λ q. members_step p (members p n) q.0 q.1) o ≡ option_and_then (λ q. members_step p (members p m) q.0 q.1) o
  member_same n m None same = refl
  member_same n m (Some (None, s)) same = refl
  member_same n m (Some (Some k, s)) same = same_and (json.member k) (members p n) (members p m) (p s) (λ r e. same k s r refl e)

  members_same : (n m : ℕ) (ts : List Token) → length ts ≤ n → length ts ≤ m → members p n ts ≡ members p m ts
  unfolding members
  members_same zero m [] a b = sym (members_no_key p m [] refl)
  members_same zero m (t ∷ ts) a b = let never : ⊥ = omega arith in absurd never
  members_same (suc n) zero [] a b = members_no_key p (suc n) [] refl
  members_same (suc n) zero (t ∷ ts) a b = let never : ⊥ = omega arith in absurd never
  members_same (suc n) (suc m) ts a b =
      member_same n m (read_key ts) (λ k s r e f. let less = read_key-shorter ts (Some k) s e in let lesser = takes s r f in members_same n m r (omega arith) (omega arith))

-- ---- one turn

pub data_shorter : (depth : ℕ) (ts r : List Token) (d : Data) → next_data depth ts ≡ Some (d, r) → length r < length ts
data_shorter depth ts r d e = skip_value-shorter depth ts r (left_same of_json (value depth ts) d r e)

-- the turns that n allows are enough, so what follows the first item is read as if it stood alone
first_item : (depth n : ℕ) (ts r : List Token) (d : Data) → length ts ≤ n → after_end_array ts ≡ None → next_data depth ts ≡ Some (d, r)
    → converted of_items (items (value depth) n ts) ≡ parse_map (item d) (next_items depth r)
first_item depth zero ts r d enough going e = let less = data_shorter depth ts r d e in let never : ⊥ = omega arith in absurd never
first_item depth (suc n) ts r d enough going e =
    let less = data_shorter depth ts r d e in
    item_turn (value depth) n ts going
    ∙ ap (option_and_then (λ q. parse_map (item q.0) (converted of_items (items (value depth) n q.1)))) e
    ∙ ap (λ o. parse_map (item d) (converted of_items o)) (items_same (value depth) (skip_value-shorter depth) n (length r) r (omega arith) (omega arith))

bad_first_item : (depth n : ℕ) (ts : List Token) → after_end_array ts ≡ None → next_data depth ts ≡ None → converted of_items (items (value depth) n ts) ≡ None
unfolding items
bad_first_item depth zero ts going e = refl
bad_first_item depth (suc n) ts going e =
    item_turn (value depth) n ts going ∙ ap (option_and_then (λ q. parse_map (item q.0) (converted of_items (items (value depth) n q.1)))) e

first_member : (depth n : ℕ) (old : Members) (k : List ℕ) (ts s r : List Token) (d : Data) → length ts ≤ n → read_key ts ≡ Some (Some k, s) → next_data depth s ≡ Some (d, r)
    → converted (λ ms. of_members ms old) (members (value depth) n ts) ≡ more_members (put k d old) depth r
first_member depth zero old k ts s r d enough key e = let less = read_key-shorter ts (Some k) s key in let never : ⊥ = omega arith in absurd never
first_member depth (suc n) old k ts s r d enough key e =
    let less = read_key-shorter ts (Some k) s key in
    let lesser = data_shorter depth s r d e in
    member_turn (value depth) n ts old k s key
    ∙ ap (option_and_then (λ q. converted (λ ms. of_members ms (put k q.0 old)) (members (value depth) n q.1))) e
    ∙ ap (converted (λ ms. of_members ms (put k d old))) (members_same (value depth) (skip_value-shorter depth) n (length r) r (omega arith) (omega arith))

bad_first_member : (depth n : ℕ) (old : Members) (k : List ℕ) (ts s : List Token) → read_key ts ≡ Some (Some k, s) → next_data depth s ≡ None → converted (λ ms. of_members ms old) (members (value depth) n ts) ≡ None
unfolding members
bad_first_member depth zero old k ts s key e = refl
bad_first_member depth (suc n) old k ts s key e =
    member_turn (value depth) n ts old k s key ∙ ap (option_and_then (λ q. converted (λ ms. of_members ms (put k q.0 old)) (members (value depth) n q.1))) e

-- ---- an array

abbrev pub items_after : List Data → Items → Items
items_after [] rest = rest
items_after (d ∷ ds) rest = item d (items_after ds rest)

pub items_push : (ds : List Data) (d : Data) (rest : Items) → items_after ds (item d rest) ≡ items_after (ds ++ d ∷ []) rest
items_push [] d rest = refl
items_push (e ∷ ds) d rest = ap (item e) (items_push ds d rest)

items_pushed : (ds : List Data) (d : Data) (o : Option (Items × List Token)) → parse_map (items_after ds) (parse_map (item d) o) ≡ parse_map (items_after (ds ++ d ∷ [])) o
items_pushed ds d None = refl
items_pushed ds d (Some p) = ap (λ rest. Some (rest, p.1)) (items_push ds d p.0)

none_before : (o : Option (Items × List Token)) → o ≡ parse_map (items_after []) o
none_before None = refl
none_before (Some p) = refl

-- of the array that begins at `first` this front was read, up to `now`
pub record AmongItems (depth : ℕ) (first now : List Token) (front : List Data) : Type 0 where
  pub so_far : next_items depth first ≡ parse_map (items_after front) (next_items depth now)
  pub fewer : length now ≤ length first

pub no_item : (depth : ℕ) (first : List Token) → AmongItems depth first first []
no_item depth first = record { so_far = none_before (next_items depth first); fewer = omega arith }

module _ {depth : ℕ} {first now : List Token} {front : List Data} (among : AmongItems depth first now front) where
  pub one_item : (r : List Token) (d : Data) → after_end_array now ≡ None → next_data depth now ≡ Some (d, r) → AmongItems depth first r (front ++ d ∷ [])
  one_item r d going e =
      let less = data_shorter depth now r d e in
      let fewer = among.fewer in
      record {
        so_far = among.so_far ∙ ap (parse_map (items_after front)) (first_item depth (length now) now r d (omega arith) going e) ∙ items_pushed front d (next_items depth r);
        fewer = omega arith;
      }

  pub all_items : (r : List Token) → after_end_array now ≡ Some r → next_items depth first ≡ Some (items_after front no_items, r)
  all_items r e = among.so_far ∙ ap (parse_map (items_after front)) (ap (converted of_items) (items_end (value depth) (length now) now r (omega arith) e))

  pub bad_item : after_end_array now ≡ None → next_data depth now ≡ None → next_items depth first ≡ None
  bad_item going e = among.so_far ∙ ap (parse_map (items_after front)) (bad_first_item depth (length now) now going e)

  pub with_rest : (rest : Items) (r : List Token) → next_items depth now ≡ Some (rest, r) → next_items depth first ≡ Some (items_after front rest, r)
  with_rest rest r e = among.so_far ∙ ap (parse_map (items_after front)) e

  pub bad_rest : next_items depth now ≡ None → next_items depth first ≡ None
  bad_rest e = among.so_far ∙ ap (parse_map (items_after front)) e

-- ---- an object

-- of the object that begins at `first` these members were found, up to `now`
pub record AmongMembers (depth : ℕ) (first now : List Token) (found : Members) : Type 0 where
  pub so_far : next_members depth first ≡ more_members found depth now
  pub fewer : length now ≤ length first

pub no_member : (depth : ℕ) (first : List Token) → AmongMembers depth first first no_members
no_member depth first = record { so_far = refl; fewer = omega arith }

module _ {depth : ℕ} {first now : List Token} {found : Members} (among : AmongMembers depth first now found) where
  pub one_member : (k : List ℕ) (s r : List Token) (d : Data) → read_key now ≡ Some (Some k, s) → next_data depth s ≡ Some (d, r) → AmongMembers depth first r (put k d found)
  one_member k s r d key e =
      let less = read_key-shorter now (Some k) s key in
      let lesser = data_shorter depth s r d e in
      let fewer = among.fewer in
      record { so_far = among.so_far ∙ first_member depth (length now) found k now s r d (omega arith) key e; fewer = omega arith }

  pub all_members : (r : List Token) → read_key now ≡ Some (None, r) → next_members depth first ≡ Some (found, r)
  all_members r e = among.so_far ∙ ap (converted (λ ms. of_members ms found)) (members_end (value depth) (length now) now r (omega arith) e)

  pub no_key : read_key now ≡ None → next_members depth first ≡ None
  no_key e = among.so_far ∙ ap (converted (λ ms. of_members ms found)) (members_no_key (value depth) (length now) now e)

  pub bad_member : (k : List ℕ) (s : List Token) → read_key now ≡ Some (Some k, s) → next_data depth s ≡ None → next_members depth first ≡ None
  bad_member k s key e = among.so_far ∙ bad_first_member depth (length now) found k now s key e
