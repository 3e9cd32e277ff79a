-- What a turn of the grammar's loops is as data.
use Rattle.std.proofs.Common.{◌≡◌, ℕ, suc, List, [], ◌∷◌, Option, Some, None, option_map, option_and_then, refl, ap, ◌∙◌}
use Rattle.json.specs.Token.{Token}
use Rattle.json.specs.Json as json
use Rattle.json.specs.Json.{Parse, parse_map, after_end_array, read_key, items_step, members_step, items, members, if_last}
use Rattle.json.proofs.Grammar.{left}
use Rattle.serde_json.specs.Data.{Data, item, Members, put}
use Rattle.serde_json.specs.Read.{of_json, of_items, of_members, converted}
use Rattle.osm_json.specs.Pull.{ended}

-- ---- what is left, and what is inside

same_rest : {B : Type 0} (rest r : List Token) (x : Option B) (b : B) → option_map {U = B × List Token} (λ y. (y, rest)) x ≡ Some (b, r) → Some rest ≡ Some r
same_rest rest r None b e = absurd (cc)
same_rest rest r (Some y) b e = ap left e

pub left_same : {A B : Type 0} (f : A → Option B) (o : Option (A × List Token)) (b : B) (r : List Token) → converted f o ≡ Some (b, r) → left o ≡ Some r
left_same f None b r e = absurd (cc)
left_same f (Some p) b r e = same_rest p.1 r (f p.0) b e

wrapped : {A B : Type 0} (g : A → B) (r : List Token) (x : Option A) → option_map (λ b. (b, r)) (option_map g x) ≡ parse_map g (option_map (λ a. (a, r)) x)
wrapped g r None = refl
wrapped g r (Some a) = refl

-- a value that wraps what is inside it, as an array and an object do
pub wrapped_in : {A B C D : Type 0} (h : A → C) (f : C → Option D) (inside : A → Option B) (g : B → D) → ((a : A) → f (h a) ≡ option_map g (inside a)) → (o : Option (A × List Token)) → converted f (parse_map h o) ≡ parse_map g (converted inside o)
wrapped_in h f inside g is None = refl
wrapped_in h f inside g is (Some p) = ap (option_map (λ b. (b, p.1))) (is p.0) ∙ wrapped g p.1 (inside p.0)

-- ---- a value, and what follows it

with_item : (j : json.Json) (x : Option Data) (o : Option (json.Items × List Token)) → of_json j ≡ x → converted of_items (parse_map (json.item j) o) ≡ option_and_then (λ d. parse_map (item d) (converted of_items o)) x
with_item j None None e = refl
with_item j (Some d) None e = refl
with_item j None (Some p) e = rw e
with_item j (Some d) (Some p) e = rw e (wrapped (item d) p.1 (of_items p.0))

with_member : (old : Members) (k : List ℕ) (j : json.Json) (x : Option Data) (o : Option (json.Members × List Token)) → of_json j ≡ x
    → converted (λ ms. of_members ms old) (parse_map (json.member k j) o) ≡ option_and_then (λ d. converted (λ ms. of_members ms (put k d old)) o) x
with_member old k j None None e = refl
with_member old k j (Some d) None e = refl
with_member old k j None (Some p) e = rw e
with_member old k j (Some d) (Some p) e = rw e

then_at : {B : Type 0} (r : List Token) (x : Option Data) (more : Data × List Token → Option B) → option_and_then (λ d. more (d, r)) x ≡ option_and_then more (option_map (λ d. (d, r)) x)
then_at r None more = refl
then_at r (Some d) more = refl

items_then : (more : Parse json.Items) (o : Option (json.Json × List Token))
    → converted of_items (option_and_then (λ q. parse_map (json.item q.0) (more q.1)) o) ≡ option_and_then (λ q. parse_map (item q.0) (converted of_items (more q.1))) (converted of_json o)
items_then more None = refl
items_then more (Some q) =
    with_item q.0 (of_json q.0) (more q.1) refl ∙ then_at q.1 (of_json q.0) (λ p. parse_map (item p.0) (converted of_items (more p.1)))

members_then : (old : Members) (k : List ℕ) (more : Parse json.Members) (o : Option (json.Json × List Token))
    → converted (λ ms. of_members ms old) (option_and_then (λ q. parse_map (json.member k q.0) (more q.1)) o) ≡ option_and_then (λ q. converted (λ ms. of_members ms (put k q.0 old)) (more q.1)) (converted of_json o)
members_then old k more None = refl
members_then old k more (Some q) =
    with_member old k q.0 (of_json q.0) (more q.1) refl ∙ then_at q.1 (of_json q.0) (λ p. converted (λ ms. of_members ms (put k p.0 old)) (more p.1))

-- ---- a turn, of which the first part is the value that p reads

module _ (p : Parse json.Json) (n : ℕ) (ts : List Token) where
  pub item_turn : after_end_array ts ≡ None
      → converted of_items (items p (suc n) ts) ≡ option_and_then (λ q. parse_map (item q.0) (converted of_items (items p n q.1))) (converted of_json (p ts))
  unfolding items
  item_turn going = ap (λ o. converted of_items (items_step p (items p n) ts o)) going ∙ items_then (items p n) (p ts)

  pub member_turn : (old : Members) (k : List ℕ) (s : List Token) → read_key ts ≡ Some (Some k, s)
      → converted (λ ms. of_members ms old) (members p (suc n) ts) ≡ option_and_then (λ q. converted (λ ms. of_members ms (put k q.0 old)) (members p n q.1)) (converted of_json (p s))
  unfolding members
  member_turn old k s key =
      ap (λ o. converted (λ ms. of_members ms old) (option_and_then (λ q. members_step p (members p n) q.0 q.1) o)) key ∙ members_then old k (members p n) (p s)

-- ---- the whole text

abbrev first_part : Option (Data × List Token) → Option Data
first_part o = option_map (λ p. p.0) o

first_same : (x : Option Data) → x ≡ first_part (ended (option_map (λ d. (d, [])) x))
first_same None = refl
first_same (Some d) = refl

more_after : (t : Token) (ts : List Token) (x : Option Data) → None ≡ first_part (ended (option_map (λ d. (d, t ∷ ts)) x))
more_after t ts None = refl
more_after t ts (Some d) = refl

-- the data of a text is what begins it, where nothing follows
pub whole : (o : Option (json.Json × List Token)) → option_and_then of_json (option_and_then (λ p. if_last p.0 p.1) o) ≡ first_part (ended (converted of_json o))
whole None = refl
whole (Some (j, [])) = first_same (of_json j)
whole (Some (j, t ∷ ts)) = more_after t ts (of_json j)
