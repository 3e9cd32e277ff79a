-- Reading the items of an array one after the other.
use Rattle.std.proofs.Common.{◌≡◌, ℕ, List, [], ◌∷◌, ◌++◌, Option, Some, None, option_map, refl, sym, ap, ◌∙◌, append_assoc}
use Rattle.std.proofs.lemmas.List.{append-nil}
use Rattle.json.specs.Json.{after_end_array}
use Rattle.json.specs.Token.{Token}
use Rattle.serde_json.specs.Data.{Data, Items, no_items, item}
use Rattle.osm_json.specs.Reading.{◌>>=◌, each_of}
use Rattle.osm_json.specs.Pull.{next_data, next_items, Pulls}
use Rattle.osm_json.proofs.Turns.{items_after, items_push, AmongItems, one_item, all_items, with_rest}

abbrev pub with_front : {A : Type 0} → List A → Option (List A) → Option (List A)
with_front front rest = option_map (λ more. front ++ more) rest

-- the values in front read as xs, whatever follows them
pub record ReadFront {A : Type 0} (reading : Data → Option A) (front : List Data) (xs : List A) : Type 0 where
  pub all : (rest : Items) → each_of reading (items_after front rest) ≡ with_front xs (each_of reading rest)

same_front : {A : Type 0} (o : Option (List A)) → o ≡ with_front [] o
same_front None = refl
same_front (Some xs) = refl

pub none_read : {A : Type 0} (reading : Data → Option A) → ReadFront reading [] []
none_read reading = record { all = λ rest. same_front (each_of reading rest) }

pub regroup : {A : Type 0} (front : List A) (x : A) (rest : Option (List A)) → with_front front (rest >>= λ xs. Some (x ∷ xs)) ≡ with_front (front ++ x ∷ []) rest
regroup front x None = refl
regroup {A} front x (Some xs) = ap (λ (ys : List A). Some ys) (sym (append_assoc front (x ∷ []) xs))

module _ {A : Type 0} {reading : Data → Option A} {front : List Data} {xs : List A} (before : ReadFront reading front xs) where
  step : (d : Data) (rest : Items) → each_of reading (items_after (front ++ d ∷ []) rest) ≡ with_front xs (reading d >>= λ x. each_of reading rest >>= λ more. Some (x ∷ more))
  step d rest = ap (each_of reading) (sym (items_push front d rest)) ∙ before.all (item d rest)

  pub one_read : (d : Data) (x : A) → reading d ≡ Some x → ReadFront reading (front ++ d ∷ []) (xs ++ x ∷ [])
  one_read d x e = record { all = λ rest. step d rest ∙ ap (λ o. with_front xs (o >>= λ y. each_of reading rest >>= λ more. Some (y ∷ more))) e ∙ regroup xs x (each_of reading rest) }

  pub all_read : each_of reading (items_after front no_items) ≡ Some xs
  all_read = before.all no_items ∙ ap (λ (ys : List A). Some ys) (append-nil xs)

  pub not_read : (d : Data) (rest : Items) → reading d ≡ None → each_of reading (items_after (front ++ d ∷ []) rest) ≡ None
  not_read d rest e = step d rest ∙ ap (λ o. with_front xs (o >>= λ y. each_of reading rest >>= λ more. Some (y ∷ more))) e

  module _ {depth : ℕ} {first now : List Token} (among : AmongItems depth first now front) where
    -- the array is over
    pub list_read : (r : List Token) → after_end_array now ≡ Some r → Pulls (each_of reading) (Some xs) (next_items depth first) r
    list_read r e = record { source = items_after front no_items; begins = all_items among r e; reads = all_read }

    -- an item was malformed, and the rest was passed
    pub list_malformed : (d : Data) (s : List Token) (rest : Items) (r : List Token) → after_end_array now ≡ None → next_data depth now ≡ Some (d, s) → reading d ≡ None → next_items depth s ≡ Some (rest, r)
        → Pulls (each_of reading) None (next_items depth first) r
    list_malformed d s rest r going e bad passed = record { source = items_after (front ++ d ∷ []) rest; begins = with_rest (one_item among s d going e) rest r passed; reads = not_read d rest bad }
