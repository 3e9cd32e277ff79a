-- A value by its first token.
use Rattle.std.proofs.Common.{◌≡◌, ◌⊎◌, inl, inr, Bor, ℕ, zero, suc, ◌-◌, ◌<◌, List, [], ◌∷◌, Bool, Option, Some, None, refl, sym, ap, ◌∙◌, arith}
use Rattle.json.specs.Token.{Token}
use Rattle.json.specs.Reads.{token_of}
use Rattle.json.specs.declared.token.Token.{Token as Given}
use Rattle.json.specs.declared.token.Token.TheVariants as given
use Rattle.json.specs.Json as json
use Rattle.json.specs.Json.{parse_map, items, members, value}
use Rattle.json.proofs.Grammar.{value_is, value-begin_array, value-begin_object}
use Rattle.serde_json.specs.Data.{Num, Data, null, boolean, number, string, array, object, no_items, no_members}
use Rattle.serde_json.specs.Find.{as_array, as_object}
use Rattle.osm_json.specs.Scalars.{flat}
use Rattle.serde_json.specs.Read.{of_json, of_items, of_members, number_of, converted}
use Rattle.osm_json.proofs.Converted.{wrapped_in}
use Rattle.osm_json.specs.Pull.{next_data, next_items, next_members, Pulls, nothing}

module _ (depth : ℕ) where
  pub none_next : next_data depth [] ≡ None
  none_next = ap (converted of_json) (value_is depth [])

  module _ (ts : List Token) where
    pub null_next : next_data depth (Token.null ∷ ts) ≡ Some (null, ts)
    null_next = ap (converted of_json) (value_is depth (Token.null ∷ ts))

    pub boolean_next : (b : Bool) → next_data depth (Token.boolean b ∷ ts) ≡ Some (boolean b, ts)
    boolean_next b = ap (converted of_json) (value_is depth (Token.boolean b ∷ ts))

    pub string_next : (s : List ℕ) → next_data depth (Token.string s ∷ ts) ≡ Some (string s, ts)
    string_next s = ap (converted of_json) (value_is depth (Token.string s ∷ ts))

    pub number_next : (s : List ℕ) (n : Num) → number_of s ≡ Some n → next_data depth (Token.number s ∷ ts) ≡ Some (number n, ts)
    number_next s n e = ap (converted of_json) (value_is depth (Token.number s ∷ ts)) ∙ rw e

    pub number_refused : (s : List ℕ) → number_of s ≡ None → next_data depth (Token.number s ∷ ts) ≡ None
    number_refused s e = ap (converted of_json) (value_is depth (Token.number s ∷ ts)) ∙ rw e

    pub end_object_refused : next_data depth (Token.end_object ∷ ts) ≡ None
    end_object_refused = ap (converted of_json) (value_is depth (Token.end_object ∷ ts))

    pub end_array_refused : next_data depth (Token.end_array ∷ ts) ≡ None
    end_array_refused = ap (converted of_json) (value_is depth (Token.end_array ∷ ts))

    pub key_refused : (s : List ℕ) → next_data depth (Token.key s ∷ ts) ≡ None
    key_refused s = ap (converted of_json) (value_is depth (Token.key s ∷ ts))

    pub bad_refused : next_data depth (Token.bad ∷ ts) ≡ None
    bad_refused = ap (converted of_json) (value_is depth (Token.bad ∷ ts))

    pub array_next : 0 < depth → next_data depth (Token.begin_array ∷ ts) ≡ parse_map array (next_items (depth - 1) ts)
    array_next some = ap (converted of_json) (value-begin_array depth ts some) ∙ wrapped_in json.array of_json of_items array (λ js. refl) (items (value (depth - 1)) _ ts)

    pub object_next : 0 < depth → next_data depth (Token.begin_object ∷ ts) ≡ parse_map object (next_members (depth - 1) ts)
    object_next some = ap (converted of_json) (value-begin_object depth ts some) ∙ wrapped_in json.object of_json (λ ms. of_members ms no_members) object (λ ms. refl) (members (value (depth - 1)) _ ts)

    pub array_too_deep : depth ≡ 0 → next_data depth (Token.begin_array ∷ ts) ≡ None
    unfolding value
    array_too_deep e = ap (λ d. next_data d (Token.begin_array ∷ ts)) e

    pub object_too_deep : depth ≡ 0 → next_data depth (Token.begin_object ∷ ts) ≡ None
    unfolding value
    object_too_deep e = ap (λ d. next_data d (Token.begin_object ∷ ts)) e

    pub leaf_passed : (t : Given) → ((s : Bor (List ℕ)) × (t ≡ given.String s)) ⊎ (((b : Bool) × (t ≡ given.Bool b)) ⊎ (t ≡ given.Null)) → Pulls nothing tt (next_data depth (token_of t ∷ ts)) ts
    leaf_passed t (inl is) = record { source = string is.0.now; begins = ap (λ k. next_data depth (token_of k ∷ ts)) is.1 ∙ string_next is.0.now; reads = refl }
    leaf_passed t (inr (inl is)) = record { source = boolean is.0; begins = ap (λ k. next_data depth (token_of k ∷ ts)) is.1 ∙ boolean_next is.0; reads = refl }
    leaf_passed t (inr (inr is)) = record { source = null; begins = ap (λ k. next_data depth (token_of k ∷ ts)) is ∙ null_next; reads = refl }

    pub end_refused : (t : Given) → (t ≡ given.EndObject) ⊎ ((t ≡ given.EndArray) ⊎ (((s : Bor (List ℕ)) × (t ≡ given.Key s)) ⊎ (t ≡ given.Bad))) → next_data depth (token_of t ∷ ts) ≡ None
    end_refused t (inl is) = ap (λ k. next_data depth (token_of k ∷ ts)) is ∙ end_object_refused
    end_refused t (inr (inl is)) = ap (λ k. next_data depth (token_of k ∷ ts)) is ∙ end_array_refused
    end_refused t (inr (inr (inl is))) = ap (λ k. next_data depth (token_of k ∷ ts)) is.1 ∙ key_refused is.0.now
    end_refused t (inr (inr (inr is))) = ap (λ k. next_data depth (token_of k ∷ ts)) is ∙ bad_refused

-- ---- what an array and an object are, and other values are not

abbrev first_or : {S : Type 0} → S → Option (S × List Token) → S
first_or s None = s
first_or s (Some p) = p.0

mapped : {S : Type 0} (f : S → Data) (o : Option (S × List Token)) (d : Data) (new : List Token) → parse_map f o ≡ Some (d, new) → (s : S) × (d ≡ f s)
mapped f None d new e = cc
mapped f (Some p) d new e = (p.0, sym (ap (first_or d) e))

pub array_found : (depth : ℕ) (ts : List Token) (d : Data) (new : List Token) → next_data depth (Token.begin_array ∷ ts) ≡ Some (d, new) → (flat d ≡ array no_items) × (as_object d ≡ None)
array_found zero ts d new e = let none = array_too_deep zero ts refl in cc
array_found (suc n) ts d new e = let is = mapped array _ d new (sym (array_next (suc n) ts (omega arith)) ∙ e) in (ap flat is.1, ap as_object is.1)

pub object_found : (depth : ℕ) (ts : List Token) (d : Data) (new : List Token) → next_data depth (Token.begin_object ∷ ts) ≡ Some (d, new) → (flat d ≡ object no_members) × (as_array d ≡ None)
object_found zero ts d new e = let none = object_too_deep zero ts refl in cc
object_found (suc n) ts d new e = let is = mapped object _ d new (sym (object_next (suc n) ts (omega arith)) ∙ e) in (ap flat is.1, ap as_array is.1)

abbrev Neither : Data → Type 0
Neither d = (as_array d ≡ None) × (as_object d ≡ None)

leaf : (o : Option (Data × List Token)) (x d : Data) (ts new : List Token) → o ≡ Some (x, ts) → o ≡ Some (d, new) → Neither x → Neither d
leaf o x d ts new e f h = let same : x ≡ d = ap (first_or d) (sym e ∙ f) in (ap as_array (sym same) ∙ h.0, ap as_object (sym same) ∙ h.1)

number_leaf : (depth : ℕ) (s : List ℕ) (ts : List Token) (d : Data) (new : List Token) (n : Option Num) → number_of s ≡ n → next_data depth (Token.number s ∷ ts) ≡ Some (d, new) → Neither d
number_leaf depth s ts d new None is e = let none = number_refused depth ts s is in absurd (cc)
number_leaf depth s ts d new (Some n) is e = leaf _ (number n) d ts new (number_next depth ts s n is) e (refl, refl)

neither : (depth : ℕ) (t : Given) (ts : List Token) (d : Data) (new : List Token) → (t ≡ given.BeginArray → ⊥) → (t ≡ given.BeginObject → ⊥) → next_data depth (token_of t ∷ ts) ≡ Some (d, new) → Neither d
neither depth given.BeginObject ts d new a o e = absurd (o refl)
neither depth given.EndObject ts d new a o e = let none = end_object_refused depth ts in absurd (cc)
neither depth given.BeginArray ts d new a o e = absurd (a refl)
neither depth given.EndArray ts d new a o e = let none = end_array_refused depth ts in absurd (cc)
neither depth (given.Key s) ts d new a o e = let none = key_refused depth ts s.now in absurd (cc)
neither depth (given.String s) ts d new a o e = leaf _ (string s.now) d ts new (string_next depth ts s.now) e (refl, refl)
neither depth (given.Number s) ts d new a o e = number_leaf depth s.now ts d new (number_of s.now) refl e
neither depth (given.Bool b) ts d new a o e = leaf _ (boolean b) d ts new (boolean_next depth ts b) e (refl, refl)
neither depth given.Null ts d new a o e = leaf _ null d ts new (null_next depth ts) e (refl, refl)
neither depth given.Bad ts d new a o e = let none = bad_refused depth ts in absurd (cc)

pub no_array : (depth : ℕ) (t : Given) (ts : List Token) (d : Data) (new : List Token) → (t ≡ given.BeginArray → ⊥) → next_data depth (token_of t ∷ ts) ≡ Some (d, new) → as_array d ≡ None
no_array depth given.BeginObject ts d new a e = (object_found depth ts d new e).1
no_array depth given.EndObject ts d new a e = (neither depth given.EndObject ts d new a (λ h. cc) e).0
no_array depth given.BeginArray ts d new a e = absurd (a refl)
no_array depth given.EndArray ts d new a e = (neither depth given.EndArray ts d new a (λ h. cc) e).0
no_array depth (given.Key s) ts d new a e = (neither depth (given.Key s) ts d new a (λ h. cc) e).0
no_array depth (given.String s) ts d new a e = (neither depth (given.String s) ts d new a (λ h. cc) e).0
no_array depth (given.Number s) ts d new a e = (neither depth (given.Number s) ts d new a (λ h. cc) e).0
no_array depth (given.Bool b) ts d new a e = (neither depth (given.Bool b) ts d new a (λ h. cc) e).0
no_array depth given.Null ts d new a e = (neither depth given.Null ts d new a (λ h. cc) e).0
no_array depth given.Bad ts d new a e = (neither depth given.Bad ts d new a (λ h. cc) e).0

pub no_object : (depth : ℕ) (t : Given) (ts : List Token) (d : Data) (new : List Token) → (t ≡ given.BeginObject → ⊥) → next_data depth (token_of t ∷ ts) ≡ Some (d, new) → as_object d ≡ None
no_object depth given.BeginObject ts d new o e = absurd (o refl)
no_object depth given.EndObject ts d new o e = (neither depth given.EndObject ts d new (λ h. cc) o e).1
no_object depth given.BeginArray ts d new o e = (array_found depth ts d new e).1
no_object depth given.EndArray ts d new o e = (neither depth given.EndArray ts d new (λ h. cc) o e).1
no_object depth (given.Key s) ts d new o e = (neither depth (given.Key s) ts d new (λ h. cc) o e).1
no_object depth (given.String s) ts d new o e = (neither depth (given.String s) ts d new (λ h. cc) o e).1
no_object depth (given.Number s) ts d new o e = (neither depth (given.Number s) ts d new (λ h. cc) o e).1
no_object depth (given.Bool b) ts d new o e = (neither depth (given.Bool b) ts d new (λ h. cc) o e).1
no_object depth given.Null ts d new o e = (neither depth given.Null ts d new (λ h. cc) o e).1
no_object depth given.Bad ts d new o e = (neither depth given.Bad ts d new (λ h. cc) o e).1
