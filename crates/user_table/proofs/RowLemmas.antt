-- The sets and the map of a draft against the users of the lines so far.
use Rattle.std.proofs.Common.{◌≡◌, ℕ, suc, ◌+◌, length, position, Bool, true, false, not, ◌||◌, cond, List, [], ◌∷◌, ◌++◌, map, Option, Some, None, Ok, Err, nat_eq, is_some, Bor, refl, sym, ap, ◌∙◌}
use Rattle.std.specs.Prelude.{Vec}
use Rattle.std.specs.declared.alloc.Global.{Global}
use Rattle.std.specs.List.{list_any, position_or_len}
use Rattle.std.specs.Map.{lookup, keys_of, values_of}
use Rattle.std.specs.Str.{bytes_eq}
use Rattle.indexmap.specs.IndexMap.{IndexMap, get, insert_entry}
use Rattle.indexmap.proofs.CallerLemmas.{insert_entry-new}
use Rattle.osm_base.specs.declared.people.User.{User}
use Rattle.user_table.specs.Rows.{Row}
use Rattle.user_table.specs.Drafts.{rows_of, texts_of}
use Rattle.user_table.specs.Who.{place_of}
use Rattle.user_table.specs.Users.{Users, with_user, has_id, has_token, has_name, with_row}
use Rattle.user_table.specs.declared.faults.UsersFault.TheVariants as fault

not_true : (b : Bool) → not b ≡ true → b ≡ false
not_true false h = refl
not_true true h = cc

-- the `==` of tokens
abbrev pub vec_eq : Vec ℕ Global → Vec ℕ Global → Bool
vec_eq a b = bytes_eq a.items b.items

-- ---- what the sets and the map say of the users
pub has_id-keys : (rows : List Row) (id : ℕ) → list_any (nat_eq id) (map (λ row. row.user.id) rows) ≡ has_id rows id
has_id-keys [] id = refl
has_id-keys (row ∷ rows) id = ap (λ (b : Bool). nat_eq id row.user.id || b) (has_id-keys rows id)

pub has_name-keys : (rows : List Row) (name : List ℕ) → list_any (bytes_eq name) (map (λ row. row.user.name) rows) ≡ has_name rows name
has_name-keys [] name = refl
has_name-keys (row ∷ rows) name = ap (λ (b : Bool). bytes_eq name row.user.name || b) (has_name-keys rows name)

pub list_any-now : (names : List (Bor (List ℕ))) (name : List ℕ) → list_any (λ k. bytes_eq name k.now) names ≡ list_any (bytes_eq name) (texts_of names)
list_any-now [] name = refl
list_any-now (k ∷ names) name = ap (λ (b : Bool). bytes_eq name k.now || b) (list_any-now names name)

is_some-cond : {X : Type 0} (b : Bool) (x : X) (o : Option X) → is_some (cond b (Some x) o) ≡ (b || is_some o)
is_some-cond true x o = refl
is_some-cond false x o = refl

pub has_token-lookup : (entries : List (Vec ℕ Global × User)) (token : List ℕ) → is_some (lookup (λ k. bytes_eq token k.items) entries) ≡ has_token (rows_of entries) token
has_token-lookup [] token = refl
has_token-lookup (e ∷ entries) token =
    is_some-cond (bytes_eq token e.0.items) e.1 (lookup (λ k. bytes_eq token k.items) entries)
    ∙ ap (λ (b : Bool). bytes_eq token e.0.items || b) (has_token-lookup entries token)

pub rows_of-push : (entries : List (Vec ℕ Global × User)) (e : Vec ℕ Global × User) → rows_of (entries ++ e ∷ []) ≡ rows_of entries ++ record { token = e.0.items; user = e.1 } ∷ []
rows_of-push [] e = refl
rows_of-push (f ∷ entries) e = ap (λ (rows : List Row). record { token = f.0.items; user = f.1 } ∷ rows) (rows_of-push entries e)

-- ---- the cases of a new user, by what the sets and the map answer
not_false : (b c : Bool) → b ≡ not c → b ≡ false → c ≡ true
not_false b true told holds = refl
not_false b false told holds = cc

new_false : (b c : Bool) → b ≡ not c → b ≡ true → c ≡ false
new_false b true told holds = cc
new_false b false told holds = refl

pub told_id : (ids : List ℕ) (rows : List Row) (id : ℕ) (is_new : Bool) → ids ≡ map (λ row. row.user.id) rows → is_new ≡ not (list_any (nat_eq id) ids) → is_new ≡ not (has_id rows id)
told_id ids rows id is_new kept told =
    told ∙ ap (λ (keys : List ℕ). not (list_any (nat_eq id) keys)) kept ∙ ap not (has_id-keys rows id)

pub told_name : (names : List (List ℕ)) (rows : List Row) (name : List ℕ) (is_new : Bool) → names ≡ map (λ row. row.user.name) rows → is_new ≡ not (list_any (bytes_eq name) names) → is_new ≡ not (has_name rows name)
told_name names rows name is_new kept told =
    told ∙ ap (λ (keys : List (List ℕ)). not (list_any (bytes_eq name) keys)) kept ∙ ap not (has_name-keys rows name)

module _ (number : ℕ) (users : Users) (row : Row) (new_id : Bool) (of_id : new_id ≡ not (has_id users.rows row.user.id)) where
  pub with_row-double_id : new_id ≡ false → with_row number users row ≡ Err (fault.DoubleId number)
  with_row-double_id old =
      let id = not_false new_id (has_id users.rows row.user.id) of_id old in rw id refl

  module _ (first : new_id ≡ true) (new_token : Bool) (of_token : new_token ≡ not (has_token users.rows row.token)) where
    pub with_row-double_token : new_token ≡ false → with_row number users row ≡ Err (fault.DoubleToken number)
    with_row-double_token old =
        let id = new_false new_id (has_id users.rows row.user.id) of_id first in
        let token = not_false new_token (has_token users.rows row.token) of_token old in rw (id, token) refl

    module _ (second : new_token ≡ true) (new_name : Bool) (of_name : new_name ≡ not (has_name users.rows row.user.name)) where
      pub with_row-double_name : new_name ≡ false → with_row number users row ≡ Err (fault.DoubleName number)
      with_row-double_name old =
          let id = new_false new_id (has_id users.rows row.user.id) of_id first in
          let token = new_false new_token (has_token users.rows row.token) of_token second in
          let name = not_false new_name (has_name users.rows row.user.name) of_name old in rw (id, token, name) refl

      pub with_row-new : new_name ≡ true → with_row number users row ≡ Ok (with_user users row)
      with_row-new third =
          let id = new_false new_id (has_id users.rows row.user.id) of_id first in
          let token = new_false new_token (has_token users.rows row.token) of_token second in
          let name = new_false new_name (has_name users.rows row.user.name) of_name third in rw (id, token, name) refl

-- ---- what `insert` leaves
not_not : (b : Bool) → b ≡ not (not b)
not_not true = refl
not_not false = refl

module _ (entries : List (Vec ℕ Global × User)) (token : Vec ℕ Global) (row : Row) (same : token.items ≡ row.token) where
  pub user_is_new : (before : Option User) (is_new : Bool) → before ≡ lookup (λ k. bytes_eq token.items k.items) entries → is_some before ≡ not is_new → is_new ≡ not (has_token (rows_of entries) row.token)
  user_is_new before is_new found asked =
      not_not is_new ∙ ap not (sym asked) ∙ ap (λ (o : Option User). not (is_some o)) found ∙ ap not (has_token-lookup entries token.items)
      ∙ ap (λ (bytes : List ℕ). not (has_token (rows_of entries) bytes)) same

none_from : {X : Type 0} (o : Option X) → is_some o ≡ false → o ≡ None
none_from None h = refl
none_from (Some x) h = cc

pub user_added : {S : Type 0} (m n : IndexMap (Vec ℕ Global) User S) (token : Vec ℕ Global) (user : User) (before : Option User) (is_new : Bool) → before ≡ get vec_eq m token → n.entries ≡ insert_entry vec_eq m.entries token user → is_some before ≡ not is_new → is_new ≡ true → rows_of n.entries ≡ rows_of m.entries ++ record { token = token.items; user = user } ∷ []
user_added m n token user before is_new found inserted asked holds =
    ap rows_of (inserted ∙ insert_entry-new vec_eq m token user (sym found ∙ none_from before (asked ∙ ap not holds))) ∙ rows_of-push m.entries (token, user)

-- ---- the place of a token
token_place : (entries : List (Vec ℕ Global × User)) (token : List ℕ) → position_or_len (λ k. bytes_eq token k.items) (keys_of entries) ≡ position_or_len (λ row. bytes_eq token row.token) (rows_of entries)
token_place [] token = refl
token_place (e ∷ entries) token = ap (λ (n : ℕ). cond (not (bytes_eq token e.0.items)) (1 + n) 0) (token_place entries token)

same_length : (entries : List (Vec ℕ Global × User)) → length (keys_of entries) ≡ length (rows_of entries)
same_length [] = refl
same_length (e ∷ entries) = ap suc (same_length entries)

pub place_of-keys : (entries : List (Vec ℕ Global × User)) (token : List ℕ) → position (λ k. bytes_eq token k.items) (keys_of entries) ≡ place_of (rows_of entries) token
place_of-keys entries token = rw (token_place entries token, same_length entries) refl

pub users_of-rows : (entries : List (Vec ℕ Global × User)) → map (λ row. row.user) (rows_of entries) ≡ values_of entries
users_of-rows [] = refl
users_of-rows (e ∷ entries) = ap (λ (users : List User). e.1 ∷ users) (users_of-rows entries)
