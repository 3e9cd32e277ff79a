-- Which elements a row knows, and the room that others need.
use Rattle.std.proofs.Common.{◌≡◌, ℕ, ◌+◌, ◌<◌, ◌≤◌, Bool, true, false, ◌&&◌, ◌||◌, List, length, take, get_or, refl, sym, ap, ◌∙◌, arith}
use Rattle.std.specs.Prelude.{not, if◌then◌else◌}
use Rattle.osm_base.specs.Key.{key_eq, lists_key}
use Rattle.osm_base.specs.declared.keys.Key.{Key}
use Rattle.osm_base.proofs.KeyOrder.{key_eq-refl}
use Rattle.osm_element.specs.declared.elements.Elements.{Elements}
use Rattle.osm_element.specs.Elements.{uses}
use Rattle.reverse_refs.specs.Users.{UserRows, users_in, past_in, knows, free_in}
use Rattle.indexed_map.specs.Ever.{has_used}
use Rattle.indexed_map.specs.Indexed.{times_listed, times_unknown, times_new, IsIndexed}
use Rattle.indexed_map.proofs.EverHeld.{uses-ever}
use Rattle.indexed_map.proofs.UseSteps.{ones, times_more, times_before, listed_times}

-- -- who is known

-- the rows of the elements know who uses each of them in some version
pub known_ever : (E : Elements) (u : UserRows) (a b : Key) → IsIndexed E u → knows u b a ≡ has_used E a b
known_ever E u a b was =
    ap (λ (p : Bool). p || lists_key (past_in u b) a) (was.holds a b)
    ∙ ap (λ (p : Bool). uses E a b || p) (was.past a b)
    ∙ both (uses E a b) (has_used E a b) (uses-ever E a b)
  where
    both : (n h : Bool) → (n ≡ true → h ≡ true) → n || (h && not n) ≡ h
    both true h held = sym (held refl)
    both false true held = refl
    both false false held = refl

pub known_same : (u v : UserRows) (a b : Key) → users_in v b ≡ users_in u b → past_in v b ≡ past_in u b → knows v b a ≡ knows u b a
known_same u v a b users past =
    ap (λ (ks : List Key). lists_key ks a || lists_key (past_in v b) a) users
    ∙ ap (λ (ks : List Key). lists_key (users_in u b) a || lists_key ks a) past

-- those that leave are known still
pub known_left :
    (u v : UserRows) (a b : Key) (x : Bool)
    → lists_key (users_in v b) a ≡ lists_key (users_in u b) a && not x
    → lists_key (past_in v b) a ≡ lists_key (past_in u b) a || (lists_key (users_in u b) a && x)
    → knows v b a ≡ knows u b a
known_left u v a b x users past =
    ap (λ (p : Bool). p || lists_key (past_in v b) a) users
    ∙ ap (λ (p : Bool). (lists_key (users_in u b) a && not x) || p) past
    ∙ both (lists_key (users_in u b) a) (lists_key (past_in u b) a) x
  where
    both : (o p x : Bool) → (o && not x) || (p || (o && x)) ≡ o || p
    both true true true = refl
    both true true false = refl
    both true false true = refl
    both true false false = refl
    both false true x = refl
    both false false x = refl

-- those that come are known besides
pub known_come :
    (u v : UserRows) (a b : Key) (x : Bool)
    → lists_key (users_in v b) a ≡ x || lists_key (users_in u b) a
    → lists_key (past_in v b) a ≡ lists_key (past_in u b) a && not x
    → knows v b a ≡ x || knows u b a
known_come u v a b x users past =
    ap (λ (p : Bool). p || lists_key (past_in v b) a) users
    ∙ ap (λ (p : Bool). (x || lists_key (users_in u b) a) || p) past
    ∙ both x (lists_key (users_in u b) a) (lists_key (past_in u b) a)
  where
    both : (x o p : Bool) → (x || o) || (p && not x) ≡ x || (o || p)
    both true o p = refl
    both false true p = refl
    both false false true = refl
    both false false false = refl

-- -- room that is promised

-- one more of a list
pub promised_next :
    (listed : List Key) (i : ℕ) (d b : Key) (old now : UserRows) (user : Key) (next : ℕ)
    → i < length listed
    → users_in now b ≡ users_in old b
    → past_in now b ≡ past_in old b
    → free_in now b ≡ free_in old b + times_unknown old user (take i listed) b
    → next ≡ free_in now b + ones (key_eq b (get_or listed i d) && not (knows now b user))
    → next ≡ free_in old b + times_unknown old user (take (i + 1) listed) b
promised_next listed i d b old now user next within users past so_far step =
    let known : ones (key_eq b (get_or listed i d) && not (knows now b user)) ≡ ones (key_eq b (get_or listed i d) && not (knows old b user))
    = ap (λ (p : Bool). ones (key_eq b (get_or listed i d) && not p)) (known_same old now user b users past) in
    let more : times_unknown old user (take (i + 1) listed) b ≡ times_unknown old user (take i listed) b + ones (key_eq b (get_or listed i d) && not (knows old b user))
    = unless (knows old b user) (times_listed (take (i + 1) listed) b) (times_listed (take i listed) b) (key_eq b (get_or listed i d)) (times_more listed i d b within) in
    omega (arith, known, more, so_far, step)
  where
    unless : (k : Bool) (n m : ℕ) (p : Bool) → n ≡ m + ones p → (if k then 0 else n) ≡ (if k then 0 else m) + ones (p && not k)
    unless true n m true e = refl
    unless true n m false e = refl
    unless false n m true e = e
    unless false n m false e = e

-- -- room that is spent

-- an element that is new to its user has room when its turn comes
pub room_left :
    (listed : List Key) (i : ℕ) (d : Key) (old now : UserRows) (user : Key)
    → i < length listed
    → knows now (get_or listed i d) user ≡ (lists_key (take i listed) (get_or listed i d) && (key_eq user user && not (key_eq user (get_or listed i d)))) || knows old (get_or listed i d) user
    → free_in now (get_or listed i d) + ones (lists_key (take i listed) (get_or listed i d) && (not (key_eq user (get_or listed i d)) && not (knows old (get_or listed i d) user))) ≡ free_in old (get_or listed i d)
    → times_unknown old user listed (get_or listed i d) ≤ free_in old (get_or listed i d)
    → knows now (get_or listed i d) user ≡ false
    → 0 < free_in now (get_or listed i d)
room_left listed i d old now user within known spent room unknown =
    let b : Key = get_or listed i d in
    let P = lists_key (take i listed) b in
    let S = key_eq user b in
    let none = nothing P S (knows old b user) (sym (known ∙ ap (λ (p : Bool). (P && (p && not S)) || knows old b user) (key_eq-refl user)) ∙ unknown) in
    let all : times_unknown old user listed b ≡ times_listed listed b = ap (λ (p : Bool). if p then 0 else times_listed listed b) none.1 in
    omega (arith, none.0, all, spent, room, times_before listed i d within)
  where
    nothing : (p s o : Bool) → (p && not s) || o ≡ false → (ones (p && (not s && not o)) ≡ 0) × (o ≡ false)
    nothing true true true e = cc
    nothing true true false e = (refl, refl)
    nothing true false o e = cc
    nothing false s true e = cc
    nothing false s false e = (refl, refl)

-- no more is spent than what was new
pub spent_new :
    (u : UserRows) (user : Key) (listed : List Key) (b : Key)
    → ones (lists_key listed b && (not (key_eq user b) && not (knows u b user))) ≤ times_unknown u user listed b
spent_new u user listed b = few (lists_key listed b) (key_eq user b) (knows u b user) (times_listed listed b) (listed_times listed b)
  where
    few : (p s k : Bool) (n : ℕ) → (p ≡ true → 0 < n) → ones (p && (not s && not k)) ≤ (if k then 0 else n)
    few true true true n some = omega arith
    few true true false n some = omega arith
    few true false true n some = omega arith
    few true false false n some = omega (arith, some refl)
    few false s true n some = omega arith
    few false s false n some = omega arith

-- what is new to an element, read off its versions or off the rows
pub new_unknown : (E : Elements) (u v : UserRows) (a b : Key) (ks : List Key) → IsIndexed E u → knows v b a ≡ knows u b a → times_unknown v a ks b ≡ times_new E a ks b
new_unknown E u v a b ks was same = ap (λ (p : Bool). if p then 0 else times_listed ks b) (same ∙ known_ever E u a b was)
