-- The uses of one element end and begin.
use Rattle.std.proofs.Common.{◌≡◌, ℕ, ◌+◌, ◌-◌, ◌<◌, ◌≤◌, Bool, true, false, cond, ◌&&◌, ◌||◌, ⊎_elim, List, length, take, get_or, refl, sym, ap, ◌∙◌, subst, arith}
use Rattle.std.specs.Prelude.{not, if◌then◌else◌}
use Rattle.std.specs.List.{list_any}
use Rattle.std.proofs.lemmas.Bool.{cases_Bool}
use Rattle.std.proofs.lemmas.List.Folds.{list_any_more}
use Rattle.std.proofs.lemmas.List.Sums.{count_by_more_yes, count_by_more_no, sum_by-take-le}
use Rattle.osm_base.specs.Key.{key_eq, lists_key, insert_key, without_key}
use Rattle.osm_base.specs.declared.keys.Key.{Key}
use Rattle.osm_base.proofs.Halves.{listed-somewhere}
use Rattle.osm_base.proofs.KeyOrder.{key_eq-same, key_eq-refl, key_eq-sym}
use Rattle.osm_base.proofs.KeyLists.{lists-insert, lists-without}
use Rattle.reverse_refs.specs.Users.{UserRows, users_in, past_in, knows, free_in}
use Rattle.indexed_map.specs.Indexed.{times_listed}

-- -- uses end

abbrev pub Ends : UserRows → UserRows → Key → Key → List Key → Type 0
Ends old new user used listed = (a b : Key) → lists_key (users_in new b) a ≡ lists_key (users_in old b) a && not (key_eq used b && (key_eq user a && not (lists_key listed b)))

and-true : (p : Bool) → p ≡ p && true
and-true true = refl
and-true false = refl

-- one that was there, and isn't listed
pub taken :
    (old new : UserRows) (user used : Key) (listed : List Key)
    → lists_key listed used ≡ false
    → ((k : Key) → users_in new k ≡ (if key_eq k used then without_key (users_in old k) user else users_in old k))
    → Ends old new user used listed
taken old new user used listed gone took a b =
    ap (λ (ks : List Key). lists_key ks a) (took b)
    ∙ ⊎_elim
    (λ t. let here : used ≡ b = sym (key_eq-same b used t) in
    ap (λ (p : Bool). lists_key (if p then without_key (users_in old b) user else users_in old b) a) t
    ∙ lists-without (users_in old b) user a
    ∙ ap (λ (p : Bool). lists_key (users_in old b) a && not p) (key_eq-sym a user)
    ∙ ap (λ (p : Bool). lists_key (users_in old b) a && not p) (and-true (key_eq user a))
    ∙ ap (λ (p : Bool). lists_key (users_in old b) a && not (key_eq user a && not p)) (sym (ap (lists_key listed) (sym here) ∙ gone))
    ∙ ap (λ (p : Bool). lists_key (users_in old b) a && not (p && (key_eq user a && not (lists_key listed b)))) (sym (key_eq-sym used b ∙ t)))
    (λ f. ap (λ (p : Bool). lists_key (if p then without_key (users_in old b) user else users_in old b) a) f
    ∙ and-true (lists_key (users_in old b) a)
    ∙ ap (λ (p : Bool). lists_key (users_in old b) a && not (p && (key_eq user a && not (lists_key listed b)))) (sym (key_eq-sym used b ∙ f)))
    (cases_Bool (key_eq b used))

-- one that is listed still
pub still_listed : (old : UserRows) (user used : Key) (listed : List Key) → lists_key listed used ≡ true → Ends old old user used listed
still_listed old user used listed there a b =
    ⊎_elim
    (λ t. let here : used ≡ b = key_eq-same used b t in
    sym (ap (λ (p : Bool). lists_key (users_in old b) a && not (key_eq used b && (key_eq user a && not p))) (ap (lists_key listed) (sym here) ∙ there)
    ∙ none (lists_key (users_in old b) a) (key_eq used b) (key_eq user a)))
    (λ f. and-true (lists_key (users_in old b) a)
    ∙ ap (λ (p : Bool). lists_key (users_in old b) a && not (p && (key_eq user a && not (lists_key listed b)))) (sym f))
    (cases_Bool (key_eq used b))
  where
    none : (o p q : Bool) → (o && not (p && (q && false))) ≡ o
    none true true true = refl
    none true true false = refl
    none true false q = refl
    none false p q = refl

-- one that wasn't there
pub not_there : (old : UserRows) (user used : Key) (listed : List Key) → lists_key (users_in old used) user ≡ false → Ends old old user used listed
not_there old user used listed absent a b =
    ⊎_elim
    (λ t. ⊎_elim
    (λ u. let none : lists_key (users_in old b) a ≡ false
    = ap (λ (k : Key). lists_key (users_in old k) a) (sym (key_eq-same used b t)) ∙ ap (lists_key (users_in old used)) (sym (key_eq-same user a u)) ∙ absent in
    none ∙ sym (ap (λ (p : Bool). p && not (key_eq used b && (key_eq user a && not (lists_key listed b)))) none))
    (λ v. and-true (lists_key (users_in old b) a)
    ∙ ap (λ (p : Bool). lists_key (users_in old b) a && not p) (sym (no_user (key_eq used b) (lists_key listed b)))
    ∙ ap (λ (p : Bool). lists_key (users_in old b) a && not (key_eq used b && (p && not (lists_key listed b)))) (sym v))
    (cases_Bool (key_eq user a)))
    (λ f. and-true (lists_key (users_in old b) a)
    ∙ ap (λ (p : Bool). lists_key (users_in old b) a && not (p && (key_eq user a && not (lists_key listed b)))) (sym f))
    (cases_Bool (key_eq used b))
  where
    no_user : (p q : Bool) → (p && (false && not q)) ≡ false
    no_user true q = refl
    no_user false q = refl

-- one use more of a list
pub ends_more : (n o p t x : Bool) (m : Bool) → n ≡ (m && not (t && x)) → m ≡ (o && not (p && x)) → n ≡ (o && not ((p || t) && x))
ends_more n o p t x m next now = next ∙ ap (λ (y : Bool). y && not (t && x)) now ∙ both o p t x
  where
    both : (o p t x : Bool) → ((o && not (p && x)) && not (t && x)) ≡ o && not ((p || t) && x)
    both false p t x = refl
    both true true true true = refl
    both true true true false = refl
    both true true false true = refl
    both true true false false = refl
    both true false t x = refl

pub ends_next :
    {X : Type 0} (f : X → Key) (xs : List X) (i : ℕ) (d : X) (old now next : UserRows) (user : Key) (listed : List Key)
    → i < length xs
    → ((a b : Key) → lists_key (users_in now b) a ≡ lists_key (users_in old b) a && not (list_any (λ x. key_eq (f x) b) (take i xs) && (key_eq user a && not (lists_key listed b))))
    → Ends now next user (f (get_or xs i d)) listed
    → (a b : Key)
    → lists_key (users_in next b) a ≡ lists_key (users_in old b) a && not (list_any (λ x. key_eq (f x) b) (take (i + 1) xs) && (key_eq user a && not (lists_key listed b)))
ends_next {X = X} f xs i d old now next user listed within so_far ends a b =
    ends_more (lists_key (users_in next b) a) (lists_key (users_in old b) a) (list_any (λ (x : X). key_eq (f x) b) (take i xs)) (key_eq (f (get_or xs i d)) b) (key_eq user a && not (lists_key listed b)) (lists_key (users_in now b) a)
    (ends a b)
    (so_far a b)
    ∙ ap (λ (p : Bool). lists_key (users_in old b) a && not (p && (key_eq user a && not (lists_key listed b)))) (sym (list_any_more (λ (x : X). key_eq (f x) b) xs i d within))

-- -- uses begin

abbrev pub Begins : UserRows → UserRows → Key → Key → Type 0
Begins old new user used = (a b : Key) → lists_key (users_in new b) a ≡ (key_eq used b && (key_eq user a && not (key_eq user b))) || lists_key (users_in old b) a

pub added :
    (old new : UserRows) (user used : Key)
    → key_eq user used ≡ false
    → ((k : Key) → users_in new k ≡ (if key_eq k used then insert_key (users_in old k) user else users_in old k))
    → Begins old new user used
added old new user used other put a b =
    ap (λ (ks : List Key). lists_key ks a) (put b)
    ∙ ⊎_elim
    (λ t. let here : used ≡ b = sym (key_eq-same b used t) in
    ap (λ (p : Bool). lists_key (if p then insert_key (users_in old b) user else users_in old b) a) t
    ∙ lists-insert (users_in old b) user a
    ∙ ap (λ (p : Bool). p || lists_key (users_in old b) a) (and-true (key_eq user a))
    ∙ ap (λ (p : Bool). (key_eq user a && not p) || lists_key (users_in old b) a) (sym (ap (key_eq user) (sym here) ∙ other))
    ∙ ap (λ (p : Bool). (p && (key_eq user a && not (key_eq user b))) || lists_key (users_in old b) a) (sym (key_eq-sym used b ∙ t)))
    (λ f. ap (λ (p : Bool). lists_key (if p then insert_key (users_in old b) user else users_in old b) a) f
    ∙ ap (λ (p : Bool). (p && (key_eq user a && not (key_eq user b))) || lists_key (users_in old b) a) (sym (key_eq-sym used b ∙ f)))
    (cases_Bool (key_eq b used))

-- it doesn't use itself
pub itself : (old : UserRows) (user used : Key) → key_eq user used ≡ true → Begins old old user used
itself old user used same a b =
    ⊎_elim
    (λ t. let here : used ≡ b = key_eq-same used b t in
    sym (ap (λ (p : Bool). (key_eq used b && (key_eq user a && not p)) || lists_key (users_in old b) a) (ap (key_eq user) (sym here) ∙ same)
    ∙ none (key_eq used b) (key_eq user a) (lists_key (users_in old b) a)))
    (λ f. ap (λ (p : Bool). (p && (key_eq user a && not (key_eq user b))) || lists_key (users_in old b) a) (sym f))
    (cases_Bool (key_eq used b))
  where
    none : (p q o : Bool) → ((p && (q && false)) || o) ≡ o
    none true true o = refl
    none true false o = refl
    none false q o = refl

-- it was a user already
pub there_already : (old : UserRows) (user used : Key) → lists_key (users_in old used) user ≡ true → Begins old old user used
there_already old user used there a b =
    ⊎_elim
    (λ t. ⊎_elim
    (λ u. let listed : lists_key (users_in old b) a ≡ true
    = ap (λ (k : Key). lists_key (users_in old k) a) (sym (key_eq-same used b t)) ∙ ap (lists_key (users_in old used)) (sym (key_eq-same user a u)) ∙ there in
    listed ∙ sym (ap (λ (p : Bool). (key_eq used b && (key_eq user a && not (key_eq user b))) || p) listed ∙ or-true (key_eq used b && (key_eq user a && not (key_eq user b)))))
    (λ v. sym (ap (λ (p : Bool). (key_eq used b && (p && not (key_eq user b))) || lists_key (users_in old b) a) v ∙ no_user (key_eq used b) (key_eq user b) (lists_key (users_in old b) a)))
    (cases_Bool (key_eq user a)))
    (λ f. ap (λ (p : Bool). (p && (key_eq user a && not (key_eq user b))) || lists_key (users_in old b) a) (sym f))
    (cases_Bool (key_eq used b))
  where
    or-true : (p : Bool) → (p || true) ≡ true
    or-true true = refl
    or-true false = refl

    no_user : (p q o : Bool) → ((p && (false && not q)) || o) ≡ o
    no_user true q o = refl
    no_user false q o = refl

pub begins_next :
    (listed : List Key) (i : ℕ) (d : Key) (old now next : UserRows) (user : Key)
    → i < length listed
    → ((a b : Key) → lists_key (users_in now b) a ≡ (lists_key (take i listed) b && (key_eq user a && not (key_eq user b))) || lists_key (users_in old b) a)
    → Begins now next user (get_or listed i d)
    → (a b : Key)
    → lists_key (users_in next b) a ≡ (lists_key (take (i + 1) listed) b && (key_eq user a && not (key_eq user b))) || lists_key (users_in old b) a
begins_next listed i d old now next user within so_far begins a b =
    begins a b
    ∙ ap (λ (p : Bool). (key_eq (get_or listed i d) b && (key_eq user a && not (key_eq user b))) || p) (so_far a b)
    ∙ both (lists_key (users_in old b) a) (lists_key (take i listed) b) (key_eq (get_or listed i d) b) (key_eq user a && not (key_eq user b))
    ∙ ap (λ (p : Bool). (p && (key_eq user a && not (key_eq user b))) || lists_key (users_in old b) a) (sym (list_any_more (λ (x : Key). key_eq x b) listed i d within))
  where
    both : (o p t y : Bool) → ((t && y) || ((p && y) || o)) ≡ ((p || t) && y) || o
    both o true true true = refl
    both o true true false = refl
    both o true false y = refl
    both o false t y = refl

-- -- the room that uses take

abbrev pub ones : Bool → ℕ
ones b = if b then 1 else 0

-- one that left comes back
pub spent_back :
    (old : UserRows) (user used b : Key) (next : ℕ)
    → lists_key (past_in old used) user ≡ true
    → next ≡ free_in old b
    → next + ones (key_eq b used && not (lists_key (past_in old b) user)) ≡ free_in old b
spent_back old user used b next there same =
    let none : ones (key_eq b used && not (lists_key (past_in old b) user)) ≡ 0
    = both (key_eq b used) (lists_key (past_in old b) user) (λ t. ap (λ (k : Key). lists_key (past_in old k) user) (key_eq-same b used t) ∙ there) in
    omega (arith, none, same)
  where
    both : (t p : Bool) → (t ≡ true → p ≡ true) → ones (t && not p) ≡ 0
    both true p left = ap (λ (q : Bool). ones (not q)) (left refl)
    both false p left = refl

-- one that never was there takes a place
pub spent_added :
    (old : UserRows) (user used b : Key) (next : ℕ)
    → 0 < free_in old used
    → lists_key (past_in old used) user ≡ false
    → next ≡ (if key_eq b used then free_in old b - 1 else free_in old b)
    → next + ones (key_eq b used && not (lists_key (past_in old b) user)) ≡ free_in old b
spent_added old user used b next some absent took =
    both (key_eq b used) (lists_key (past_in old b) user)
    (λ t. ap (λ (k : Key). lists_key (past_in old k) user) (key_eq-same b used t) ∙ absent)
    (λ t. subst (λ (k : Key). 0 < free_in old k) (sym (key_eq-same b used t)) some)
    took
  where
    both : (t p : Bool) → (t ≡ true → p ≡ false) → (t ≡ true → 0 < free_in old b) → next ≡ (if t then free_in old b - 1 else free_in old b) → next + ones (t && not p) ≡ free_in old b
    both true p out more e = let one : ones (not p) ≡ 1 = ap (λ (q : Bool). ones (not q)) (out refl) in omega (arith, one, more refl, e)
    both false p out more e = omega (arith, e)

-- one that comes takes a place, unless it was there before
pub spent_come :
    (old : UserRows) (user used b : Key) (next : ℕ)
    → key_eq user used ≡ false
    → lists_key (users_in old used) user ≡ false
    → next + ones (key_eq b used && not (lists_key (past_in old b) user)) ≡ free_in old b
    → next + ones (key_eq used b && (not (key_eq user b) && not (knows old b user))) ≡ free_in old b
spent_come old user used b next other absent took =
    let same : ones (key_eq used b && (not (key_eq user b) && not (knows old b user))) ≡ ones (key_eq b used && not (lists_key (past_in old b) user)) =
    ap (λ (p : Bool). ones (p && (not (key_eq user b) && not (knows old b user)))) (key_eq-sym used b)
    ∙ both (key_eq b used) (key_eq user b) (lists_key (users_in old b) user) (lists_key (past_in old b) user)
    (λ t. ap (key_eq user) (key_eq-same b used t) ∙ other)
    (λ t. ap (λ (k : Key). lists_key (users_in old k) user) (key_eq-same b used t) ∙ absent) in
    omega (arith, same, took)
  where
    both : (t s o p : Bool) → (t ≡ true → s ≡ false) → (t ≡ true → o ≡ false) → ones (t && (not s && not (o || p))) ≡ ones (t && not p)
    both true s o p apart out = ap (λ (q : Bool). ones (not q && not (o || p))) (apart refl) ∙ ap (λ (q : Bool). ones (not (q || p))) (out refl)
    both false s o p apart out = refl

-- it doesn't use itself
pub spent_itself : (old : UserRows) (user used b : Key) → key_eq user used ≡ true → free_in old b + ones (key_eq used b && (not (key_eq user b) && not (knows old b user))) ≡ free_in old b
spent_itself old user used b same =
    let none : ones (key_eq used b && (not (key_eq user b) && not (knows old b user))) ≡ 0 =
    ⊎_elim
    (λ t. ap (λ (p : Bool). ones (p && (not (key_eq user b) && not (knows old b user)))) t
    ∙ ap (λ (p : Bool). ones (not p && not (knows old b user))) (ap (key_eq user) (sym (key_eq-same used b t)) ∙ same))
    (λ f. ap (λ (p : Bool). ones (p && (not (key_eq user b) && not (knows old b user)))) f)
    (cases_Bool (key_eq used b))
    in
    omega (arith, none)

-- it was a user already
pub spent_already : (old : UserRows) (user used b : Key) → lists_key (users_in old used) user ≡ true → free_in old b + ones (key_eq used b && (not (key_eq user b) && not (knows old b user))) ≡ free_in old b
spent_already old user used b there =
    let none : ones (key_eq used b && (not (key_eq user b) && not (knows old b user))) ≡ 0 =
    ⊎_elim
    (λ t. ap (λ (p : Bool). ones (key_eq used b && (not (key_eq user b) && not (p || lists_key (past_in old b) user)))) (ap (λ (k : Key). lists_key (users_in old k) user) (sym (key_eq-same used b t)) ∙ there)
    ∙ nothing (key_eq used b) (not (key_eq user b)))
    (λ f. ap (λ (p : Bool). ones (p && (not (key_eq user b) && not (knows old b user)))) f)
    (cases_Bool (key_eq used b))
    in
    omega (arith, none)
  where
    nothing : (p q : Bool) → ones (p && (q && false)) ≡ 0
    nothing true true = refl
    nothing true false = refl
    nothing false q = refl

pub spent_next :
    (listed : List Key) (i : ℕ) (d b : Key) (old now next : UserRows) (user : Key)
    → i < length listed
    → knows now b user ≡ (lists_key (take i listed) b && (key_eq user user && not (key_eq user b))) || knows old b user
    → free_in now b + ones (lists_key (take i listed) b && (not (key_eq user b) && not (knows old b user))) ≡ free_in old b
    → free_in next b + ones (key_eq (get_or listed i d) b && (not (key_eq user b) && not (knows now b user))) ≡ free_in now b
    → free_in next b + ones (lists_key (take (i + 1) listed) b && (not (key_eq user b) && not (knows old b user))) ≡ free_in old b
spent_next listed i d b old now next user within there so_far step =
    let P = lists_key (take i listed) b in
    let K = key_eq (get_or listed i d) b in
    let S = key_eq user b in
    let O = knows old b user in
    let told : ones (K && (not S && not (knows now b user))) ≡ ones (K && (not S && not ((P && not S) || O)))
    = ap (λ (p : Bool). ones (K && (not S && not p))) (there ∙ ap (λ (p : Bool). (P && (p && not S)) || O) (key_eq-refl user)) in
    let more : ones (lists_key (take (i + 1) listed) b && (not S && not O)) ≡ ones ((P || K) && (not S && not O))
    = ap (λ (p : Bool). ones (p && (not S && not O))) (list_any_more (λ (x : Key). key_eq x b) listed i d within) in
    omega (arith, table P K S O, told, more, so_far, step)
  where
    table : (p k s o : Bool) → ones (k && (not s && not ((p && not s) || o))) + ones (p && (not s && not o)) ≡ ones ((p || k) && (not s && not o))
    table true true true true = refl
    table true true true false = refl
    table true true false true = refl
    table true true false false = refl
    table true false true true = refl
    table true false true false = refl
    table true false false true = refl
    table true false false false = refl
    table false true true true = refl
    table false true true false = refl
    table false true false true = refl
    table false true false false = refl
    table false false s o = refl

-- -- how often

pub times_more : (ks : List Key) (i : ℕ) (d b : Key) → i < length ks → times_listed (take (i + 1) ks) b ≡ times_listed (take i ks) b + (if key_eq b (get_or ks i d) then 1 else 0)
times_more ks i d b within =
    ⊎_elim
    (λ t. count_by_more_yes (λ (x : Key). key_eq b x) ks i d within t ∙ ap (λ (p : Bool). times_listed (take i ks) b + (if p then 1 else 0)) (sym t))
    (λ f. let none : times_listed (take i ks) b ≡ times_listed (take i ks) b + 0 = omega arith in
    count_by_more_no (λ (x : Key). key_eq b x) ks i d within f ∙ none ∙ ap (λ (p : Bool). times_listed (take i ks) b + (if p then 1 else 0)) (sym f))
    (cases_Bool (key_eq b (get_or ks i d)))

-- the keys before one of a list, and that one, are no more than all
pub times_before : (ks : List Key) (i : ℕ) (d : Key) → i < length ks → times_listed (take i ks) (get_or ks i d) + 1 ≤ times_listed ks (get_or ks i d)
times_before ks i d within =
    let f : Key → Bool = λ x. key_eq (get_or ks i d) x in
    omega (arith, count_by_more_yes f ks i d within (key_eq-refl (get_or ks i d)), sum_by-take-le (λ x. cond (f x) 1 0) ks (i + 1))

-- one that is listed is counted
pub listed_times : (ks : List Key) (b : Key) → lists_key ks b ≡ true → 0 < times_listed ks b
listed_times ks b there =
    let at = listed-somewhere ks b b there in
    let here : times_listed ks (get_or ks at.0 b) ≡ times_listed ks b = ap (times_listed ks) at.2 in
    omega (arith, here, times_before ks at.0 b at.1)

-- -- promises taken back

-- one more of a list: what is promised for whatever passes a test
pub forgotten_any :
    {X : Type 0} (f : X → Bool) (xs : List X) (i : ℕ) (d : X) (was now next : ℕ)
    → i < length xs
    → next ≡ (if f (get_or xs i d) then 0 else now)
    → now ≡ (if list_any f (take i xs) then 0 else was)
    → next ≡ (if list_any f (take (i + 1) xs) then 0 else was)
forgotten_any f xs i d was now next within step so_far =
    step
    ∙ ap (λ (n : ℕ). if f (get_or xs i d) then 0 else n) so_far
    ∙ both (f (get_or xs i d)) (list_any f (take i xs))
    ∙ ap (λ (p : Bool). if p then 0 else was) (sym (list_any_more f xs i d within))
  where
    both : (p q : Bool) → (if p then 0 else if q then 0 else was) ≡ (if q || p then 0 else was)
    both true true = refl
    both true false = refl
    both false true = refl
    both false false = refl

pub forgotten_more :
    (ks : List Key) (i : ℕ) (d b : Key) (was now next : ℕ)
    → i < length ks
    → next ≡ (if key_eq b (get_or ks i d) then 0 else now)
    → now ≡ (if lists_key (take i ks) b then 0 else was)
    → next ≡ (if lists_key (take (i + 1) ks) b then 0 else was)
forgotten_more ks i d b was now next within step so_far =
    forgotten_any (λ (x : Key). key_eq x b) ks i d was now next within
    (step ∙ ap (λ (p : Bool). if p then 0 else now) (key_eq-sym b (get_or ks i d)))
    so_far
