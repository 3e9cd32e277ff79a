-- Users of one element leave, and come back.
use Rattle.std.proofs.Common.{◌≡◌, ℕ, ◌+◌, ◌<◌, Bool, true, false, ◌&&◌, ◌||◌, ⊎_elim, List, length, take, get_or, refl, sym, ap, ◌∙◌}
use Rattle.std.specs.Prelude.{not, if◌then◌else◌}
use Rattle.std.specs.List.{list_any}
use Rattle.std.proofs.lemmas.Bool.{cases_Bool}
use Rattle.std.proofs.lemmas.List.Folds.{list_any_more}
use Rattle.osm_base.specs.Key.{key_eq, lists_key, insert_key, without_key}
use Rattle.osm_base.specs.declared.keys.Key.{Key}
use Rattle.osm_base.proofs.KeyOrder.{key_eq-same, key_eq-sym}
use Rattle.osm_base.proofs.KeyLists.{lists-insert, lists-without}
use Rattle.reverse_refs.specs.Users.{UserRows, users_in, past_in}

-- -- users leave

abbrev pub Leaves : UserRows → UserRows → Key → Key → List Key → Type 0
Leaves old new user used listed = (a b : Key)
    → lists_key (past_in new b) a
    ≡ lists_key (past_in old b) a || (lists_key (users_in old b) a && (key_eq used b && (key_eq user a && not (lists_key listed b))))

or-false : (p : Bool) → p ≡ p || false
or-false true = refl
or-false false = refl

and-false : (p : Bool) → p && false ≡ false
and-false true = refl
and-false false = refl

-- one that was there, and isn't listed
pub left :
    (old new : UserRows) (user used : Key) (listed : List Key)
    → lists_key listed used ≡ false
    → lists_key (users_in old used) user ≡ true
    → ((k : Key) → past_in new k ≡ (if key_eq k used then insert_key (past_in old k) user else past_in old k))
    → Leaves old new user used listed
left old new user used listed gone there put a b =
    ap (λ (ks : List Key). lists_key ks a) (put b)
    ∙ ⊎_elim
    (λ t. ap (λ (p : Bool). lists_key (if p then insert_key (past_in old b) user else past_in old b) a) t
    ∙ lists-insert (past_in old b) user a
    ∙ one (key_eq user a) (lists_key (past_in old b) a) (lists_key (users_in old b) a) (lists_key listed b)
    (λ u. ap (λ (k : Key). lists_key (users_in old k) a) (key_eq-same b used t) ∙ ap (lists_key (users_in old used)) (sym (key_eq-same user a u)) ∙ there)
    (ap (lists_key listed) (key_eq-same b used t) ∙ gone)
    ∙ ap (λ (p : Bool). lists_key (past_in old b) a || (lists_key (users_in old b) a && (p && (key_eq user a && not (lists_key listed b))))) (sym (key_eq-sym used b ∙ t)))
    (λ f. ap (λ (p : Bool). lists_key (if p then insert_key (past_in old b) user else past_in old b) a) f
    ∙ or-false (lists_key (past_in old b) a)
    ∙ ap (λ (p : Bool). lists_key (past_in old b) a || p) (sym (and-false (lists_key (users_in old b) a)))
    ∙ ap (λ (p : Bool). lists_key (past_in old b) a || (lists_key (users_in old b) a && (p && (key_eq user a && not (lists_key listed b))))) (sym (key_eq-sym used b ∙ f)))
    (cases_Bool (key_eq b used))
  where
    one : (q o u l : Bool) → (q ≡ true → u ≡ true) → l ≡ false → q || o ≡ o || (u && (true && (q && not l)))
    one q o u true now out = cc
    one true true u false now out = refl
    one true false true false now out = refl
    one true false false false now out = sym (now refl)
    one false true u false now out = refl
    one false false true false now out = refl
    one false false false false now out = refl

no_leaver : (u p q l : Bool) → (p ≡ true → q ≡ true → u && not l ≡ false) → u && (p && (q && not l)) ≡ false
no_leaver true true true l none = none refl refl
no_leaver true true false l none = refl
no_leaver true false q l none = refl
no_leaver false p q l none = refl

stays :
    (old : UserRows) (user used : Key) (listed : List Key)
    → ((a b : Key) → key_eq used b ≡ true → key_eq user a ≡ true → lists_key (users_in old b) a && not (lists_key listed b) ≡ false)
    → Leaves old old user used listed
stays old user used listed none a b =
    or-false (lists_key (past_in old b) a)
    ∙ ap (λ (p : Bool). lists_key (past_in old b) a || p) (sym (no_leaver (lists_key (users_in old b) a) (key_eq used b) (key_eq user a) (lists_key listed b) (none a b)))

-- one that is listed still
pub none_left : (old : UserRows) (user used : Key) (listed : List Key) → lists_key listed used ≡ true → Leaves old old user used listed
none_left old user used listed there = stays old user used listed
    (λ a b t u. ap (λ (p : Bool). lists_key (users_in old b) a && not p) (ap (lists_key listed) (sym (key_eq-same used b t)) ∙ there) ∙ and-false (lists_key (users_in old b) a))

-- one that wasn't there
pub none_there : (old : UserRows) (user used : Key) (listed : List Key) → lists_key (users_in old used) user ≡ false → Leaves old old user used listed
none_there old user used listed absent = stays old user used listed
    (λ a b t u. ap (λ (p : Bool). p && not (lists_key listed b))
    (ap (λ (k : Key). lists_key (users_in old k) a) (sym (key_eq-same used b t)) ∙ ap (lists_key (users_in old used)) (sym (key_eq-same user a u)) ∙ absent))

-- one use more of a list
pub left_more : (n o u p t x m w : Bool) → n ≡ (m || (w && (t && x))) → m ≡ (o || (u && (p && x))) → w ≡ (u && not (p && x)) → n ≡ (o || (u && ((p || t) && x)))
left_more n o u p t x m w next now users =
    next ∙ ap (λ (y : Bool). y || (w && (t && x))) now ∙ ap (λ (y : Bool). (o || (u && (p && x))) || (y && (t && x))) users ∙ both o u p t x
  where
    both : (o u p t x : Bool) → ((o || (u && (p && x))) || ((u && not (p && x)) && (t && x))) ≡ o || (u && ((p || t) && x))
    both true u p t x = refl
    both false true true true true = refl
    both false true true true false = refl
    both false true true false true = refl
    both false true true false false = refl
    both false true false t x = refl
    both false false p t x = refl

pub left_next :
    {X : Type 0} (f : X → Key) (xs : List X) (i : ℕ) (d : X) (old now next : UserRows) (user : Key) (listed : List Key)
    → i < length xs
    → ((a b : Key) → lists_key (users_in now b) a ≡ lists_key (users_in old b) a && not (list_any (λ x. key_eq (f x) b) (take i xs) && (key_eq user a && not (lists_key listed b))))
    → ((a b : Key) → lists_key (past_in now b) a ≡ lists_key (past_in old b) a || (lists_key (users_in old b) a && (list_any (λ x. key_eq (f x) b) (take i xs) && (key_eq user a && not (lists_key listed b)))))
    → Leaves now next user (f (get_or xs i d)) listed
    → (a b : Key)
    → lists_key (past_in next b) a ≡ lists_key (past_in old b) a || (lists_key (users_in old b) a && (list_any (λ x. key_eq (f x) b) (take (i + 1) xs) && (key_eq user a && not (lists_key listed b))))
left_next {X = X} f xs i d old now next user listed within users so_far leaves a b =
    left_more (lists_key (past_in next b) a) (lists_key (past_in old b) a) (lists_key (users_in old b) a) (list_any (λ (x : X). key_eq (f x) b) (take i xs)) (key_eq (f (get_or xs i d)) b) (key_eq user a && not (lists_key listed b)) (lists_key (past_in now b) a) (lists_key (users_in now b) a)
    (leaves a b)
    (so_far a b)
    (users a b)
    ∙ ap (λ (p : Bool). lists_key (past_in old b) a || (lists_key (users_in old b) a && (p && (key_eq user a && not (lists_key listed b))))) (sym (list_any_more (λ (x : X). key_eq (f x) b) xs i d within))

-- -- users come back

abbrev pub Returns : UserRows → UserRows → Key → Key → Type 0
Returns old new user used = (a b : Key) → lists_key (past_in new b) a ≡ lists_key (past_in old b) a && not (key_eq used b && (key_eq user a && not (key_eq user b)))

and-true : (p : Bool) → p ≡ p && true
and-true true = refl
and-true false = refl

pub back :
    (old new : UserRows) (user used : Key)
    → key_eq user used ≡ false
    → ((k : Key) → past_in new k ≡ (if key_eq k used then without_key (past_in old k) user else past_in old k))
    → Returns old new user used
back old new user used other took a b =
    ap (λ (ks : List Key). lists_key ks a) (took b)
    ∙ ⊎_elim
    (λ t. ap (λ (p : Bool). lists_key (if p then without_key (past_in old b) user else past_in old b) a) t
    ∙ lists-without (past_in old b) user a
    ∙ ap (λ (p : Bool). lists_key (past_in old b) a && not p) (key_eq-sym a user ∙ and-true (key_eq user a))
    ∙ ap (λ (p : Bool). lists_key (past_in old b) a && not (key_eq user a && not p)) (sym (ap (key_eq user) (key_eq-same b used t) ∙ other))
    ∙ ap (λ (p : Bool). lists_key (past_in old b) a && not (p && (key_eq user a && not (key_eq user b)))) (sym (key_eq-sym used b ∙ t)))
    (λ f. ap (λ (p : Bool). lists_key (if p then without_key (past_in old b) user else past_in old b) a) f
    ∙ and-true (lists_key (past_in old b) a)
    ∙ ap (λ (p : Bool). lists_key (past_in old b) a && not (p && (key_eq user a && not (key_eq user b)))) (sym (key_eq-sym used b ∙ f)))
    (cases_Bool (key_eq b used))

no_comer : (o p q s : Bool) → (p ≡ true → q ≡ true → o && not (not s) ≡ o) → o ≡ o && not (p && (q && not s))
no_comer o true true s none = sym (none refl refl)
no_comer o true false s none = and-true o
no_comer o false q s none = and-true o

-- it doesn't use itself
pub not_itself : (old : UserRows) (user used : Key) → key_eq user used ≡ true → Returns old old user used
not_itself old user used same a b = no_comer (lists_key (past_in old b) a) (key_eq used b) (key_eq user a) (key_eq user b)
    (λ t u. ap (λ (p : Bool). lists_key (past_in old b) a && not (not p)) (ap (key_eq user) (sym (key_eq-same used b t)) ∙ same) ∙ sym (and-true (lists_key (past_in old b) a)))

-- it was a user already, and so hadn't left
pub was_there : (old : UserRows) (user used : Key) → lists_key (past_in old used) user ≡ false → Returns old old user used
was_there old user used absent a b = no_comer (lists_key (past_in old b) a) (key_eq used b) (key_eq user a) (key_eq user b)
    (λ t u. let none : lists_key (past_in old b) a ≡ false
    = ap (λ (k : Key). lists_key (past_in old k) a) (sym (key_eq-same used b t)) ∙ ap (lists_key (past_in old used)) (sym (key_eq-same user a u)) ∙ absent in
    ap (λ (p : Bool). p && not (not (key_eq user b))) none ∙ sym none)

pub back_next :
    (listed : List Key) (i : ℕ) (d : Key) (old now next : UserRows) (user : Key)
    → i < length listed
    → ((a b : Key) → lists_key (past_in now b) a ≡ lists_key (past_in old b) a && not (lists_key (take i listed) b && (key_eq user a && not (key_eq user b))))
    → Returns now next user (get_or listed i d)
    → (a b : Key)
    → lists_key (past_in next b) a ≡ lists_key (past_in old b) a && not (lists_key (take (i + 1) listed) b && (key_eq user a && not (key_eq user b)))
back_next listed i d old now next user within so_far returns a b =
    returns a b
    ∙ ap (λ (p : Bool). p && not (key_eq (get_or listed i d) b && (key_eq user a && not (key_eq user b)))) (so_far a b)
    ∙ both (lists_key (past_in old b) a) (lists_key (take i listed) b) (key_eq (get_or listed i d) b) (key_eq user a && not (key_eq user b))
    ∙ ap (λ (p : Bool). lists_key (past_in old b) a && not (p && (key_eq user a && not (key_eq user b)))) (sym (list_any_more (λ (x : Key). key_eq x b) listed i d within))
  where
    both : (o p t y : Bool) → ((o && not (p && y)) && not (t && y)) ≡ o && not ((p || t) && y)
    both false p t y = refl
    both true true true true = refl
    both true true true false = refl
    both true true false true = refl
    both true true false false = refl
    both true false t y = refl
