-- How many elements use one, after a version more of some element.
use Rattle.std.proofs.Common.{◌≡◌, ℕ, ◌+◌, ◌<◌, ◌≤◌, Bool, true, false, ◌&&◌, ◌||◌, ⊎_elim, List, [], ◌∷◌, length, Option, Some, None, refl, sym, ap, ◌∙◌, subst, arith}
use Rattle.std.specs.Prelude.{not, slice_get, if◌then◌else◌}
use Rattle.std.proofs.lemmas.Bool.{cases_Bool}
use Rattle.osm_base.specs.Key.{key_eq, key_lt, lists_key, insert_key, IsRising}
use Rattle.osm_base.specs.declared.keys.Key.{Key}
use Rattle.osm_base.proofs.KeyOrder.{key_eq-same, key_eq-refl, key_eq-sym}
use Rattle.osm_base.proofs.KeyLists.{lists-insert, rising-insert, rising-filter, rising-same}
use Rattle.osm_element.specs.declared.contents.Content.{Content}
use Rattle.osm_element.specs.Version.{Version}
use Rattle.osm_element.specs.declared.elements.Elements.{Elements}
use Rattle.osm_element.specs.Elements.{next_id, content_of, refs_in, uses, keys, users, first_user, push_version}
use Rattle.osm_element.proofs.Pushed.{content-push}
use Rattle.osm_element.proofs.Used.{lists-users, rising-keys}
use Rattle.upload_check.specs.Users.{others, one_if, AreRaised, AreLowered}

-- ---- who uses what, after a version more

-- the element itself uses what its new content lists, and each other what it used
pub uses-push :
    (E : Elements) (k a b : Key) (v : Version)
    → 0 < k.id
    → k.id ≤ next_id E k.kind
    → uses (push_version E k v) a b ≡ if key_eq a k then lists_key (refs_in v.content) b && not (key_eq k b) else uses E a b
uses-push E k a b v counted reached =
    ap (λ (c : Option (Content ℕ)). lists_key (refs_in c) b && not (key_eq a b)) (content-push E k a v counted reached)
    ∙ ⊎_elim
    (λ t. let here : a ≡ k = key_eq-same a k t in
    ap (λ (p : Bool). lists_key (refs_in (if p then v.content else content_of E a)) b && not (key_eq a b)) t
    ∙ ap (λ (x : Key). lists_key (refs_in v.content) b && not (key_eq x b)) here
    ∙ ap (λ (p : Bool). if p then lists_key (refs_in v.content) b && not (key_eq k b) else uses E a b) (sym t))
    (λ f. ap (λ (p : Bool). lists_key (refs_in (if p then v.content else content_of E a)) b && not (key_eq a b)) f
    ∙ ap (λ (p : Bool). if p then lists_key (refs_in v.content) b && not (key_eq k b) else uses E a b) (sym f))
    (cases_Bool (key_eq a k))

pub uses-own :
    (E : Elements) (k b : Key) (v : Version)
    → 0 < k.id
    → k.id ≤ next_id E k.kind
    → uses (push_version E k v) k b ≡ (lists_key (refs_in v.content) b && not (key_eq k b))
uses-own E k b v counted reached =
    uses-push E k k b v counted reached
    ∙ ap (λ (p : Bool). if p then lists_key (refs_in v.content) b && not (key_eq k b) else uses E k b) (key_eq-refl k)

pub uses-other :
    (E : Elements) (k a b : Key) (v : Version)
    → 0 < k.id
    → k.id ≤ next_id E k.kind
    → key_eq a k ≡ false
    → uses (push_version E k v) a b ≡ uses E a b
uses-other E k a b v counted reached other =
    uses-push E k a b v counted reached
    ∙ ap (λ (p : Bool). if p then lists_key (refs_in v.content) b && not (key_eq k b) else uses E a b) other

-- ---- lists in order that differ in one key

length-insert : (ks : List Key) (k : Key) → length (insert_key ks k) ≡ length ks + 1
length-insert [] k = refl
length-insert (x ∷ xs) k =
    ⊎_elim
    (λ t. ap (λ (b : Bool). length (if b then k ∷ x ∷ xs else x ∷ insert_key xs k)) t ∙ omega arith)
    (λ f. ap (λ (b : Bool). length (if b then k ∷ x ∷ xs else x ∷ insert_key xs k)) f ∙ omega (arith, length-insert xs k))
    (cases_Bool (key_lt k x))

-- what differs in the one key at most
abbrev Differs : List Key → List Key → Key → Type 0
Differs xs ys k = (a : Key) → key_eq a k ≡ false → lists_key ys a ≡ lists_key xs a

same-at : (xs ys : List Key) (k a : Key) → Differs xs ys k → lists_key ys k ≡ lists_key xs k → lists_key ys a ≡ lists_key xs a
same-at xs ys k a differs here =
    ⊎_elim
    (λ t. let P : Key → Type 0 = λ x. lists_key ys x ≡ lists_key xs x in subst P (sym (key_eq-same a k t)) here)
    (λ f. differs a f)
    (cases_Bool (key_eq a k))

-- the key is in the second alone
inserted : (xs ys : List Key) (k : Key) → IsRising xs → IsRising ys → Differs xs ys k → lists_key xs k ≡ false → lists_key ys k ≡ true → ys ≡ insert_key xs k
inserted xs ys k up_x up_y differs absent there =
    rising-same ys (insert_key xs k) up_y (rising-insert xs k absent up_x) (λ a. each a ∙ sym (lists-insert xs k a))
  where
    each : (a : Key) → lists_key ys a ≡ (key_eq k a || lists_key xs a)
    each a =
        ⊎_elim
        (λ t. ap (lists_key ys) (sym (key_eq-same k a t)) ∙ there ∙ sym (ap (λ (p : Bool). p || lists_key xs a) t))
        (λ f. differs a (key_eq-sym a k ∙ f) ∙ sym (ap (λ (p : Bool). p || lists_key xs a) f))
        (cases_Bool (key_eq k a))

count-one :
    (xs ys : List Key) (k : Key)
    → IsRising xs
    → IsRising ys
    → Differs xs ys k
    → length ys + (if lists_key xs k then 1 else 0) ≡ length xs + (if lists_key ys k then 1 else 0)
count-one xs ys k up_x up_y differs =
    ⊎_elim
    (λ x_has. ⊎_elim (λ y_has. same (y_has ∙ sym x_has)) (λ y_not. ending x_has y_not) (cases_Bool (lists_key ys k)))
    (λ x_not. ⊎_elim (λ y_has. beginning x_not y_has) (λ y_not. same (y_not ∙ sym x_not)) (cases_Bool (lists_key ys k)))
    (cases_Bool (lists_key xs k))
  where
    same : lists_key ys k ≡ lists_key xs k → length ys + (if lists_key xs k then 1 else 0) ≡ length xs + (if lists_key ys k then 1 else 0)
    same here =
        let lists : ys ≡ xs = rising-same ys xs up_y up_x (λ a. same-at xs ys k a differs here) in
        ap (λ (l : List Key). length l + (if lists_key xs k then 1 else 0)) lists ∙ ap (λ (p : Bool). length xs + (if p then 1 else 0)) (sym here)

    beginning : lists_key xs k ≡ false → lists_key ys k ≡ true → length ys + (if lists_key xs k then 1 else 0) ≡ length xs + (if lists_key ys k then 1 else 0)
    beginning x_not y_has =
        let longer : length ys ≡ length xs + 1 = ap length (inserted xs ys k up_x up_y differs x_not y_has) ∙ length-insert xs k in
        ap (λ (p : Bool). length ys + (if p then 1 else 0)) x_not ∙ omega (arith, longer) ∙ ap (λ (p : Bool). length xs + (if p then 1 else 0)) (sym y_has)

    ending : lists_key xs k ≡ true → lists_key ys k ≡ false → length ys + (if lists_key xs k then 1 else 0) ≡ length xs + (if lists_key ys k then 1 else 0)
    ending x_has y_not =
        let longer : length xs ≡ length ys + 1 = ap length (inserted ys xs k up_y up_x (λ a other. sym (differs a other)) y_not x_has) ∙ length-insert ys k in
        ap (λ (p : Bool). length ys + (if p then 1 else 0)) x_has ∙ omega (arith, longer) ∙ ap (λ (p : Bool). length xs + (if p then 1 else 0)) (sym y_not)

-- ---- how many users, after a version more

rising-users : (E : Elements) (b : Key) → IsRising (users E b)
rising-users E b = rising-filter (keys E) (λ a. uses E a b) (rising-keys E)

-- where only one element may use other things than before
pub count-differs :
    (E F : Elements) (k b : Key)
    → ((a : Key) → key_eq a k ≡ false → uses F a b ≡ uses E a b)
    → length (users F b) + (if uses E k b then 1 else 0) ≡ length (users E b) + (if uses F k b then 1 else 0)
count-differs E F k b others =
    ap (λ (p : Bool). length (users F b) + (if p then 1 else 0)) (sym (lists-users E k b))
    ∙ count-one (users E b) (users F b) k (rising-users E b) (rising-users F b) (λ a other. lists-users F a b ∙ others a other ∙ sym (lists-users E a b))
    ∙ ap (λ (p : Bool). length (users E b) + (if p then 1 else 0)) (lists-users F k b)

-- as many as before, less by one if the old content was a user, more by one if the new content is
pub count-push :
    (E : Elements) (k b : Key) (v : Version)
    → 0 < k.id
    → k.id ≤ next_id E k.kind
    → length (users (push_version E k v) b) + (if uses E k b then 1 else 0) ≡ length (users E b) + (if lists_key (refs_in v.content) b && not (key_eq k b) then 1 else 0)
count-push E k b v counted reached =
    count-differs E (push_version E k v) k b (λ a other. uses-other E k a b v counted reached other)
    ∙ ap (λ (p : Bool). length (users E b) + (if p then 1 else 0)) (uses-own E k b v counted reached)

-- ---- used or not

length-none : {X : Type 0} (xs : List X) → length xs ≡ 0 → xs ≡ []
length-none [] none = refl
length-none (x ∷ xs) none = absurd (omega (arith, none))

pub no-first : (E : Elements) (b : Key) → length (users E b) ≡ 0 → first_user E b ≡ None
no-first E b none = ap (λ (ks : List Key). slice_get ks 0) (length-none (users E b) none)

pub some-first : (E : Elements) (b : Key) → 0 < length (users E b) → (a : Key) × (first_user E b ≡ Some a)
some-first E b some = along (users E b) some
  where
    along : (ks : List Key) → 0 < length ks → (a : Key) × (slice_get ks 0 ≡ Some a)
    along [] some = absurd (omega (arith, some))
    along (k ∷ ks) some = (k, refl)

pub used : (E : Elements) (a b : Key) → uses E a b ≡ true → 0 < length (users E b)
used E a b uses_it = along (users E b) (lists-users E a b ∙ uses_it)
  where
    along : (ks : List Key) → lists_key ks a ≡ true → 0 < length ks
    along [] there = cc
    along (k ∷ ks) there = omega arith

-- what a content lists is used, but for the element itself
pub listed-used : (E : Elements) (a b : Key) → lists_key (refs_in (content_of E a)) b ≡ true → key_eq a b ≡ false → 0 < length (users E b)
listed-used E a b listed other = used E a b (ap (λ (p : Bool). p && not (key_eq a b)) listed ∙ ap not other)

-- ---- the counts of the elements with a version more

-- those of the old content were lowered, and those of the new one raised
pub counts-push :
    (E : Elements) (k : Key) (v : Version) (was mid now : Key → ℕ)
    → 0 < k.id
    → k.id ≤ next_id E k.kind
    → ((b : Key) → was b ≡ length (users E b))
    → AreLowered k (refs_in (content_of E k)) was mid
    → AreRaised k (refs_in v.content) mid now
    → (b : Key)
    → now b ≡ length (users (push_version E k v) b)
counts-push E k v was mid now counted reached start lowered raised b =
    sums (now b) (mid b) (was b) (length (users E b)) (length (users (push_version E k v) b)) (one_if (uses E k b)) (one_if (others k (refs_in v.content) b))
    (raised b) (lowered b) (start b) (count-push E k b v counted reached)
  where
    sums : (n m w e f p q : ℕ) → n ≡ m + q → m + p ≡ w → w ≡ e → f + p ≡ e + q → n ≡ f
    sums n m w e f p q one two three four = omega (arith, one, two, three, four)
