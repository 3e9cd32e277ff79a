-- Users come and leave, and none of them is in both parts.
use Rattle.std.proofs.Common.{◌≡◌, Bool, true, false, ◌&&◌, ◌||◌, ⊎_elim, List, [], refl, sym, ap, ◌∙◌, subst}
use Rattle.std.specs.Prelude.{not}
use Rattle.std.proofs.lemmas.Bool.{cases_Bool, false≢true}
use Rattle.osm_base.specs.Key.{key_eq, lists_key, insert_key, without_key}
use Rattle.osm_base.specs.declared.keys.Key.{Key}
use Rattle.osm_base.proofs.KeyOrder.{key_eq-sym}
use Rattle.osm_base.proofs.KeyLists.{lists-insert, lists-without, rising-insert, rising-filter}
use Rattle.reverse_refs.specs.Users.{IsParted}

pub come : (present past : List Key) (k : Key) → lists_key present k ≡ false → IsParted present past → IsParted (insert_key present k) (without_key past k)
come present past k absent was = record {
  present = rising-insert present k absent was.present;
  past = rising-filter past (λ x. not (key_eq x k)) was.past;
  apart = λ a here. lists-without past k a ∙ gone (key_eq k a) (key_eq a k) (lists_key present a) (lists_key past a) (key_eq-sym k a) (was.apart a) (sym (lists-insert present k a) ∙ here);
}
  where
    gone : (p q n l : Bool) → p ≡ q → (n ≡ true → l ≡ false) → p || n ≡ true → l && not q ≡ false
    gone true true n true same apart here = refl
    gone true true n false same apart here = refl
    gone true false n l same apart here = cc
    gone false q true l same apart here = ap (λ (b : Bool). b && not q) (apart refl)
    gone false q false l same apart here = cc

-- one of the past isn't present
pub back : (present past : List Key) (k : Key) → lists_key past k ≡ true → IsParted present past → IsParted (insert_key present k) (without_key past k)
back present past k there was = come present past k (⊎_elim (λ t. absurd (false≢true (sym (was.apart k t) ∙ there))) (λ f. f) (cases_Bool (lists_key present k))) was

pub gone : (present past : List Key) (k : Key) → lists_key present k ≡ true → IsParted present past → IsParted (without_key present k) (insert_key past k)
gone present past k there was = record {
  present = rising-filter present (λ x. not (key_eq x k)) was.present;
  past = rising-insert past k (was.apart k there) was.past;
  apart = λ a here. lists-insert past k a ∙ left (key_eq k a) (key_eq a k) (lists_key present a) (lists_key past a) (key_eq-sym k a) (was.apart a) (sym (lists-without present k a) ∙ here);
}
  where
    left : (p q n l : Bool) → p ≡ q → (n ≡ true → l ≡ false) → n && not q ≡ true → p || l ≡ false
    left true true true l same apart here = cc
    left true true false l same apart here = cc
    left true false n l same apart here = cc
    left false q true l same apart here = apart refl
    left false q false l same apart here = cc

-- the same two lists, read otherwise
pub same_parts : (users left present past : List Key) → present ≡ users → past ≡ left → IsParted users left → IsParted present past
same_parts users left present past one other was =
    subst (λ (ks : List Key). IsParted ks past) (sym one) (subst (λ (ks : List Key). IsParted users ks) (sym other) was)

pub no_users : (present past : List Key) → present ≡ [] → past ≡ [] → IsParted present past
no_users present past one other = same_parts [] [] present past one other (record { present = tt; past = tt; apart = λ k here. refl })
