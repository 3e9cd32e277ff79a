-- The users that an element had, after a version more of one of them.
use Rattle.std.proofs.Common.{◌≡◌, ℕ, ◌<◌, ◌≤◌, Bool, true, false, ◌&&◌, ◌||◌, ⊎_elim, List, Option, refl, sym, ap, ◌∙◌}
use Rattle.std.specs.Prelude.{not, if◌then◌else◌}
use Rattle.std.proofs.lemmas.Bool.{cases_Bool, false≢true}
use Rattle.osm_base.specs.Key.{key_eq, lists_key}
use Rattle.osm_base.specs.declared.keys.Key.{Key}
use Rattle.osm_base.proofs.KeyOrder.{key_eq-same, key_eq-refl, key_eq-sym}
use Rattle.osm_element.specs.declared.contents.Content.{Content}
use Rattle.osm_element.specs.Version.{Version}
use Rattle.osm_element.specs.declared.elements.Elements.{Elements}
use Rattle.osm_element.specs.Elements.{next_id, content_of, refs_of, refs_in, uses, push_version}
use Rattle.osm_element.proofs.Pushed.{content-push}
use Rattle.reverse_refs.specs.Users.{UserRows, users_in, past_in}
use Rattle.indexed_map.specs.Ever.{ever, has_used}
use Rattle.indexed_map.specs.Indexed.{IsIndexed, IsListOf}
use Rattle.indexed_map.proofs.EverHeld.{ever-push, uses-ever}

abbrev listing : Key → Option (Content ℕ) → Bool
listing b held = lists_key (refs_in held) b

uses-push :
    (E : Elements) (k a b : Key) (v : Version)
    → 0 < k.id
    → k.id ≤ next_id E k.kind
    → uses (push_version E k v) a b ≡ (if key_eq a k then listing b v.content else lists_key (refs_of E a) b) && not (key_eq a b)
uses-push E k a b v counted reached = ap (λ (c : Option (Content ℕ)). listing b c && not (key_eq a b)) (content-push E k a v counted reached) ∙ along (key_eq a k)
  where
    along : (p : Bool) → listing b (if p then v.content else content_of E a) && not (key_eq a b) ≡ (if p then listing b v.content else lists_key (refs_of E a) b) && not (key_eq a b)
    along true = refl
    along false = refl

pub past-push :
    (E : Elements) (u between new : UserRows) (k : Key) (v : Version) (listed : List Key)
    → 0 < k.id
    → k.id ≤ next_id E k.kind
    → IsIndexed E u
    → IsListOf v.content listed
    → ((a b : Key) → lists_key (past_in between b) a ≡ lists_key (past_in u b) a || (lists_key (users_in u b) a && (lists_key (refs_of E k) b && (key_eq k a && not (lists_key listed b)))))
    → ((a b : Key) → lists_key (past_in new b) a ≡ lists_key (past_in between b) a && not (lists_key listed b && (key_eq k a && not (key_eq k b))))
    → (a b : Key)
    → lists_key (past_in new b) a ≡ has_used (push_version E k v) a b && not (uses (push_version E k v) a b)
past-push E u between new k v listed counted reached was list leaves returns a b =
    returns a b
    ∙ ap (λ (p : Bool). p && not (L && (key_eq k a && not (key_eq k b)))) (leaves a b)
    ∙ ap (λ (p : Bool). (p || (lists_key (users_in u b) a && (R && (key_eq k a && not L)))) && not (L && (key_eq k a && not (key_eq k b)))) (was.past a b)
    ∙ ap (λ (p : Bool). ((has_used E a b && not (uses E a b)) || (p && (R && (key_eq k a && not L)))) && not (L && (key_eq k a && not (key_eq k b)))) (was.holds a b)
    ∙ at
    ∙ ap (λ (p : Bool). ((if key_eq a k then ever (listing b) E k || p else ever (listing b) E a) && not (key_eq a b)) && not ((if key_eq a k then p else lists_key (refs_of E a) b) && not (key_eq a b))) (list.same b)
    ∙ ap (λ (p : Bool). (p && not (key_eq a b)) && not ((if key_eq a k then listing b v.content else lists_key (refs_of E a) b) && not (key_eq a b))) (sym (ever-push (listing b) E k a v counted reached))
    ∙ ap (λ (p : Bool). has_used (push_version E k v) a b && not p) (sym (uses-push E k a b v counted reached))
  where
    L : Bool
    L = lists_key listed b

    R : Bool
    R = lists_key (refs_of E k) b

    own : (h r l s : Bool) → (r && not s ≡ true → h && not s ≡ true)
        → (((h && not s) && not (r && not s)) || ((r && not s) && (r && (true && not l)))) && not (l && (true && not s)) ≡ ((h || l) && not s) && not (l && not s)
    own true true true true held = refl
    own true true true false held = refl
    own true true false true held = refl
    own true true false false held = refl
    own true false true true held = refl
    own true false true false held = refl
    own true false false true held = refl
    own true false false false held = refl
    own false true l true held = own_none l
      where
        own_none : (l : Bool) → false && not (l && (true && false)) ≡ (l && false) && not (l && false)
        own_none true = refl
        own_none false = refl
    own false true l false held = absurd (false≢true (held refl))
    own false false true true held = refl
    own false false true false held = refl
    own false false false s held = refl

    others : (w u r l s : Bool) → (w || (u && (r && (false && not l)))) && not (l && (false && not s)) ≡ w
    others true u r true s = refl
    others true u r false s = refl
    others false true true true s = refl
    others false true true false s = refl
    others false true false true s = refl
    others false true false false s = refl
    others false false r true s = refl
    others false false r false s = refl

    at : ((has_used E a b && not (uses E a b)) || (uses E a b && (R && (key_eq k a && not L)))) && not (L && (key_eq k a && not (key_eq k b)))
        ≡ ((if key_eq a k then ever (listing b) E k || L else ever (listing b) E a) && not (key_eq a b)) && not ((if key_eq a k then L else lists_key (refs_of E a) b) && not (key_eq a b))
    at = ⊎_elim
        (λ t. let here : k ≡ a = key_eq-same k a t in
        ap (λ (x : Key). ((has_used E x b && not (uses E x b)) || (uses E x b && (R && (key_eq k x && not L)))) && not (L && (key_eq k x && not (key_eq k b)))) (sym here)
        ∙ ap (λ (p : Bool). ((has_used E k b && not (uses E k b)) || (uses E k b && (R && (p && not L)))) && not (L && (p && not (key_eq k b)))) (key_eq-refl k)
        ∙ own (ever (listing b) E k) R L (key_eq k b) (uses-ever E k b)
        ∙ ap (λ (p : Bool). ((if p then ever (listing b) E k || L else ever (listing b) E k) && not (key_eq k b)) && not ((if p then L else R) && not (key_eq k b))) (sym (key_eq-refl k))
        ∙ ap (λ (x : Key). ((if key_eq x k then ever (listing b) E k || L else ever (listing b) E x) && not (key_eq x b)) && not ((if key_eq x k then L else lists_key (refs_of E x) b) && not (key_eq x b))) here)
        (λ f. ap (λ (p : Bool). ((has_used E a b && not (uses E a b)) || (uses E a b && (R && (p && not L)))) && not (L && (p && not (key_eq k b)))) f
        ∙ others (has_used E a b && not (uses E a b)) (uses E a b) R L (key_eq k b)
        ∙ ap (λ (p : Bool). ((if p then ever (listing b) E k || L else ever (listing b) E a) && not (key_eq a b)) && not ((if p then L else lists_key (refs_of E a) b) && not (key_eq a b))) (sym (key_eq-sym a k ∙ f)))
        (cases_Bool (key_eq k a))
