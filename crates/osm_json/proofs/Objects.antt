-- Reading the members of an object one after the other.
use Rattle.std.proofs.Common.{◌≡◌, ℕ, List, Bool, true, false, cond, nat_lt, ◌==◌, eq-eqb, Option, Some, option_map, Result, Ok, Err, bytes_eq, refl, sym, ap, ◌∙◌}
use Rattle.std.proofs.lemmas.Bool.{true≢false, eqb-true}
use Rattle.std.proofs.lemmas.Slice.Eq.{bytes_eq-Decides}
use Rattle.json.specs.Token.{Token}
use Rattle.serde_json.specs.Data.{Data, Members, put}
use Rattle.serde_json.specs.Find.{get_member}
use Rattle.serde_json.proofs.Views.{get_member-put, get_member-put_other}
use Rattle.osm_json.specs.declared.fault.ReadFault.{ReadFault}
use Rattle.osm_json.specs.declared.fault.ReadFault.TheVariants.{NotJson, Memory}
use Rattle.osm_json.specs.Found.{Makes}
use Rattle.osm_json.specs.Pull.{Pulls, Pulled}

-- whatever is read of what was found
pub pulls_map : {S A B : Type 0} (f : A → B) (reading : S → A) (x : A) (found : Option (S × List Token)) (new : List Token) → Pulls reading x found new → Pulls (λ s. f (reading s)) (f x) found new
pulls_map f reading x found new h = record { source = h.source; begins = h.begins; reads = ap f h.reads }

pub pulls_as : {S A : Type 0} (f g : S → A) (x y : A) (found : Option (S × List Token)) (new : List Token) → ((s : S) → f s ≡ g s) → x ≡ y → Pulls f x found new → Pulls g y found new
pulls_as f g x y found new same e h = record { source = h.source; begins = h.begins; reads = sym (same h.source) ∙ h.reads ∙ e }

pub pulled_same : {S A X : Type 0} (view : X → A) (f g : S → A) (result : Result X ReadFault) (found : Option (S × List Token)) (new : List Token) → ((s : S) → f s ≡ g s) → Pulled view f result found new → Pulled view g result found new
pulled_same view f g (Ok x) found new same h = record { source = h.source; begins = h.begins; reads = sym (same h.source) ∙ h.reads }
pulled_same view f g (Err fault) found new same h = h

-- what is made of what was read
pub makes_pulled : {S A B X : Type 0} (view : X → A) (reading : S → B) (make : B → A) (x : B) (result : Result X ReadFault) (found : Option (S × List Token)) (new : List Token)
    → Pulls reading x found new → Makes view result (make x) → Pulled view (λ s. make (reading s)) result found new
makes_pulled view reading make x (Ok y) found new h made = record { source = h.source; begins = h.begins; reads = ap make h.reads ∙ sym made }
makes_pulled view reading make x (Err Memory) found new h made = tt
makes_pulled view reading make x (Err NotJson) found new h made = absurd made

-- ---- a member that was put is the last of its name, and no other changed

member_at : {A : Type 0} (reading : Data → A) (name key : List ℕ) (d : Data) (ms : Members) (b : Bool) → bytes_eq key name ≡ b
    → option_map reading (get_member name (put key d ms)) ≡ cond b (Some (reading d)) (option_map reading (get_member name ms))
member_at reading name key d ms true e =
    let same : key ≡ name = (bytes_eq-Decides key name).0 e in
    ap (λ k. option_map reading (get_member name (put k d ms))) same ∙ ap (option_map reading) (get_member-put name d ms)
member_at reading name key d ms false e =
    ap (option_map reading) (get_member-put_other name key d ms (λ same. true≢false (sym ((bytes_eq-Decides key name).1 (sym same)) ∙ e)))

pub member_put : {A : Type 0} (reading : Data → A) (name key : List ℕ) (d : Data) (ms : Members) → option_map reading (get_member name (put key d ms)) ≡ cond (bytes_eq key name) (Some (reading d)) (option_map reading (get_member name ms))
member_put reading name key d ms = member_at reading name key d ms (bytes_eq key name) refl

found_at : (name key : List ℕ) (d : Data) (ms : Members) (b : Bool) → bytes_eq key name ≡ b → get_member name (put key d ms) ≡ cond b (Some d) (get_member name ms)
found_at name key d ms true e =
    let same : key ≡ name = (bytes_eq-Decides key name).0 e in
    ap (λ k. get_member name (put k d ms)) same ∙ get_member-put name d ms
found_at name key d ms false e = get_member-put_other name key d ms (λ same. true≢false (sym ((bytes_eq-Decides key name).1 (sym same)) ∙ e))

pub found_put : (name key : List ℕ) (d : Data) (ms : Members) → get_member name (put key d ms) ≡ cond (bytes_eq key name) (Some d) (get_member name ms)
found_put name key d ms = found_at name key d ms (bytes_eq key name) refl

-- ---- which name a key is

-- a choice by tests keeps what holds at each of them
pub chosen : {A : Type 0} (P : A → Type 0) (b : Bool) (x y : A) → (b ≡ true → P x) → P y → P (cond b x y)
chosen P true x y h k = h refl
chosen P false x y h k = k

-- where the number of a key's name leads to the key and back, the key is the text at r just where r is its number
module _ (limit : ℕ) (text_at : ℕ → List ℕ) (number : List ℕ → ℕ) where
  abbrev pub IsAt : List ℕ → ℕ → Type 0
  IsAt key n = nat_lt n limit ≡ true → bytes_eq key (text_at n) ≡ true

  at_text : (r : ℕ) (key : List ℕ) (b t : Bool) → bytes_eq key (text_at r) ≡ b → (r == number key) ≡ t → nat_lt r limit ≡ true → number (text_at r) ≡ r → IsAt key (number key) → b ≡ t
  at_text r key true true e f small back sound = refl
  at_text r key false false e f small back sound = refl
  at_text r key true false e f small back sound =
      let same : key ≡ text_at r = (bytes_eq-Decides key (text_at r)).0 e in
      let is : r ≡ number key = sym (ap number same ∙ back) in
      absurd (true≢false (sym (eq-eqb r (number key) is) ∙ f))
  at_text r key false true e f small back sound =
      let is : r ≡ number key = eqb-true r (number key) f in
      let there : bytes_eq key (text_at (number key)) ≡ true = sound (ap (λ n. nat_lt n limit) (sym is) ∙ small) in
      absurd (true≢false (sym there ∙ ap (λ n. bytes_eq key (text_at n)) (sym is) ∙ e))

  pub test_at : (r : ℕ) (key : List ℕ) → nat_lt r limit ≡ true → number (text_at r) ≡ r → IsAt key (number key) → bytes_eq key (text_at r) ≡ (r == number key)
  test_at r key small back sound = at_text r key (bytes_eq key (text_at r)) (r == number key) refl refl small back sound
