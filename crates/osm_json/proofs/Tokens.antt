-- The tokens of objects and arrays, part by part.
use Rattle.std.proofs.Common.{◌≡◌, ℕ, ◌<◌, ◌+◌, ◌≤◌, length, take, get_or, List, [], ◌∷◌, ◌++◌, Some, None, Result, Ok, Err, OnOk, map, flat_map, refl, sym, ap, ◌∙◌, append_assoc}
use Rattle.std.proofs.lemmas.List.{append-nil, take_all, take_more, flat_map_more}
use Rattle.std.proofs.lemmas.List.Folds.{flat_map-map}
use Rattle.std.proofs.lemmas.Grind.{flat_map-append}
use Rattle.std.specs.declared.alloc.AllocError.{AllocError}
use Rattle.json.specs.Token.{Token, begin_object, end_object, begin_array, end_array}
use Rattle.json.specs.Written.{Written, Writes}
use Rattle.json.specs.Tree.{members_tokens, items_tokens}
use Rattle.serde_json.specs.Data.{Data}
use Rattle.serde_json.specs.View.{items_of}
use Rattle.serde_json.specs.Written.{members_outline, items_outline, compact_text}
use Rattle.serde_json.proofs.Texts.{print-outline}
use Rattle.json.specs.Print.{print}
use Rattle.osm_json.specs.Shown.{Field, field, members_of, record_of, list_of, version_field, document}
use Rattle.osm_json.specs.Sent.{tokens_of, field_tokens, Appends, AppendsFields}

fields_of : (fields : List Field) → members_tokens (members_outline (members_of fields)) ≡ flat_map field_tokens fields ++ end_object ∷ []
unfolding tokens_of field_tokens
fields_of [] = refl
fields_of (None ∷ more) = fields_of more
fields_of (Some m ∷ more) =
    ap (λ ts. Token.key m.0 ∷ (tokens_of m.1 ++ ts)) (fields_of more) ∙ ap (λ ts. Token.key m.0 ∷ ts) (sym (append_assoc (tokens_of m.1) (flat_map field_tokens more) (end_object ∷ [])))

record_tokens : (fields : List Field) → tokens_of (record_of fields) ≡ begin_object ∷ (flat_map field_tokens fields ++ end_object ∷ [])
unfolding tokens_of record_of
record_tokens fields = ap (λ ts. begin_object ∷ ts) (fields_of fields)

items_are : {A : Type 0} (shown : A → Data) (xs : List A) → items_tokens (items_outline (items_of (map shown xs))) ≡ flat_map (λ x. tokens_of (shown x)) xs ++ end_array ∷ []
unfolding tokens_of
items_are shown [] = refl
items_are shown (x ∷ xs) = ap (λ ts. tokens_of (shown x) ++ ts) (items_are shown xs) ∙ sym (append_assoc (tokens_of (shown x)) _ (end_array ∷ []))

list_tokens : {A : Type 0} (shown : A → Data) (xs : List A) → tokens_of (list_of shown xs) ≡ begin_array ∷ (flat_map (λ x. tokens_of (shown x)) xs ++ end_array ∷ [])
unfolding tokens_of list_of
list_tokens shown xs = ap (λ ts. begin_array ∷ ts) (items_are shown xs)

-- ---- one write after another

-- the writer's own clause
pub sent : {a b : Written} {t : Token} → Writes {E = AllocError} (Ok tt) a b t → Appends a b (t ∷ [])
sent w = record { before = w.room.0; tokens = w.ok }

-- the last write, whose own result is given
pub at_last : {a b : Written} {t : Token} {P : Type 0} (result : Result (Unit {0}) AllocError) → Writes result a b t → (Appends a b (t ∷ []) → P) → OnOk result P
at_last (Ok u) w f = f (sent w)
at_last (Err fault) w f = tt

infixr 10 ◌⨾◌
pub ◌⨾◌ : {a b c : Written} {ts us : List Token} → Appends a b ts → Appends b c us → Appends a c (ts ++ us)
◌⨾◌ {a} {b} {c} {ts} {us} p q = record { before = q.before ∙ p.before; tokens = q.tokens ∙ ap (λ w. w ++ us) p.tokens ∙ append_assoc a.tokens ts us }

infixr 10 ◌⊕◌
pub ◌⊕◌ : {a b c : Written} {fs gs : List Field} → AppendsFields a b fs → AppendsFields b c gs → AppendsFields a c (fs ++ gs)
◌⊕◌ {a} {b} {c} {fs} {gs} p q = record {
  before = q.before ∙ p.before;
  tokens =
      q.tokens ∙ ap (λ w. w ++ flat_map field_tokens gs) p.tokens ∙ append_assoc a.tokens (flat_map field_tokens fs) (flat_map field_tokens gs)
      ∙ ap (λ ts. a.tokens ++ ts) (sym (flat_map-append field_tokens fs gs));
}

-- a member that is left out
pub none_sent : {a : Written} → AppendsFields a a (None ∷ [])
unfolding field_tokens
none_sent {a} = record { before = refl; tokens = sym (append-nil a.tokens) }

pub no_fields_sent : {a : Written} → AppendsFields a a []
no_fields_sent {a} = record { before = refl; tokens = sym (append-nil a.tokens) }

-- one member
pub one_sent : {a b : Written} (f : Field) → Appends a b (field_tokens f) → AppendsFields a b (f ∷ [])
one_sent {a} {b} f p = record { before = p.before; tokens = p.tokens ∙ ap (λ ts. a.tokens ++ ts) (sym (append-nil (field_tokens f))) }

-- what a loop over a list has sent at its end
pub whole : {A : Type 0} {a b : Written} (f : A → List Token) (xs : List A) (i : ℕ) → length xs ≤ i → Appends a b (flat_map f (take i xs)) → Appends a b (flat_map f xs)
whole f xs i le p = rw (take_all i xs le) at p

-- a loop has sent one item more
pub one_more : {A : Type 0} {a b c : Written} (f : A → List Token) (xs : List A) (i : ℕ) (d : A) → i < length xs → Appends a b (flat_map f (take i xs)) → Appends b c (f (get_or xs i d)) → Appends a c (flat_map f (take (i + 1) xs))
one_more {A} {a} {b} {c} f xs i d lt p q =
    let more : flat_map f (take (i + 1) xs) ≡ flat_map f (take i xs) ++ f (get_or xs i d) = ap (flat_map f) (take_more xs i d lt) ∙ sym (flat_map_more f [] (take i xs) (get_or xs i d)) in
    rw more (p ⨾ q)

-- one member for each item of a list
pub each_sent : {A : Type 0} {a b : Written} (shown : A → Field) (xs : List A) → Appends a b (flat_map (λ x. field_tokens (shown x)) xs) → AppendsFields a b (map shown xs)
each_sent {A} {a} {b} shown xs p = record { before = p.before; tokens = p.tokens ∙ ap (λ ts. a.tokens ++ ts) (sym (flat_map-map field_tokens shown xs)) }

-- an object, from its members
pub record_sent : {a b c d : Written} {fs : List Field} → Appends a b (begin_object ∷ []) → AppendsFields b c fs → Appends c d (end_object ∷ []) → Appends a d (tokens_of (record_of fs))
record_sent {a} {b} {c} {d} {fs} begin fields end =
    let inner : Appends b c (flat_map field_tokens fs) = record { before = fields.before; tokens = fields.tokens } in
    rw record_tokens (begin ⨾ inner ⨾ end)

-- an array, from its items
pub list_sent : {A : Type 0} {a b c d : Written} (shown : A → Data) (xs : List A) → Appends a b (begin_array ∷ []) → Appends b c (flat_map (λ x. tokens_of (shown x)) xs) → Appends c d (end_array ∷ [])
    → Appends a d (tokens_of (list_of shown xs))
list_sent shown xs begin items end = rw list_tokens (begin ⨾ items ⨾ end)

-- a member, from its name and its value
pub member_sent : {a b c : Written} (name : List ℕ) (d : Data) → Appends a b (Token.key name ∷ []) → Appends b c (tokens_of d) → AppendsFields a c (field name d ∷ [])
unfolding field_tokens
member_sent name d key value = one_sent (field name d) (key ⨾ value)

-- a document, from its part
pub document_sent : {a b c d e f : Written} (name : List ℕ) (part : Data) → Appends a b (begin_object ∷ []) → Appends b c (Token.key name ∷ []) → Appends c d (tokens_of part) → AppendsFields d e (version_field ∷ []) → Appends e f (end_object ∷ []) → Appends a f (tokens_of (document name part))
unfolding document
document_sent name part begin key value version end = record_sent begin (member_sent name part key value ⊕ version) end

-- ---- the text

-- the text of what was written behind bytes that are there already
pub text_behind : (before w : Written) (d : Data) → before.tokens ≡ [] → Appends before w (tokens_of d) → w.before ++ print w.tokens ≡ before.before ++ compact_text d
unfolding tokens_of
text_behind before w d empty p = rw (p.before, p.tokens, empty) (ap (λ text. before.before ++ text) (print-outline d))
