-- What was written of a line, one part after another.
use Rattle.std.proofs.Common.{◌≡◌, ℕ, List, [], ◌∷◌, ◌++◌, Some, None, Result, Ok, Err, OnOk, flat_map, refl, sym, ap, ◌∙◌, subst, append_assoc, append-nil}
use Rattle.std.proofs.lemmas.Grind.{flat_map-append}
use Rattle.std.specs.Str.{IsUtf8}
use Rattle.std.specs.declared.alloc.AllocError.{AllocError}
use Rattle.json.specs.Print.{print}
use Rattle.json.specs.Token.{Token, begin_object, end_object}
use Rattle.json.specs.Tree.{members_tokens}
use Rattle.json.specs.Written.{Written, Writes}
use Rattle.serde_json.specs.Data.{Data}
use Rattle.serde_json.specs.Written.{members_outline, compact_text}
use Rattle.serde_json.proofs.Texts.{print-outline}
use Rattle.osm_json.specs.Shown.{Field, field, members_of, record_of}
use Rattle.osm_json.specs.Sent.{tokens_of, field_tokens, Appends, AppendsFields}

fields_of : (fields : List Field) → members_tokens (members_outline (members_of fields)) ≡ flat_map field_tokens fields ++ end_object ∷ []
unfolding tokens_of field_tokens
fields_of [] = refl
fields_of (None ∷ more) = fields_of more
fields_of (Some m ∷ more) =
    ap (λ ts. Token.key m.0 ∷ (tokens_of m.1 ++ ts)) (fields_of more) ∙ ap (λ ts. Token.key m.0 ∷ ts) (sym (append_assoc (tokens_of m.1) (flat_map field_tokens more) (end_object ∷ [])))

pub record_tokens : (fields : List Field) → tokens_of (record_of fields) ≡ begin_object ∷ (flat_map field_tokens fields ++ end_object ∷ [])
unfolding tokens_of record_of
record_tokens fields = ap (λ ts. begin_object ∷ ts) (fields_of fields)

-- the writer's own clause
pub sent : {a b : Written} {t : Token} → Writes {E = AllocError} (Ok tt) a b t → Appends a b (t ∷ [])
sent w = record { before = w.room.0; tokens = w.ok }

-- the last write, whose own result is given
pub at_last : {a b : Written} {t : Token} {P : Type 0} (result : Result (Unit {0}) AllocError) → Writes result a b t → (Appends a b (t ∷ []) → P) → OnOk result P
at_last (Ok u) w f = f (sent w)
at_last (Err fault) w f = tt

-- a last part, whose own result is given
pub then_so : {P Q : Type 0} (result : Result (Unit {0}) AllocError) → OnOk result P → (P → Q) → OnOk result Q
then_so (Ok u) p f = f p
then_so (Err fault) p f = tt

infixr 10 ◌⨾◌
pub ◌⨾◌ : {a b c : Written} {ts us : List Token} → Appends a b ts → Appends b c us → Appends a c (ts ++ us)
◌⨾◌ {a} {b} {c} {ts} {us} p q = record { before = q.before ∙ p.before; tokens = q.tokens ∙ ap (λ w. w ++ us) p.tokens ∙ append_assoc a.tokens ts us }

infixr 10 ◌⊕◌
pub ◌⊕◌ : {a b c : Written} {fs gs : List Field} → AppendsFields a b fs → AppendsFields b c gs → AppendsFields a c (fs ++ gs)
◌⊕◌ {a} {b} {c} {fs} {gs} p q = record {
  before = q.before ∙ p.before;
  tokens =
      q.tokens ∙ ap (λ w. w ++ flat_map field_tokens gs) p.tokens ∙ append_assoc a.tokens (flat_map field_tokens fs) (flat_map field_tokens gs)
      ∙ ap (λ ts. a.tokens ++ ts) (sym (flat_map-append field_tokens fs gs));
}

-- a member, from its name and its value
pub member_sent : {a b c : Written} (name : List ℕ) (d : Data) → Appends a b (Token.key name ∷ []) → Appends b c (tokens_of d) → AppendsFields a c (field name d ∷ [])
unfolding field_tokens
member_sent {a} {b} {c} name d key value =
    let both : Appends a c (Token.key name ∷ tokens_of d) = key ⨾ value in
    record { before = both.before; tokens = both.tokens ∙ ap (λ ts. a.tokens ++ ts) (sym (append-nil (Token.key name ∷ tokens_of d))) }

-- an object, from its members
pub record_sent : {a b c d : Written} {fs : List Field} → Appends a b (begin_object ∷ []) → AppendsFields b c fs → Appends c d (end_object ∷ []) → Appends a d (tokens_of (record_of fs))
record_sent {a} {b} {c} {d} {fs} begin fields end =
    let inner : Appends b c (flat_map field_tokens fs) = record { before = fields.before; tokens = fields.tokens } in
    rw record_tokens (begin ⨾ inner ⨾ end)

pub text_behind : (before w : Written) (d : Data) → before.tokens ≡ [] → Appends before w (tokens_of d) → w.before ++ print w.tokens ≡ before.before ++ compact_text d
unfolding tokens_of
text_behind before w d empty p = rw (p.before, p.tokens, empty) (ap (λ text. before.before ++ text) (print-outline d))

pub utf8_behind : (before w : Written) (d : Data) → before.tokens ≡ [] → Appends before w (tokens_of d) → IsUtf8 (print w.tokens) → IsUtf8 (compact_text d)
unfolding tokens_of
utf8_behind before w d empty p utf8 = subst IsUtf8 (ap print (p.tokens ∙ ap (λ ts. ts ++ tokens_of d) empty) ∙ print-outline d) utf8
