-- Operations that are written one after another.
use Rattle.std.proofs.Common.{◌≡◌, codes, length, List, [], ◌∷◌, ◌++◌, Option, Some, None, map, flat_map, refl, sym, ap, ◌∙◌, append_assoc, append-nil, arith}
use Rattle.std.specs.Prelude.{All, Result, Ok, Err}
use Rattle.std.proofs.lemmas.List.Elements.{All-nil, All-cons, All-head, All-tail}
use Rattle.json.specs.Token.{Token}
use Rattle.json.specs.Written.{Written}
use Rattle.serde_json.specs.Data.{array}
use Rattle.serde_json.specs.View.{items_of}
use Rattle.osm_element.specs.declared.contents.Member.{Member}
use Rattle.osm_change.specs.Change.{named, named_member}
use Rattle.osm_change.specs.Document.{member_said, op_said, document_of}
use Rattle.osm_change.specs.Said.{IsSaid, said}
use Rattle.osm_base.specs.declared.keys.Kind.TheVariants.{Node}
use Rattle.osm_change.specs.declared.operations.Name.{Name}
use Rattle.osm_change.specs.declared.operations.Op.{Op}
use Rattle.osm_change.specs.declared.raw.Action.{Action}
use Rattle.osm_json.specs.Blocks.{closed, turned, left}
use Rattle.osm_json.specs.Reading.{Step}
use Rattle.osm_json.specs.Sent.{tokens_of, field_tokens, Appends, AppendsFields, Sends}
use Rattle.osm_json.specs.Shown.{Field, field, integer, list_of}
use Rattle.osm_element.specs.Tags.{Tag}
use Rattle.osm_json.specs.Rows.{tags as tags_data}
use Rattle.osm_json.specs.Uploads.{tags_if_some, given_member, given_block, given_op, in_blocks, step_of}
use Rattle.osm_json.proofs.Grouped.{left_all}
use Rattle.osm_json.proofs.Tokens.{◌⨾◌}

map-map : {A B C : Type 0} (f : B → C) (g : A → B) (xs : List A) → map (λ x. f (g x)) xs ≡ map f (map g xs)
map-map f g [] = refl
map-map f g (x ∷ xs) = ap (λ ys. f (g x) ∷ ys) (map-map f g xs)

pub names_listed_so : (ops : List Op) (names : List Name) → list_of (λ name. integer (said ops name)) names ≡ list_of integer (map (said ops) names)
unfolding list_of
names_listed_so ops names = ap (λ ds. array (items_of ds)) (map-map integer (said ops) names)

pub members_listed_so : (ops : List Op) (members : List (Member Name)) → list_of (λ m. given_member (member_said ops m)) members ≡ list_of given_member (map (member_said ops) members)
unfolding list_of
members_listed_so ops members = ap (λ ds. array (items_of ds)) (map-map given_member (member_said ops) members)

pub nodes_said : (ops : List Op) (names : List Name) → All (λ given. IsSaid ops given.name) (map (named Node) names) → All (IsSaid ops) names
nodes_said ops [] h = All-nil (IsSaid ops)
nodes_said ops (x ∷ xs) h =
    All-cons (IsSaid ops) x xs (All-head (λ given. IsSaid ops given.name) (named Node x) (map (named Node) xs) h) (nodes_said ops xs (All-tail (λ given. IsSaid ops given.name) (named Node x) (map (named Node) xs) h))

pub members_said : (ops : List Op) (members : List (Member Name)) → All (λ given. IsSaid ops given.name) (map named_member members) → All (λ m. IsSaid ops m.name) members
members_said ops [] h = All-nil (λ m. IsSaid ops m.name)
members_said ops (x ∷ xs) h =
    All-cons (λ m. IsSaid ops m.name) x xs (All-head (λ given. IsSaid ops given.name) (named_member x) (map named_member xs) h) (members_said ops xs (All-tail (λ given. IsSaid ops given.name) (named_member x) (map named_member xs) h))

-- one member, as tokens
pub field_sent : {a b : Written} (f : Field) → AppendsFields a b (f ∷ []) → Appends a b (field_tokens f)
field_sent {a} {b} f p = record { before = p.before; tokens = p.tokens ∙ ap (λ ts. a.tokens ++ ts) (append-nil (field_tokens f)) }

-- the steps of some operations of a change
abbrev pub steps : List Op → List Op → List Step
steps all ops = map step_of (map (op_said all) ops)

-- what was written, and what is still to be written, make the whole
pub record IsUnder (all : List Op) (last : Option Action) (rest : List Op) (a b : Written) : Type 0 where
  pub tokens : List Token
  pub written : Appends a b tokens
  pub whole : tokens ++ left last (steps all rest) ≡ left None (steps all all)

pub none_written : (all rest : List Op) (a : Written) → rest ≡ all → IsUnder all None rest a a
none_written all rest a same = record {
  tokens = [];
  written = record { before = refl; tokens = sym (append-nil a.tokens) };
  whole = ap (λ os. left None (steps all os)) same;
}

pub one_written : (all : List Op) (last : Option Action) (o : Op) (rest now : List Op) (act : Action) (a b c d : Written) → now ≡ o ∷ rest → (op_said all o).action ≡ act → IsUnder all last now a b → Appends b c (turned last act) → Appends c d (tokens_of (given_op (op_said all o)))
    → IsUnder all (Some act) rest a d
one_written all last o rest now act a b c d here does under turn op = record {
  tokens = under.tokens ++ (turned last act ++ tokens_of (given_op (op_said all o)));
  written = under.written ⨾ turn ⨾ op;
  whole =
      append_assoc under.tokens (turned last act ++ tokens_of (given_op (op_said all o))) (left (Some act) (steps all rest))
      ∙ ap (λ ts. under.tokens ++ ts) (append_assoc (turned last act) (tokens_of (given_op (op_said all o))) (left (Some act) (steps all rest)))
      ∙ ap (λ (t : Action). under.tokens ++ (turned last t ++ (tokens_of (given_op (op_said all o)) ++ left (Some t) (steps all rest)))) (sym does)
      ∙ ap (λ os. under.tokens ++ left last (steps all os)) (sym here)
      ∙ under.whole;
}

abbrev pub blocks_tokens : List Op → List Token
blocks_tokens all = flat_map (λ b. tokens_of (given_block b)) (in_blocks (map step_of (document_of all)))

pub none_left : (all rest : List Op) (a b : Written) → rest ≡ [] → IsUnder all None rest a b → Appends a b (blocks_tokens all)
none_left all rest a b over under = record {
  before = under.written.before;
  tokens = under.written.tokens ∙ ap (λ ts. a.tokens ++ ts) (sym (append-nil under.tokens) ∙ ap (λ os. under.tokens ++ left None (steps all os)) (sym over) ∙ under.whole ∙ left_all (steps all all));
}

pub last_closed : (all : List Op) (act : Action) (rest : List Op) (a b c : Written) → rest ≡ [] → IsUnder all (Some act) rest a b → Appends b c (closed act) → Appends a c (blocks_tokens all)
last_closed all act rest a b c over under close =
    let both = under.written ⨾ close in
    record {
      before = both.before;
      tokens = both.tokens ∙ ap (λ ts. a.tokens ++ ts) (ap (λ os. under.tokens ++ left (Some act) (steps all os)) (sym over) ∙ under.whole ∙ left_all (steps all all));
    }

pub last_sends : {E : Type 0} (result : Result (Unit {0}) E) (all : List Op) (act : Action) (rest : List Op) (a b c : Written) → rest ≡ [] → IsUnder all (Some act) rest a b → Sends result b c (closed act) → Sends result a c (blocks_tokens all)
last_sends (Ok done) all act rest a b c over under close = last_closed all act rest a b c over under close
last_sends (Err fault) all act rest a b c over under close = tt

-- ---- tags

pub no_tags : (ts : List Tag) → length ts ≡ 0 → tags_if_some ts ≡ None
no_tags [] e = refl
no_tags (t ∷ ts) e = absurd (omega arith)

pub some_tags : (ts : List Tag) → (length ts ≡ 0 → ⊥) → tags_if_some ts ≡ field (codes "tags") (tags_data ts)
some_tags [] some = absurd (some refl)
some_tags (t ∷ ts) some = refl
