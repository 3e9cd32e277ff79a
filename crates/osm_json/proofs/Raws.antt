-- What an operation that was read is.
use Rattle.std.proofs.Common.{◌≡◌, ℕ, Bool, true, false, List, [], ◌∷◌, Option, Some, None, option_map, Result, Ok, Err, refl, sym, ap, ◌∙◌, subst, ℤ, pos, negsuc, ◌+◌, ◌<◌, ◌≤◌, ◌^◌, arith, codes, length, Vec, Global}
use Rattle.std.specs.Prelude.{All, ◌&&◌, nat_lt, unsigned_abs, unwrap_or, MatchOption, ⊤}
use Rattle.std.proofs.lemmas.Bool.{ltb-true}
use Rattle.std.proofs.lemmas.Int.{ints}
use Rattle.std.specs.Ordering.{int_eq}
use Rattle.std.specs.Result.{IfOk}
use Rattle.std.proofs.lemmas.List.Elements.{All-nil, All-cons}
use Rattle.serde_json.specs.Data.{Data, Items, no_items, item}
use Rattle.serde_json.specs.Find.{get, as_str, as_array, as_number, as_u64}
use Rattle.osm_base.specs.Key.{kind_eq}
use Rattle.osm_base.specs.declared.keys.Kind.{Kind}
use Rattle.osm_base.specs.declared.keys.Kind.TheVariants as kinds
use Rattle.osm_element.specs.declared.contents.Member.{Member as Reference}
use Rattle.osm_element.specs.declared.contents.RawContent.{RawContent}
use Rattle.osm_element.specs.declared.contents.RawContent.TheVariants as contents
use Rattle.osm_change.specs.declared.raw.Action.{Action}
use Rattle.osm_change.specs.declared.raw.Action.TheVariants.{Create, Modify, Delete}
use Rattle.osm_change.specs.declared.raw.RawOp.{RawOp}
use Rattle.osm_json.specs.declared.fault.BodyFault.{BodyFault}
use Rattle.osm_json.specs.Reading.{◌>>=◌, Gives, only_if, needed, optional, if_there, integer_of, is_id, id_of, is_count, count_of, kind_of, given_tags, repeated, single_id, single_of, each_of, list_of, reference_of, content_of, version_of, given_content, operation_of, Step, read_first, operations_from, operations_in, in_json, change_of, data_of, blocks_of, steps_of, Block}
use Rattle.osm_change.specs.Build.{IsReference, IsRawContent, HasContent, IsRawOp, IsRaw}

-- ---- steps that gave something

record Bound {A B : Type 0} (o : Option A) (f : A → Option B) (y : B) : Type 0 where
  value : A
  first : o ≡ Some value
  rest : f value ≡ Some y

bound : {A B : Type 0} (o : Option A) (f : A → Option B) (y : B) → (o >>= f) ≡ Some y → Bound o f y
bound None f y e = cc
bound (Some x) f y e = record { value = x; first = refl; rest = e }

some : {A : Type 0} (x y : A) → Some x ≡ Some y → x ≡ y
some x y e = cc

only : {A : Type 0} (b : Bool) (x y : A) → only_if b x ≡ Some y → (b ≡ true) × (x ≡ y)
only true x y e = (refl, some x y e)
only false x y e = cc

-- ---- ids and counts

both : (a b : Bool) → (a && b) ≡ true → (a ≡ true) × (b ≡ true)
both true b e = (refl, e)
both false b e = cc

by_size : (z : ℤ) → 0 < unsigned_abs z → unsigned_abs z < 2 ^ 63 → IsReference z
by_size (pos n) more less = record { low = omega (arith, ints); high = omega (arith, ints, less); some = λ e. omega (arith, ap unsigned_abs e, more) }
by_size (negsuc n) more less = record { low = omega (arith, ints, less); high = omega (arith, ints); some = λ e. cc }

reference_from_test : (z : ℤ) → is_id z ≡ true → IsReference z
reference_from_test z e =
    let tests = both (nat_lt 0 (unsigned_abs z)) (nat_lt (unsigned_abs z) (2 ^ 63)) e in
    by_size z (ltb-true 0 (unsigned_abs z) tests.0) (ltb-true (unsigned_abs z) (2 ^ 63) tests.1)

abbrev IsVersion : Option ℕ → Type 0
IsVersion v = MatchOption v ⊤ (λ version. (1 ≤ version) × (version < 2 ^ 63))

version_from_test : (n : ℕ) → is_count n ≡ true → IsVersion (Some n)
version_from_test n e =
    let tests = both (nat_lt 0 n) (nat_lt n (2 ^ 63)) e in
    let more : 0 < n = ltb-true 0 n tests.0 in
    (omega (arith, more), ltb-true n (2 ^ 63) tests.1)

id_is : (d : Data) (z : ℤ) → id_of d ≡ Some z → IsReference z
id_is d z e =
    let step = bound (integer_of d) (λ z. only_if (is_id z) z) z e in
    let found = only (is_id step.value) step.value z step.rest in
    subst IsReference found.1 (reference_from_test step.value found.0)

count_is : (d : Data) (n : ℕ) → count_of d ≡ Some n → IsVersion (Some n)
count_is d n e =
    let step = bound (as_number d >>= as_u64) (λ n. only_if (is_count n) n) n e in
    let found = only (is_count step.value) step.value n step.rest in
    subst (λ n. IsVersion (Some n)) found.1 (version_from_test step.value found.0)

needed_is : {A : Type 0} (P : A → Type 0) (name : List ℕ) (reading : Data → Option A) → ((d : Data) (x : A) → reading d ≡ Some x → P x) → (d : Data) (x : A) → needed name reading d ≡ Some x → P x
needed_is P name reading h d x e = let step = bound _ reading x e in h step.value x step.rest

there_is : (m : Option Data) (v : Option ℕ) → if_there count_of m ≡ Some v → IsVersion v
there_is None None e = tt
there_is None (Some n) e = cc
there_is (Some d) v e = mapped (count_of d) refl v e
  where
    mapped : (o : Option ℕ) → count_of d ≡ o → (v : Option ℕ) → option_map Some o ≡ Some v → IsVersion v
    mapped None is v e = cc
    mapped (Some n) is v e = subst IsVersion (some (Some n) v e) (count_is d n is)

version_is : (action : Action) (d : Data) (v : Option ℕ) → version_of action d ≡ Some v → IsVersion v
version_is Create d None e = tt
version_is Create d (Some n) e = cc
version_is Modify d v e = there_is (get (codes "version") d) v e
version_is (Delete if_unused) d v e = there_is (get (codes "version") d) v e

-- ---- lists

each_is : {A : Type 0} (P : A → Type 0) (reading : Data → Option A) → ((d : Data) (x : A) → reading d ≡ Some x → P x) → (items : Items) (xs : List A) → each_of reading items ≡ Some xs → All P xs
each_is P reading h no_items [] e = All-nil P
each_is P reading h no_items (x ∷ xs) e = cc
each_is {A} P reading h (item d more) xs e =
    let first = bound (reading d) (λ x. each_of reading more >>= λ xs. Some (x ∷ xs)) xs e in
    let rest = bound (each_of reading more) (λ xs. Some (first.value ∷ xs)) xs first.rest in
    subst (All P) (some (first.value ∷ rest.value) xs rest.rest)
    (All-cons P first.value rest.value (h d first.value first.first) (each_is P reading h more rest.value rest.first))

list_is : {A : Type 0} (P : A → Type 0) (reading : Data → Option A) → ((d : Data) (x : A) → reading d ≡ Some x → P x) → (d : Data) (xs : List A) → list_of reading d ≡ Some xs → All P xs
list_is P reading h d xs e = let step = bound (as_array d) (each_of reading) xs e in each_is P reading h step.value xs step.rest

reference_from : (kind : Option Kind) (id : Option ℤ) (role : Option (Option (List ℕ))) (m : Reference ℤ)
    → (kind >>= λ k. id >>= λ z. role >>= λ r. Some (record { kind = k; name = z; role = unwrap_or r [] })) ≡ Some m → id ≡ Some m.name
reference_from None id role m e = cc
reference_from (Some k) None role m e = cc
reference_from (Some k) (Some z) None m e = cc
reference_from (Some k) (Some z) (Some r) m e = ap (option_map (λ (m : Reference ℤ). m.name)) e

reference_is : (d : Data) (m : Reference ℤ) → reference_of d ≡ Some m → IsReference m.name
unfolding reference_of
reference_is d m e =
    needed_is IsReference (codes "ref") id_of id_is d m.name
    (reference_from (needed (codes "type") kind_of d) (needed (codes "ref") id_of d) (optional (codes "role") as_str d) m e)

-- ---- contents

position_from : (lat7 lon7 : Option ℤ) (content : RawContent) → (lat7 >>= λ a. lon7 >>= λ b. Some (contents.Node a b)) ≡ Some content → IsRawContent kinds.Node content
position_from None lon7 content e = cc
position_from (Some a) None content e = cc
position_from (Some a) (Some b) content e = subst (IsRawContent kinds.Node) (some (contents.Node a b) content e) tt

nodes_from : (nodes : Option (List ℤ)) (content : RawContent) → ((ids : List ℤ) → nodes ≡ Some ids → All IsReference ids)
    → (nodes >>= λ ids. Some (contents.Way ids)) ≡ Some content → IsRawContent kinds.Way content
nodes_from None content h e = cc
nodes_from (Some ids) content h e = subst (IsRawContent kinds.Way) (some (contents.Way ids) content e) (h ids refl)

members_from : (references : Option (List (Reference ℤ))) (content : RawContent) → ((ms : List (Reference ℤ)) → references ≡ Some ms → All (λ m. IsReference m.name) ms)
    → (references >>= λ ms. Some (contents.Relation ms)) ≡ Some content → IsRawContent kinds.Relation content
members_from None content h e = cc
members_from (Some ms) content h e = subst (IsRawContent kinds.Relation) (some (contents.Relation ms) content e) (h ms refl)

content_is : (kind : Kind) (d : Data) (content : RawContent) → content_of kind d ≡ Some content → IsRawContent kind content
unfolding content_of
content_is kinds.Node d content e = position_from (needed (codes "lat7") integer_of d) (needed (codes "lon7") integer_of d) content e
content_is kinds.Way d content e =
    nodes_from (needed (codes "nodes") (list_of id_of) d) content
    (needed_is (All IsReference) (codes "nodes") (list_of id_of) (list_is IsReference id_of id_is) d) e
content_is kinds.Relation d content e =
    members_from (needed (codes "members") (list_of reference_of) d) content
    (needed_is (All (λ m. IsReference m.name)) (codes "members") (list_of reference_of) (list_is (λ m. IsReference m.name) reference_of reference_is) d) e

mapped_content : (kind : Kind) (d : Data) (o : Option RawContent) (content : Option RawContent) → content_of kind d ≡ o → option_map Some o ≡ Some content → MatchOption content ⊥ (IsRawContent kind)
mapped_content kind d None content is e = cc
mapped_content kind d (Some c) content is e = subst (λ content. MatchOption content ⊥ (IsRawContent kind)) (some (Some c) content e) (content_is kind d c is)

given_is : (action : Action) (kind : Kind) (d : Data) (content : Option RawContent) → given_content action kind d ≡ Some content → HasContent action kind content
given_is Create kind d content e = mapped_content kind d _ content refl e
given_is Modify kind d content e = mapped_content kind d _ content refl e
given_is (Delete if_unused) kind d content e = tt

-- ---- operations

-- the parts of an operation are those that were read
record IsOf (does : Action) (named : Option ℤ) (replaced : Option (Option ℕ)) (holds : Kind → Option (Option RawContent)) (op : RawOp) : Type 0 where
  action : does ≡ op.action
  id : named ≡ Some op.id
  version : replaced ≡ Some op.version
  content : holds op.kind ≡ Some op.content

abbrev operation_from : Action → Option Kind → Option ℤ → Option (Option ℕ) → Option (Option ℕ) → Option (List (List ℕ × List ℕ)) → (Kind → Option (Option RawContent)) → Option RawOp
operation_from action kind id version changeset tags content =
    kind >>= λ k. id >>= λ z. version >>= λ v. changeset >>= λ c. tags >>= λ t. content k >>= λ body.
    Some (record { action = action; kind = k; id = z; version = v; changeset = c; content = body; tags = t })

of_parts : (action : Action) (kind : Option Kind) (id : Option ℤ) (version changeset : Option (Option ℕ)) (tags : Option (List (List ℕ × List ℕ))) (content : Kind → Option (Option RawContent)) (op : RawOp)
    → operation_from action kind id version changeset tags content ≡ Some op → IsOf action id version content op
of_parts action None id version changeset tags content op e = cc
of_parts action (Some k) None version changeset tags content op e = cc
of_parts action (Some k) (Some z) None changeset tags content op e = cc
of_parts action (Some k) (Some z) (Some v) None tags content op e = cc
of_parts action (Some k) (Some z) (Some v) (Some c) None content op e = cc
of_parts action (Some k) (Some z) (Some v) (Some c) (Some t) content op e = last (content k) refl e
  where
    last : (o : Option (Option RawContent)) → content k ≡ o → (o >>= λ body. Some (record { action = action; kind = k; id = z; version = v; changeset = c; content = body; tags = t })) ≡ Some op
        → IsOf action (Some z) (Some v) content op
    last None is e = cc
    last (Some body) is e =
        let same = some (record { action = action; kind = k; id = z; version = v; changeset = c; content = body; tags = t }) op e in
        record {
          action = ap (λ (op : RawOp). op.action) same;
          id = ap (λ (op : RawOp). Some op.id) same;
          version = ap (λ (op : RawOp). Some op.version) same;
          content = ap content (sym (ap (λ (op : RawOp). op.kind) same)) ∙ is ∙ ap (λ (op : RawOp). Some op.content) same;
        }

pub operation_is : (action : Action) (d : Data) (op : RawOp) → operation_of action d ≡ Some op → IsRawOp op
unfolding operation_of
operation_is action d op e =
    let parts = of_parts action (needed (codes "type") kind_of d) (needed (codes "id") id_of d) (version_of action d) (optional (codes "changeset") count_of d) (given_tags action d) (λ kind. given_content action kind d) op e in
    record {
      id = needed_is IsReference (codes "id") id_of id_is d op.id parts.id;
      version = version_is action d op.version parts.version;
      content = subst (λ a. HasContent a op.kind op.content) parts.action (given_is action op.kind d op.content parts.content);
    }

abbrev good : List RawOp → Result (List RawOp) BodyFault
good ops = Ok ops

ok : (a b : List RawOp) → good a ≡ good b → a ≡ b
ok a b e = cc

read_more : (n : ℕ) (o : Option RawOp) (more : Result (List RawOp) BodyFault) (ops : List RawOp) → ((op : RawOp) → o ≡ Some op → IsRawOp op) → ((rest : List RawOp) → more ≡ Ok rest → All IsRawOp rest) → read_first n o more ≡ Ok ops → All IsRawOp ops
read_more n None more ops first rest e = cc
read_more n (Some op) (Ok others) ops first rest e = subst (All IsRawOp) (ok (op ∷ others) ops e) (All-cons IsRawOp op others (first op refl) (rest others refl))
read_more n (Some op) (Err fault) ops first rest e = cc

from_is : (n : ℕ) (steps : List Step) (ops : List RawOp) → operations_from n steps ≡ Ok ops → All IsRawOp ops
unfolding operations_from
from_is n [] ops e = subst (All IsRawOp) (ok [] ops e) (All-nil IsRawOp)
from_is n (step ∷ more) ops e =
    read_more n (operation_of step.0 step.1) (operations_from (n + 1) more) ops (operation_is step.0 step.1) (λ rest r. from_is (n + 1) more rest r) e

pub in_is : (blocks : Option (List Block)) (ops : List RawOp) → operations_in blocks ≡ Ok ops → All IsRawOp ops
in_is None ops e = cc
in_is (Some blocks) ops e = from_is 1 (steps_of blocks) ops e

document_is : (d : Option Data) (ops : List RawOp) → in_json (λ d. operations_in (blocks_of d)) d ≡ Ok ops → All IsRawOp ops
document_is None ops e = cc
document_is (Some d) ops e = in_is (blocks_of d) ops e

-- what an upload's body gives
pub change_is : (body : List ℕ) (ops : List RawOp) → change_of body ≡ Ok ops → All IsRawOp ops
change_is body ops e = document_is (data_of body) ops e

pub raw_of : (body : List ℕ) (r : Result (Vec RawOp Global) BodyFault) → Gives (λ v. v.items) r (change_of body) → IfOk r (λ v. length v.items < 2 ^ 32) → IfOk r (λ v. IsRaw v.items)
raw_of body (Ok v) h few = record { few = few; each = change_is body v.items h }
raw_of body (Err fault) h few = tt

-- ---- the operation of a single element

-- its parts are those that were read
record IsOne (does : Action) (named : Option ℤ) (replaced : Option (Option ℕ)) (holds : Kind → Option (Option RawContent)) (one : ℕ × RawOp) : Type 0 where
  action : does ≡ one.1.action
  id : named ≡ Some one.1.id
  version : replaced ≡ Some one.1.version
  content : holds one.1.kind ≡ Some one.1.content

of_one : (action : Action) (kind : Kind) (same : Option Kind) (id : Option ℤ) (version : Option (Option ℕ)) (changeset : Option ℕ) (tags : Option (List (List ℕ × List ℕ))) (content : Kind → Option (Option RawContent)) (one : ℕ × RawOp)
    → (same >>= λ _. id >>= λ z. version >>= λ v. changeset >>= λ c. tags >>= λ t. content kind >>= λ body.
    Some (c, record { action = action; kind = kind; id = z; version = v; changeset = Some c; content = body; tags = t })) ≡ Some one
    → IsOne action id version content one
of_one action kind None id version changeset tags content one e = cc
of_one action kind (Some k) None version changeset tags content one e = cc
of_one action kind (Some k) (Some z) None changeset tags content one e = cc
of_one action kind (Some k) (Some z) (Some v) None tags content one e = cc
of_one action kind (Some k) (Some z) (Some v) (Some c) None content one e = cc
of_one action kind (Some k) (Some z) (Some v) (Some c) (Some t) content one e = last (content kind) refl e
  where
    made : Option RawContent → ℕ × RawOp
    made body = (c, record { action = action; kind = kind; id = z; version = v; changeset = Some c; content = body; tags = t })

    last : (o : Option (Option RawContent)) → content kind ≡ o → (o >>= λ body. Some (made body)) ≡ Some one → IsOne action (Some z) (Some v) content one
    last None is e = cc
    last (Some body) is e =
        let same = some (made body) one e in
        record {
          action = ap (λ (p : ℕ × RawOp). p.1.action) same;
          id = ap (λ (p : ℕ × RawOp). Some p.1.id) same;
          version = ap (λ (p : ℕ × RawOp). Some p.1.version) same;
          content = ap content (sym (ap (λ (p : ℕ × RawOp). p.1.kind) same)) ∙ is ∙ ap (λ (p : ℕ × RawOp). Some p.1.content) same;
        }

-- a body that repeats the path's id names no other
said_is : (said : Option (Option ℤ)) (id z : ℤ) → (said >>= repeated int_eq id) ≡ Some z → id ≡ z
said_is None id z e = cc
said_is (Some None) id z e = some id z e
said_is (Some (Some other)) id z e = (only (int_eq id other) id z e).1

single_id_is : (action : Action) (id : ℤ) (d : Data) (z : ℤ) → IsReference id → single_id action id d ≡ Some z → IsReference z
single_id_is Create id d z is e = subst IsReference (some (negsuc 0) z e) (by_size (negsuc 0) (omega arith) (omega arith))
single_id_is Modify id d z is e = subst IsReference (said_is (optional (codes "id") id_of d) id z e) is
single_id_is (Delete if_unused) id d z is e = subst IsReference (said_is (optional (codes "id") id_of d) id z e) is

-- what a single element's body gives
pub single_is : (action : Action) (kind : Kind) (id : ℤ) (d : Data) (one : ℕ × RawOp) → IsReference id → single_of action kind id d ≡ Some one → IsRawOp one.1
unfolding single_of
single_is action kind id d one is e =
    let parts = of_one action kind (optional (codes "type") kind_of d >>= repeated kind_eq kind) (single_id action id d) (version_of action d) (needed (codes "changeset") count_of d) (given_tags action d) (λ kind. given_content action kind d) one e in
    record {
      id = single_id_is action id d one.1.id is parts.id;
      version = version_is action d one.1.version parts.version;
      content = subst (λ a. HasContent a one.1.kind one.1.content) parts.action (given_is action one.1.kind d one.1.content parts.content);
    }
