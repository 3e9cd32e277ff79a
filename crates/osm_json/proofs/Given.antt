-- An operation that is written is read as that operation.
use Rattle.std.proofs.Common.{◌≡◌, ℕ, zero, suc, ◌-◌, ◌^◌, ◌<◌, ◌≤◌, ℤ, pos, negsuc, true, nat_lt, List, [], ◌∷◌, ◌++◌, map, codes, Option, Some, None, option_map, Ok, refl, ap, ◌∙◌, arith}
use Rattle.std.specs.Prelude.{All, MatchOption, unwrap_or, ⊤, ◌≤ℤ◌, int_le, Bool, false, if◌then◌else◌, Result, Err}
use Rattle.std.proofs.lemmas.Bool.{lt-ltb, and_from, and_parts}
use Rattle.std.proofs.lemmas.Int.{ints}
use Rattle.std.proofs.lemmas.List.Elements.{All-head, All-tail}
use Rattle.serde_json.specs.Data.{Data}
use Rattle.serde_json.specs.Find.{get, get_member, as_str}
use Rattle.serde_json.specs.View.{items_of}
use Rattle.osm_base.specs.Outcome.{◌>>=◌ as ◌>>>◌}
use Rattle.osm_base.specs.Place.{IsPosition, is_position, is_within}
use Rattle.osm_base.specs.declared.keys.Kind.{Kind}
use Rattle.osm_base.specs.declared.keys.Kind.TheVariants as kinds
use Rattle.osm_element.specs.Limits.{check_tags, check_position, check_named}
use Rattle.osm_element.specs.Tags.{Tag}
use Rattle.osm_element.specs.declared.contents.Content.{Content}
use Rattle.osm_element.specs.declared.contents.Content.TheVariants as content
use Rattle.osm_element.specs.declared.contents.Member.{Member as Reference}
use Rattle.osm_element.specs.declared.contents.RawContent.{RawContent}
use Rattle.osm_element.specs.declared.contents.RawContent.TheVariants as contents
use Rattle.osm_element.specs.declared.faults.LocalFault.{LocalFault}
use Rattle.osm_element.specs.declared.faults.LocalFault.TheVariants.{Position}
use Rattle.osm_change.specs.Build.{IsReference, IsRawContent, IsRawOp}
use Rattle.osm_change.specs.Change.{IsWithinLimits}
use Rattle.osm_change.specs.Document.{content_said, op_said}
use Rattle.osm_change.specs.declared.operations.Name.{Name}
use Rattle.osm_change.specs.declared.operations.Op.{Op}
use Rattle.osm_change.specs.declared.operations.Op.TheVariants as ops
use Rattle.osm_change.specs.declared.raw.Action.{Action}
use Rattle.osm_change.specs.declared.raw.Action.TheVariants.{Create, Modify, Delete}
use Rattle.osm_change.specs.declared.raw.RawOp.{RawOp}
use Rattle.osm_json.specs.Reading.{◌>>=◌, only_if, needed, if_there, optional, integer_of, is_id, id_of, count_of, kind_of, pairs_of, tags_of, each_of, list_of as list_read, reference_of, content_of, version_of, given_tags, given_content, operation_of}
use Rattle.osm_json.specs.Rows.{tag_field, tags as tags_data}
use Rattle.osm_json.specs.Shown.{Field, field, field_if, members_of, record_of, list_of, natural, integer, kind}
use Rattle.osm_json.specs.Uploads.{given_member, content_if_some, tags_if_some, given_op}

-- ---- values

pub integer_again : (z : ℤ) → z ≤ℤ pos (2 ^ 63 - 1) → integer_of (integer z) ≡ Some z
integer_again (pos n) high = let small : n < 2 ^ 63 = omega (arith, ints) in rw (lt-ltb n (2 ^ 63) small) refl
integer_again (negsuc n) high = refl

id_tested : (z : ℤ) → IsReference z → is_id z ≡ true
id_tested (pos zero) is = absurd (is.some refl)
id_tested (pos (suc n)) is =
    let high = is.high in
    let small : suc n < 2 ^ 63 = omega (arith, ints) in
    and_from (nat_lt 0 (suc n)) (nat_lt (suc n) (2 ^ 63)) (lt-ltb 0 (suc n) (omega arith)) (lt-ltb (suc n) (2 ^ 63) small)
id_tested (negsuc n) is =
    let low = is.low in
    let small : suc n < 2 ^ 63 = omega (arith, ints) in
    and_from (nat_lt 0 (suc n)) (nat_lt (suc n) (2 ^ 63)) (lt-ltb 0 (suc n) (omega arith)) (lt-ltb (suc n) (2 ^ 63) small)

id_again : (z : ℤ) → IsReference z → id_of (integer z) ≡ Some z
id_again z is =
    ap (λ (o : Option ℤ). o >>= λ z. only_if (is_id z) z) (integer_again z is.high) ∙ ap (λ b. only_if b z) (id_tested z is)

count_again : (n : ℕ) → 1 ≤ n → n < 2 ^ 63 → count_of (natural n) ≡ Some n
count_again n some small =
    let more : 0 < n = omega arith in
    ap (λ b. only_if b n) (and_from (nat_lt 0 n) (nat_lt n (2 ^ 63)) (lt-ltb 0 n more) (lt-ltb n (2 ^ 63) small))

pub kind_again : (k : Kind) → kind_of (kind k) ≡ Some k
kind_again kinds.Node = refl
kind_again kinds.Way = refl
kind_again kinds.Relation = refl

pairs_again : (ts : List Tag) → pairs_of (members_of (map tag_field ts)) ≡ Some ts
pairs_again [] = refl
pairs_again (t ∷ ts) = ap (λ (o : Option (List Tag)). o >>= λ pairs. Some ((t.0, t.1) ∷ pairs)) (pairs_again ts)

pub tags_again : (ts : List Tag) → tags_of (tags_data ts) ≡ Some ts
unfolding tags_data record_of
tags_again ts = pairs_again ts

module _ {A : Type 0} (shown : A → Data) (reading : Data → Option A) (P : A → Type 0) (same : (x : A) → P x → reading (shown x) ≡ Some x) where
  each_again : (xs : List A) → All P xs → each_of reading (items_of (map shown xs)) ≡ Some xs
  each_again [] h = refl
  each_again (x ∷ xs) h =
      ap (λ (o : Option A). o >>= λ y. each_of reading (items_of (map shown xs)) >>= λ ys. Some (y ∷ ys)) (same x (All-head P x xs h))
      ∙ ap (λ (o : Option (List A)). o >>= λ ys. Some (x ∷ ys)) (each_again xs (All-tail P x xs h))

  pub list_again : (xs : List A) → All P xs → list_read reading (list_of shown xs) ≡ Some xs
  unfolding list_of
  list_again xs h = each_again xs h

-- ---- a relation's member

reference_by_parts : (d : Data) (m : Reference ℤ) (role : Option (List ℕ)) → needed (codes "type") kind_of d ≡ Some m.kind → needed (codes "ref") id_of d ≡ Some m.name → optional (codes "role") as_str d ≡ Some role → unwrap_or role [] ≡ m.role
    → reference_of d ≡ Some m
unfolding reference_of
reference_by_parts d m role k n r same =
    ap (λ (o : Option Kind). o >>= λ k. needed (codes "ref") id_of d >>= λ z. optional (codes "role") as_str d >>= λ r. Some (record { kind = k; name = z; role = unwrap_or r [] })) k
    ∙ ap (λ (o : Option ℤ). o >>= λ z. optional (codes "role") as_str d >>= λ r. Some (record { kind = m.kind; name = z; role = unwrap_or r [] })) n
    ∙ ap (λ (o : Option (Option (List ℕ))). o >>= λ r. Some (record { kind = m.kind; name = m.name; role = unwrap_or r [] })) r
    ∙ ap (λ (text : List ℕ). Some (record { kind = m.kind; name = m.name; role = text })) same

member_parts : (k : Kind) (z : ℤ) (role : List ℕ) → IsReference z → reference_of (given_member (record { kind = k; name = z; role = role })) ≡ Some (record { kind = k; name = z; role = role })
unfolding given_member record_of
member_parts k z [] is = reference_by_parts _ (record { kind = k; name = z; role = [] }) None (kind_again k) (id_again z is) refl refl
member_parts k z (c ∷ text) is = reference_by_parts _ (record { kind = k; name = z; role = c ∷ text }) (Some (c ∷ text)) (kind_again k) (id_again z is) refl refl

member_again : (m : Reference ℤ) → IsReference m.name → reference_of (given_member m) ≡ Some m
member_again m is = member_parts m.kind m.name m.role is

-- ---- the members of an operation

-- those behind the content
abbrev pub tail : List Tag → Kind → Option ℕ → List Field
tail ts k v = tags_if_some ts ∷ field (codes "type") (kind k) ∷ field_if (codes "version") natural v ∷ []

abbrev tags_there : List Tag → Option Data
tags_there [] = None
tags_there (t ∷ ts) = Some (tags_data (t ∷ ts))

abbrev InTail : List Tag → Kind → Option ℕ → Type 0
InTail ts k v =
    (get_member (codes "type") (members_of (tail ts k v)) ≡ Some (kind k))
    × (get_member (codes "version") (members_of (tail ts k v)) ≡ option_map natural v)
    × (get_member (codes "tags") (members_of (tail ts k v)) ≡ tags_there ts)
    × (get_member (codes "changeset") (members_of (tail ts k v)) ≡ None)

in_tail : (ts : List Tag) (k : Kind) (v : Option ℕ) → InTail ts k v
in_tail [] k None = (refl, refl, refl, refl)
in_tail [] k (Some n) = (refl, refl, refl, refl)
in_tail (t ∷ ts) k None = (refl, refl, refl, refl)
in_tail (t ∷ ts) k (Some n) = (refl, refl, refl, refl)

-- no content has a member of that name
abbrev Passes : List ℕ → Option RawContent → List Field → Type 0
Passes name c rest = get_member name (members_of (content_if_some c ++ rest)) ≡ get_member name (members_of rest)

abbrev PassesAll : Option RawContent → List Field → Type 0
PassesAll c rest = Passes (codes "type") c rest × Passes (codes "version") c rest × Passes (codes "tags") c rest × Passes (codes "changeset") c rest

passes : (c : Option RawContent) (rest : List Field) → PassesAll c rest
passes None rest = (refl, refl, refl, refl)
passes (Some (contents.Node lat7 lon7)) rest = (refl, refl, refl, refl)
passes (Some (contents.Way nodes)) rest = (refl, refl, refl, refl)
passes (Some (contents.Relation members)) rest = (refl, refl, refl, refl)

abbrev pub whole : ℤ → Option RawContent → List Tag → Kind → Option ℕ → Data
whole id c ts k v = record_of (field (codes "id") (integer id) ∷ (content_if_some c ++ tail ts k v))

module _ (id : ℤ) (c : Option RawContent) (ts : List Tag) (k : Kind) (v : Option ℕ) where
  type_read : needed (codes "type") kind_of (whole id c ts k v) ≡ Some k
  unfolding record_of
  type_read = ap (λ (o : Option Data). o >>= kind_of) ((passes c (tail ts k v)).0 ∙ (in_tail ts k v).0) ∙ kind_again k

  id_read : IsReference id → needed (codes "id") id_of (whole id c ts k v) ≡ Some id
  unfolding record_of
  id_read is = id_again id is

  version_there : get (codes "version") (whole id c ts k v) ≡ option_map natural v
  unfolding record_of
  version_there = (passes c (tail ts k v)).1 ∙ (in_tail ts k v).1

  tags_found : get (codes "tags") (whole id c ts k v) ≡ tags_there ts
  unfolding record_of
  tags_found = (passes c (tail ts k v)).2 ∙ (in_tail ts k v).2

  changeset_read : optional (codes "changeset") count_of (whole id c ts k v) ≡ Some None
  unfolding record_of
  changeset_read = ap (λ (o : Option Data). if_there count_of o) ((passes c (tail ts k v)).3 ∙ (in_tail ts k v).3)

version_read : (v : Option ℕ) (o : Option Data) → o ≡ option_map natural v → MatchOption v ⊤ (λ n. (1 ≤ n) × (n < 2 ^ 63)) → if_there count_of o ≡ Some v
version_read None o e is = ap (if_there count_of) e
version_read (Some n) o e is = ap (if_there count_of) e ∙ ap (option_map Some) (count_again n is.0 is.1)

abbrev or_none : Option (Option (List Tag)) → Option (List Tag)
or_none o = option_map (λ tags. unwrap_or tags []) o

tags_read : (ts : List Tag) (o : Option Data) → o ≡ tags_there ts → or_none (if_there tags_of o) ≡ Some ts
tags_read [] o e = ap (λ (o : Option Data). or_none (if_there tags_of o)) e
tags_read (t ∷ ts) o e = ap (λ (o : Option Data). or_none (if_there tags_of o)) e ∙ ap (λ (o : Option (List Tag)). or_none (option_map Some o)) (tags_again (t ∷ ts))

-- ---- contents

-- whole numbers of 64 bits
abbrev pub IsInRange : RawContent → Type 0
IsInRange (contents.Node lat7 lon7) = (lat7 ≤ℤ pos (2 ^ 63 - 1)) × (lon7 ≤ℤ pos (2 ^ 63 - 1))
IsInRange (contents.Way nodes) = Unit {0}
IsInRange (contents.Relation members) = Unit {0}

content_read : (k : Kind) (content : RawContent) (id : ℤ) (ts : List Tag) (kind : Kind) (v : Option ℕ) → IsRawContent k content → IsInRange content → content_of k (whole id (Some content) ts kind v) ≡ Some content
unfolding content_of record_of
content_read kinds.Node (contents.Node lat7 lon7) id ts kind v is fits =
    ap (λ (o : Option ℤ). o >>= λ a. integer_of (integer lon7) >>= λ b. Some (contents.Node a b)) (integer_again lat7 fits.0)
    ∙ ap (λ (o : Option ℤ). o >>= λ b. Some (contents.Node lat7 b)) (integer_again lon7 fits.1)
content_read kinds.Node (contents.Way nodes) id ts kind v is fits = absurd is
content_read kinds.Node (contents.Relation members) id ts kind v is fits = absurd is
content_read kinds.Way (contents.Node lat7 lon7) id ts kind v is fits = absurd is
content_read kinds.Way (contents.Way nodes) id ts kind v is fits =
    ap (λ (o : Option (List ℤ)). o >>= λ ids. Some (contents.Way ids)) (list_again integer id_of IsReference id_again nodes is)
content_read kinds.Way (contents.Relation members) id ts kind v is fits = absurd is
content_read kinds.Relation (contents.Node lat7 lon7) id ts kind v is fits = absurd is
content_read kinds.Relation (contents.Way nodes) id ts kind v is fits = absurd is
content_read kinds.Relation (contents.Relation members) id ts kind v is fits =
    ap (λ (o : Option (List (Reference ℤ))). o >>= λ ms. Some (contents.Relation ms)) (list_again given_member reference_of (λ m. IsReference m.name) member_again members is)

-- ---- operations

op_by_parts : (action : Action) (d : Data) (r : RawOp) → action ≡ r.action → needed (codes "type") kind_of d ≡ Some r.kind → needed (codes "id") id_of d ≡ Some r.id → version_of action d ≡ Some r.version
    → optional (codes "changeset") count_of d ≡ Some r.changeset → given_tags action d ≡ Some r.tags → given_content action r.kind d ≡ Some r.content → operation_of action d ≡ Some r
unfolding operation_of
op_by_parts action d r does k id v cs ts c =
    ap (λ (o : Option Kind). o >>= λ k. needed (codes "id") id_of d >>= λ id. version_of action d >>= λ v. optional (codes "changeset") count_of d >>= λ cs. given_tags action d >>= λ ts. given_content action k d >>= λ c.
    Some (record { action = action; kind = k; id = id; version = v; changeset = cs; content = c; tags = ts })) k
    ∙ ap (λ (o : Option ℤ). o >>= λ id. version_of action d >>= λ v. optional (codes "changeset") count_of d >>= λ cs. given_tags action d >>= λ ts. given_content action r.kind d >>= λ c.
    Some (record { action = action; kind = r.kind; id = id; version = v; changeset = cs; content = c; tags = ts })) id
    ∙ ap (λ (o : Option (Option ℕ)). o >>= λ v. optional (codes "changeset") count_of d >>= λ cs. given_tags action d >>= λ ts. given_content action r.kind d >>= λ c.
    Some (record { action = action; kind = r.kind; id = r.id; version = v; changeset = cs; content = c; tags = ts })) v
    ∙ ap (λ (o : Option (Option ℕ)). o >>= λ cs. given_tags action d >>= λ ts. given_content action r.kind d >>= λ c.
    Some (record { action = action; kind = r.kind; id = r.id; version = r.version; changeset = cs; content = c; tags = ts })) cs
    ∙ ap (λ (o : Option (List Tag)). o >>= λ ts. given_content action r.kind d >>= λ c.
    Some (record { action = action; kind = r.kind; id = r.id; version = r.version; changeset = r.changeset; content = c; tags = ts })) ts
    ∙ ap (λ (o : Option (Option RawContent)). o >>= λ c.
    Some (record { action = action; kind = r.kind; id = r.id; version = r.version; changeset = r.changeset; content = c; tags = r.tags })) c
    ∙ ap (λ (a : Action). Some (record { action = a; kind = r.kind; id = r.id; version = r.version; changeset = r.changeset; content = r.content; tags = r.tags })) does

int_le-holds : (a b : ℤ) → int_le a b ≡ true → a ≤ℤ b
int_le-holds a b e = grind (arith, ints)

is_position-holds : (lat7 lon7 : ℤ) → is_position lat7 lon7 ≡ true → IsPosition lat7 lon7
is_position-holds lat7 lon7 e =
    let both = and_parts (is_within (negsuc 899999999) lat7 (pos 900000000)) (is_within (negsuc 1799999999) lon7 (pos 1800000000)) e in
    let lat = and_parts (int_le (negsuc 899999999) lat7) (int_le lat7 (pos 900000000)) both.0 in
    let lon = and_parts (int_le (negsuc 1799999999) lon7) (int_le lon7 (pos 1800000000)) both.1 in
    record {
      south = int_le-holds (negsuc 899999999) lat7 lat.0;
      north = int_le-holds lat7 (pos 900000000) lat.1;
      west = int_le-holds (negsuc 1799999999) lon7 lon.0;
      east = int_le-holds lon7 (pos 1800000000) lon.1;
    }

abbrev checked : Bool → Result (Unit {0}) LocalFault
checked b = if b then Ok tt else Err Position

pub on_globe : (lat7 lon7 : ℤ) → check_position lat7 lon7 ≡ Ok tt → IsPosition lat7 lon7
on_globe lat7 lon7 e = by (is_position lat7 lon7) refl e
  where
    by : (b : Bool) → is_position lat7 lon7 ≡ b → checked b ≡ checked true → IsPosition lat7 lon7
    by true on e = is_position-holds lat7 lon7 on
    by false on e = cc

pub behind : (first second : Result (Unit {0}) LocalFault) → (first >>> λ done. second) ≡ Ok tt → second ≡ Ok tt
behind (Ok done) second e = e
behind (Err fault) second e = cc

in_range : (all : List Op) (tags : List Tag) (c : Content Name) → check_named tags c ≡ Ok tt → IsInRange (content_said all c)
in_range all tags (content.Node at) e =
    let on = on_globe at.lat7 at.lon7 (behind (check_tags tags) (check_position at.lat7 at.lon7) e) in
    let north = on.north in
    let east = on.east in
    (omega (arith, ints), omega (arith, ints))
in_range all tags (content.Way nodes) e = tt
in_range all tags (content.Relation members) e = tt

pub op_again : (all : List Op) (o : Op) → IsRawOp (op_said all o) → IsWithinLimits o → operation_of (op_said all o).action (given_op (op_said all o)) ≡ Some (op_said all o)
unfolding given_op
op_again all (ops.Create placeholder content tags) is within =
    let r = op_said all (ops.Create placeholder content tags) in
    op_by_parts Create _ r refl (type_read r.id r.content r.tags r.kind r.version) (id_read r.id r.content r.tags r.kind r.version is.id) refl
    (changeset_read r.id r.content r.tags r.kind r.version)
    (tags_read r.tags _ (tags_found r.id r.content r.tags r.kind r.version))
    (ap (option_map Some) (content_read r.kind (content_said all content) r.id r.tags r.kind r.version is.content (in_range all tags content within)))
op_again all (ops.Modify name version content tags) is within =
    let r = op_said all (ops.Modify name version content tags) in
    op_by_parts Modify _ r refl (type_read r.id r.content r.tags r.kind r.version) (id_read r.id r.content r.tags r.kind r.version is.id)
    (version_read r.version _ (version_there r.id r.content r.tags r.kind r.version) is.version)
    (changeset_read r.id r.content r.tags r.kind r.version)
    (tags_read r.tags _ (tags_found r.id r.content r.tags r.kind r.version))
    (ap (option_map Some) (content_read r.kind (content_said all content) r.id r.tags r.kind r.version is.content (in_range all tags content within)))
op_again all (ops.Delete kind name version if_unused) is within =
    let r = op_said all (ops.Delete kind name version if_unused) in
    op_by_parts (Delete if_unused) _ r refl (type_read r.id r.content r.tags r.kind r.version) (id_read r.id r.content r.tags r.kind r.version is.id)
    (version_read r.version _ (version_there r.id r.content r.tags r.kind r.version) is.version)
    (changeset_read r.id r.content r.tags r.kind r.version)
    refl
    refl
