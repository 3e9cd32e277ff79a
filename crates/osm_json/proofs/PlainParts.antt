-- What is written for tags and for changes is plain, and nests as deep as blocks do.
use Rattle.std.proofs.Common.{◌≡◌, ℕ, suc, ◌^◌, ◌<◌, ◌≤◌, ℤ, pos, negsuc, Bool, true, false, List, [], ◌∷◌, ◌++◌, map, codes, Option, Some, None, refl, arith}
use Rattle.std.specs.Prelude.{All, MatchOption, ⊤, if◌then◌else◌}
use Rattle.std.proofs.lemmas.Int.{ints}
use Rattle.std.proofs.lemmas.List.Elements.{All-nil, All-cons, All-head, All-tail}
use Rattle.std.specs.Cmp.Lexicographic.{slice_cmp}
use Rattle.std.specs.List.{AllByRecursion}
use Rattle.std.specs.List.Sorted.{IsStrictlySortedBy}
use Rattle.std.specs.Ordering.{nat_cmp}
use Rattle.std.specs.declared.cmp.Ordering.TheVariants.{Less}
use Rattle.serde_json.specs.Data.{Data, array, Items, no_items, item, Members, depth, items_depth, members_depth}
use Rattle.serde_json.specs.Find.{of_integer}
use Rattle.serde_json.specs.View.{items_of}
use Rattle.osm_base.specs.declared.keys.Kind.{Kind}
use Rattle.osm_element.specs.Tags.{Tag, KeysRise}
use Rattle.osm_element.specs.declared.contents.Member.{Member as Reference}
use Rattle.osm_element.specs.declared.contents.RawContent.{RawContent}
use Rattle.osm_element.specs.declared.contents.RawContent.TheVariants as contents
use Rattle.osm_change.specs.Build.{IsReference}
use Rattle.osm_change.specs.declared.raw.Action.{Action}
use Rattle.osm_change.specs.declared.raw.Action.TheVariants.{Create, Modify, Delete}
use Rattle.osm_change.specs.declared.raw.RawOp.{RawOp}
use Rattle.osm_json.specs.Again.{IsShort, IsBefore, IsPlainData, ArePlainItems, ArePlainMembers}
use Rattle.osm_json.specs.Reading.{Block, Step}
use Rattle.osm_json.specs.Rows.{tag_field, tags as tags_data}
use Rattle.osm_json.specs.Shown.{members_of, record_of, list_of, integer}
use Rattle.osm_json.specs.Uploads.{given_member, content_if_some, given_op, action_eq, block_with, before_blocks, in_blocks, given_block, step_of, given_ops}
use Rattle.osm_json.proofs.Given.{tail}

-- plain, and no deeper than the number
pub record IsFlatter (n : ℕ) (d : Data) : Type 0 where
  pub plain : IsPlainData d
  pub shallow : depth d ≤ n

-- ---- lists

abbrev AllItems : (Data → Type 0) → Items → Type 0
AllItems P no_items = Unit {0}
AllItems P (item d ds) = P d × AllItems P ds

items_flatter : (n : ℕ) (ds : Items) → AllItems (IsFlatter n) ds → IsFlatter (suc n) (array ds)
items_flatter n ds h = record { plain = plain_items ds h; shallow = let low = shallow_items ds h in omega arith }
  where
    plain_items : (ds : Items) → AllItems (IsFlatter n) ds → ArePlainItems ds
    plain_items no_items h = tt
    plain_items (item d ds) h = (h.0.plain, plain_items ds h.1)

    shallow_items : (ds : Items) → AllItems (IsFlatter n) ds → items_depth ds ≤ n
    shallow_items no_items h = omega arith
    shallow_items (item d ds) h = let low = shallow_items ds h.1 in let here = h.0.shallow in omega arith

all_shown : {A : Type 0} (P : Data → Type 0) (Q : A → Type 0) (shown : A → Data) → ((x : A) → Q x → P (shown x)) → (xs : List A) → All Q xs → AllItems P (items_of (map shown xs))
all_shown P Q shown f [] h = tt
all_shown P Q shown f (x ∷ xs) h = (f x (All-head Q x xs h), all_shown P Q shown f xs (All-tail Q x xs h))

list_flatter : {A : Type 0} (n : ℕ) (Q : A → Type 0) (shown : A → Data) → ((x : A) → Q x → IsFlatter n (shown x)) → (xs : List A) → All Q xs → IsFlatter (suc n) (list_of shown xs)
unfolding list_of
list_flatter n Q shown f xs h = items_flatter n (items_of (map shown xs)) (all_shown (IsFlatter n) Q shown f xs h)

-- ---- values

short : (z : ℤ) → IsReference z → IsShort (of_integer z)
short (pos n) is = let high = is.high in omega (arith, ints)
short (negsuc n) is = let low = is.low in omega (arith, ints)

reference_flatter : (z : ℤ) → IsReference z → IsFlatter 0 (integer z)
reference_flatter z is = record { plain = short z is; shallow = omega arith }

-- ---- tags

below_all : (key : List ℕ) (ts : List Tag) → AllByRecursion (λ y. slice_cmp nat_cmp key y ≡ Less) (map (λ p. p.0) ts) → IsBefore key (members_of (map tag_field ts))
below_all key [] h = tt
below_all key (t ∷ ts) h = (h.0, below_all key ts h.1)

plain_tags : (ts : List Tag) → KeysRise ts → ArePlainMembers (members_of (map tag_field ts))
unfolding IsStrictlySortedBy
plain_tags [] h = tt
plain_tags (t ∷ ts) h = (below_all t.0 ts h.0, tt, plain_tags ts h.1)

shallow_tags : (ts : List Tag) → members_depth (members_of (map tag_field ts)) ≤ 0
shallow_tags [] = omega arith
shallow_tags (t ∷ ts) = let low = shallow_tags ts in omega arith

pub tags_flatter : (ts : List Tag) → KeysRise ts → IsFlatter 1 (tags_data ts)
unfolding tags_data record_of
tags_flatter ts h = record { plain = plain_tags ts h; shallow = let low = shallow_tags ts in omega arith }

-- ---- a relation's member

member_parts : (k : Kind) (z : ℤ) (role : List ℕ) → IsReference z → IsFlatter 1 (given_member (record { kind = k; name = z; role = role }))
unfolding given_member record_of
member_parts k z [] is = record { plain = ((refl, tt), short z is, (tt, tt, tt)); shallow = omega arith }
member_parts k z (c ∷ text) is = record { plain = ((refl, (refl, tt)), short z is, ((refl, tt), tt, (tt, tt, tt))); shallow = omega arith }

member_flatter : (m : Reference ℤ) → IsReference m.name → IsFlatter 1 (given_member m)
member_flatter m is = member_parts m.kind m.name m.role is

-- ---- an operation

-- members that are plain and no deeper than the number
record AreFlatter (n : ℕ) (ms : Members) : Type 0 where
  plain : ArePlainMembers ms
  shallow : members_depth ms ≤ n

abbrev IsVersion : Option ℕ → Type 0
IsVersion v = MatchOption v ⊤ (λ version. (1 ≤ version) × (version < 2 ^ 63))

-- the name stands before those of the tail
abbrev Leads : List ℕ → Type 0
Leads name = (slice_cmp nat_cmp name (codes "tags") ≡ Less) × (slice_cmp nat_cmp name (codes "type") ≡ Less) × (slice_cmp nat_cmp name (codes "version") ≡ Less)

leads : (name : List ℕ) (ts : List Tag) (k : Kind) (v : Option ℕ) → Leads name → IsBefore name (members_of (tail ts k v))
leads name [] k None h = (h.1, tt)
leads name [] k (Some n) h = (h.1, (h.2, tt))
leads name (t ∷ ts) k None h = (h.0, (h.1, tt))
leads name (t ∷ ts) k (Some n) h = (h.0, (h.1, (h.2, tt)))

tail_flatter : (ts : List Tag) (k : Kind) (v : Option ℕ) → KeysRise ts → IsVersion v → AreFlatter 1 (members_of (tail ts k v))
tail_flatter [] k None rise is = record { plain = (tt, tt, tt); shallow = omega arith }
tail_flatter [] k (Some n) rise is = let small : n < 2 ^ 64 = let h = is.1 in omega arith in record { plain = ((refl, tt), tt, (tt, small, tt)); shallow = omega arith }
tail_flatter (t ∷ ts) k None rise is = let low = tags_flatter (t ∷ ts) rise in let at = low.shallow in record { plain = ((refl, tt), low.plain, (tt, tt, tt)); shallow = omega arith }
tail_flatter (t ∷ ts) k (Some n) rise is =
    let low = tags_flatter (t ∷ ts) rise in
    let at = low.shallow in
    let small : n < 2 ^ 64 = let h = is.1 in omega arith in
    record { plain = ((refl, (refl, tt)), low.plain, ((refl, tt), tt, (tt, small, tt))); shallow = omega arith }

-- the numbers of a content are short
abbrev pub HasShort : RawContent → Type 0
HasShort (contents.Node lat7 lon7) = IsShort (of_integer lat7) × IsShort (of_integer lon7)
HasShort (contents.Way nodes) = All IsReference nodes
HasShort (contents.Relation members) = All (λ m. IsReference m.name) members

abbrev pub HasShortIf : Option RawContent → Type 0
HasShortIf None = Unit {0}
HasShortIf (Some c) = HasShort c

rest_flatter : (c : Option RawContent) (ts : List Tag) (k : Kind) (v : Option ℕ) → HasShortIf c → KeysRise ts → IsVersion v
    → AreFlatter 2 (members_of (content_if_some c ++ tail ts k v)) × IsBefore (codes "id") (members_of (content_if_some c ++ tail ts k v))
rest_flatter None ts k v h rise is =
    let low = tail_flatter ts k v rise is in
    let at = low.shallow in
    (record { plain = low.plain; shallow = omega arith }, leads (codes "id") ts k v (refl, refl, refl))
rest_flatter (Some (contents.Node lat7 lon7)) ts k v h rise is =
    let low = tail_flatter ts k v rise is in
    let at = low.shallow in (
      record {
        plain = ((refl, leads (codes "lat7") ts k v (refl, refl, refl)), h.0, (leads (codes "lon7") ts k v (refl, refl, refl), h.1, low.plain));
        shallow = omega arith;
      },
      (refl, (refl, leads (codes "id") ts k v (refl, refl, refl))),
    )
rest_flatter (Some (contents.Way nodes)) ts k v h rise is =
    let low = tail_flatter ts k v rise is in
    let at = low.shallow in
    let inner = list_flatter 0 IsReference integer reference_flatter nodes h in
    let deep = inner.shallow in
    (record { plain = (leads (codes "nodes") ts k v (refl, refl, refl), inner.plain, low.plain); shallow = omega arith }, (refl, leads (codes "id") ts k v (refl, refl, refl)))
rest_flatter (Some (contents.Relation members)) ts k v h rise is =
    let low = tail_flatter ts k v rise is in
    let at = low.shallow in
    let inner = list_flatter 1 (λ m. IsReference m.name) given_member member_flatter members h in
    let deep = inner.shallow in
    (record { plain = (leads (codes "members") ts k v (refl, refl, refl), inner.plain, low.plain); shallow = omega arith }, (refl, leads (codes "id") ts k v (refl, refl, refl)))

pub record HasShortParts (r : RawOp) : Type 0 where
  pub id : IsReference r.id
  pub version : IsVersion r.version
  pub content : HasShortIf r.content
  pub tags : KeysRise r.tags

op_flatter : (r : RawOp) → HasShortParts r → IsFlatter 3 (given_op r)
unfolding given_op record_of
op_flatter r h =
    let rest = rest_flatter r.content r.tags r.kind r.version h.content h.tags h.version in
    let at = rest.0.shallow in
    record { plain = (rest.1, short r.id h.id, rest.0.plain); shallow = omega arith }

-- ---- blocks

abbrev HasFlat : Block → Type 0
HasFlat b = AllItems (IsFlatter 3) b.elements

either_flat : (same : Bool) (s : Step) (b : Block) (bs : List Block) → IsFlatter 3 s.1 → All HasFlat (b ∷ bs)
    → All HasFlat (if same then (record { action = b.action; elements = item s.1 b.elements }) ∷ bs else block_with s ∷ b ∷ bs)
either_flat true s b bs flat h = All-cons HasFlat _ bs (flat, All-head HasFlat b bs h) (All-tail HasFlat b bs h)
either_flat false s b bs flat h = All-cons HasFlat (block_with s) (b ∷ bs) (flat, tt) h

before_flat : (s : Step) (bs : List Block) → IsFlatter 3 s.1 → All HasFlat bs → All HasFlat (before_blocks s bs)
before_flat s [] flat h = All-cons HasFlat (block_with s) [] (flat, tt) (All-nil HasFlat)
before_flat s (b ∷ bs) flat h = either_flat (action_eq s.0 b.action) s b bs flat h

in_blocks_flat : (rs : List RawOp) → All HasShortParts rs → All HasFlat (in_blocks (map step_of rs))
in_blocks_flat [] h = All-nil HasFlat
in_blocks_flat (r ∷ rs) h = before_flat (step_of r) (in_blocks (map step_of rs)) (op_flatter r (All-head HasShortParts r rs h)) (in_blocks_flat rs (All-tail HasShortParts r rs h))

block_parts : (a : Action) (ds : Items) → AllItems (IsFlatter 3) ds → IsFlatter 5 (given_block (record { action = a; elements = ds }))
unfolding given_block record_of
block_parts Create ds h = let low = items_flatter 3 ds h in let at = low.shallow in record { plain = (tt, low.plain, tt); shallow = omega arith }
block_parts Modify ds h = let low = items_flatter 3 ds h in let at = low.shallow in record { plain = (tt, low.plain, tt); shallow = omega arith }
block_parts (Delete true) ds h = let low = items_flatter 3 ds h in let at = low.shallow in record { plain = ((refl, tt), low.plain, (tt, tt, tt)); shallow = omega arith }
block_parts (Delete false) ds h = let low = items_flatter 3 ds h in let at = low.shallow in record { plain = (tt, low.plain, tt); shallow = omega arith }

block_flatter : (b : Block) → HasFlat b → IsFlatter 5 (given_block b)
block_flatter b h = block_parts b.action b.elements h

pub ops_flatter : (rs : List RawOp) → All HasShortParts rs → IsFlatter 6 (given_ops rs)
unfolding given_ops
ops_flatter rs h = list_flatter 5 HasFlat given_block block_flatter (in_blocks (map step_of rs)) (in_blocks_flat rs h)
