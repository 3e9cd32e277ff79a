-- What has been added to a body, and the text of a row part by part.
use Rattle.std.proofs.Common.{◌≡◌, ℕ, ℤ, pos, negsuc, ◌<◌, ◌+◌, ◌≤◌, length, take, drop, get_or, true, false, List, [], ◌∷◌, ◌++◌, Option, Some, None, map, flat_map, decimal, codes, is_some, refl, sym, ap, ◌∙◌, arith, append_assoc, length-take-le}
use Rattle.std.proofs.lemmas.List.{append-nil, take_all, take_more, flat_map_more, drop-append-le}
use Rattle.std.proofs.lemmas.List.Folds.{flat_map-map}
use Rattle.std.proofs.lemmas.Grind.{flat_map-append}
use Rattle.std.specs.Fmt.{signed_decimal}
use Rattle.json.specs.Print.{quoted, escape_byte}
use Rattle.serde_json.specs.Data.{Data, boolean, string}
use Rattle.serde_json.specs.View.{items_of}
use Rattle.serde_json.specs.Written.{compact_text, items_text, members_text}
use Rattle.osm_base.specs.Place.{Area}
use Rattle.osm_element.specs.Tags.{Tag}
use Rattle.osm_element.specs.Version.{Version}
use Rattle.osm_element.specs.declared.contents.Content.TheVariants as contents
use Rattle.osm_element.specs.declared.contents.Member.{Member as Reference}
use Rattle.osm_base.specs.declared.keys.Kind.{Kind}
use Rattle.osm_change.specs.declared.answers.DiffRow.{DiffRow}
use Rattle.osm_change.specs.declared.answers.ElementRow.{ElementRow}
use Rattle.osm_json.specs.Moment.{stamp_text}
use Rattle.osm_json.specs.Shown.{kind_name, kind, Field, field, members_of, record_of, list_of, natural, integer, document}
use Rattle.osm_json.specs.Rows.{diff_row, diff, element, elements, block, download, bounds, box_fields, reference, tags, tag_field, content_fields, number_fields, visible_fields, redaction_fields, tags_fields, stamp_field, origin_fields}
use Rattle.osm_json.specs.Added.{Grows, field_text, later_text, Origin, origin_of, origin_text, shared_fields, ending_text, joined, opening_text, block_opening_text, said_text}

-- ---- one piece after another

infixr 10 ◌⨾◌
pub ◌⨾◌ : {a b c xs ys : List ℕ} → Grows a b xs → Grows b c ys → Grows a c (xs ++ ys)
◌⨾◌ {a} {b} {c} {xs} {ys} p q = record { bytes = q.bytes ∙ ap (λ l. l ++ ys) p.bytes ∙ append_assoc a xs ys }

pub becomes : {a b xs ys : List ℕ} → xs ≡ ys → Grows a b xs → Grows a b ys
becomes {a} e p = record { bytes = p.bytes ∙ ap (λ l. a ++ l) e }

pub nothing : {a : List ℕ} → Grows a a []
nothing {a} = record { bytes = sym (append-nil a) }

-- what a loop over a list has added at its end
pub whole : {A : Type 0} {a b : List ℕ} (f : A → List ℕ) (xs : List A) (i : ℕ) → length xs ≤ i → Grows a b (flat_map f (take i xs)) → Grows a b (flat_map f xs)
whole f xs i le p = rw (take_all i xs le) at p

-- a loop has added one item more
pub one_more : {A : Type 0} {a b c : List ℕ} (f : A → List ℕ) (xs : List A) (i : ℕ) (d : A) → i < length xs → Grows a b (flat_map f (take i xs)) → Grows b c (f (get_or xs i d)) → Grows a c (flat_map f (take (i + 1) xs))
one_more f xs i d lt p q =
    let more : flat_map f (take (i + 1) xs) ≡ flat_map f (take i xs) ++ f (get_or xs i d) = ap (flat_map f) (take_more xs i d lt) ∙ sym (flat_map_more f [] (take i xs) (get_or xs i d)) in
    becomes (sym more) (p ⨾ q)

-- ---- members

members_behind : (fields : List Field) → members_text true (members_of fields) ≡ flat_map field_text fields ++ 125 ∷ []
unfolding field_text
members_behind [] = refl
members_behind (None ∷ more) = members_behind more
members_behind (Some m ∷ more) =
    let T = flat_map field_text more ++ 125 ∷ [] in
    ap (λ (l : List ℕ). 44 ∷ (quoted m.0 ++ 58 ∷ (compact_text m.1 ++ l))) (members_behind more) ∙ ap (λ (l : List ℕ). 44 ∷ l) (sym (append_assoc (quoted m.0) (58 ∷ compact_text m.1) T))
    ∙ sym (append_assoc (field_text (Some m)) (flat_map field_text more) (125 ∷ []))

-- an object, from its first member and those behind it
record_text : (name : List ℕ) (d : Data) (fields : List Field) → compact_text (record_of (field name d ∷ fields)) ≡ (123 ∷ (quoted name ++ 58 ∷ [])) ++ (compact_text d ++ (flat_map field_text fields ++ 125 ∷ []))
unfolding record_of
record_text name d fields =
    let T = flat_map field_text fields ++ 125 ∷ [] in
    ap (λ (l : List ℕ). 123 ∷ (quoted name ++ 58 ∷ (compact_text d ++ l))) (members_behind fields) ∙ ap (λ (l : List ℕ). 123 ∷ l) (sym (append_assoc (quoted name) (58 ∷ []) (compact_text d ++ T)))

integer_text : (z : ℤ) → compact_text (integer z) ≡ signed_decimal z
integer_text (pos n) = refl
integer_text (negsuc n) = refl

-- ---- arrays

items_behind : {A : Type 0} (shown : A → Data) (xs : List A) → items_text true (items_of (map shown xs)) ≡ flat_map (λ x. later_text (shown x)) xs ++ 93 ∷ []
items_behind shown [] = refl
items_behind shown (x ∷ xs) = rw (items_behind shown xs) (simp append_assoc)

list_text : {A : Type 0} (shown : A → Data) (x : A) (xs : List A) → compact_text (list_of shown (x ∷ xs)) ≡ 91 ∷ (compact_text (shown x) ++ (flat_map (λ y. later_text (shown y)) xs ++ 93 ∷ []))
unfolding list_of
list_text shown x xs = rw (items_behind shown xs) refl

-- ---- the members of a row, as the pieces spell them

id_is : (n : ℕ) → codes ",\"id\":" ++ decimal n ≡ field_text (field (codes "id") (natural n))
unfolding field_text escape_byte
id_is n = refl

pub lat7_is : (z : ℤ) → codes ",\"lat7\":" ++ signed_decimal z ≡ field_text (field (codes "lat7") (integer z))
unfolding field_text escape_byte
lat7_is (pos n) = refl
lat7_is (negsuc n) = refl

pub lon7_is : (z : ℤ) → codes ",\"lon7\":" ++ signed_decimal z ≡ field_text (field (codes "lon7") (integer z))
unfolding field_text escape_byte
lon7_is (pos n) = refl
lon7_is (negsuc n) = refl

pub redaction_is : (n : ℕ) → codes ",\"redaction\":" ++ decimal n ≡ field_text (field (codes "redaction") (natural n))
unfolding field_text escape_byte
redaction_is n = refl

timestamp_is : (s : List ℕ) → codes ",\"timestamp\":" ++ quoted s ≡ field_text (field (codes "timestamp") (string s))
unfolding field_text escape_byte
timestamp_is s = refl

type_is : (s : List ℕ) → codes ",\"type\":" ++ quoted s ≡ field_text (field (codes "type") (string s))
unfolding field_text escape_byte
type_is s = refl

uid_is : (n : ℕ) → codes ",\"uid\":" ++ decimal n ≡ field_text (field (codes "uid") (natural n))
unfolding field_text escape_byte
uid_is n = refl

user_is : (s : List ℕ) → codes ",\"user\":" ++ quoted s ≡ field_text (field (codes "user") (string s))
unfolding field_text escape_byte
user_is s = refl

version_is : (n : ℕ) → codes ",\"version\":" ++ decimal n ≡ field_text (field (codes "version") (natural n))
unfolding field_text escape_byte
version_is n = refl

changeset_is : 123 ∷ (quoted (codes "changeset") ++ 58 ∷ []) ≡ codes "{\"changeset\":"
unfolding escape_byte
changeset_is = refl

pub shown_is : codes ",\"visible\":true}" ≡ ending_text true
unfolding field_text escape_byte
shown_is = refl

pub hidden_is : codes ",\"visible\":false}" ≡ ending_text false
unfolding field_text escape_byte
hidden_is = refl

pub one_field : (f : Field) → field_text f ≡ flat_map field_text (f ∷ [])
one_field f = sym (append-nil (field_text f))

pub two_fields : (f g : Field) → field_text f ++ field_text g ≡ flat_map field_text (f ∷ g ∷ [])
two_fields f g = ap (λ (l : List ℕ). field_text f ++ l) (one_field g)

-- ---- a row

four_then : (a b c d v : List ℕ) → a ++ (b ++ (c ++ (d ++ v))) ≡ (a ++ (b ++ (c ++ (d ++ [])))) ++ v
four_then a b c d v = simp (append_assoc, append-nil)

pub origin_is : (o : Origin)
    → (codes ",\"timestamp\":" ++ quoted (stamp_text o.0))
    ++ ((codes ",\"type\":" ++ quoted (kind_name o.1.0))
    ++ ((codes ",\"uid\":" ++ decimal o.1.1.id)
    ++ ((codes ",\"user\":" ++ quoted o.1.1.name) ++ codes ",\"version\":")))
    ≡ origin_text o
unfolding origin_text
origin_is o =
    (λ i. timestamp_is (stamp_text o.0) i ++ (type_is (kind_name o.1.0) i ++ (uid_is o.1.1.id i ++ (user_is o.1.1.name i ++ codes ",\"version\":"))))
    ∙ four_then (field_text (stamp_field o.0)) (field_text (field (codes "type") (kind o.1.0))) (field_text (field (codes "uid") (natural o.1.1.id))) (field_text (field (codes "user") (string o.1.1.name))) (codes ",\"version\":")

four_parts : (V R T S : List Field)
    → flat_map field_text (V ++ (R ++ (T ++ S))) ++ 125 ∷ [] ≡ flat_map field_text V ++ (flat_map field_text R ++ (flat_map field_text T ++ (flat_map field_text S ++ 125 ∷ [])))
four_parts V R T S = rw (flat_map-append field_text V (R ++ (T ++ S)), flat_map-append field_text R (T ++ S), flat_map-append field_text T S) (simp append_assoc)

last_two : (s piece n v : List ℕ) → (s ++ ((piece ++ n) ++ (v ++ []))) ++ 125 ∷ [] ≡ (s ++ piece) ++ (n ++ (v ++ 125 ∷ []))
last_two s piece n v = simp (append_assoc, append-nil)

tail_text : (r : ElementRow) → flat_map field_text (stamp_field r.version.stamp ∷ origin_fields r) ++ 125 ∷ [] ≡ origin_text (origin_of r) ++ (decimal r.number ++ ending_text (is_some r.version.content))
unfolding origin_fields origin_text
tail_text r =
    let shared = shared_fields (origin_of r) in
    let version = field (codes "version") (natural r.number) in
    let visible = field (codes "visible") (boolean (is_some r.version.content)) in
    ap (λ (l : List ℕ). l ++ 125 ∷ []) (flat_map-append field_text shared (version ∷ visible ∷ []))
    ∙ ap (λ (l : List ℕ). (flat_map field_text shared ++ (l ++ (field_text visible ++ []))) ++ 125 ∷ []) (sym (version_is r.number))
    ∙ last_two (flat_map field_text shared) (codes ",\"version\":") (decimal r.number) (field_text visible)

-- tags stand beside the rest of a version
pub redaction_apart : (v : Version) (shown : List Tag) → flat_map field_text (redaction_fields v) ≡ flat_map field_text (redaction_fields (record v { tags = shown }))
unfolding redaction_fields
redaction_apart v shown = refl

-- the text of a row is its pieces, one after the other
pub element_text : (r : ElementRow)
    → (codes "{\"changeset\":" ++ decimal r.version.changeset)
    ++ ((codes ",\"id\":" ++ decimal r.key.id)
    ++ (flat_map field_text (visible_fields r.version.content)
    ++ (flat_map field_text (redaction_fields r.version)
    ++ (flat_map field_text (tags_fields r.version)
    ++ (origin_text (origin_of r)
    ++ (decimal r.number ++ ending_text (is_some r.version.content)))))))
    ≡ compact_text (element r)
unfolding element number_fields
element_text r =
    let V = visible_fields r.version.content in
    let R = redaction_fields r.version in
    let T = tags_fields r.version in
    let S = stamp_field r.version.stamp ∷ origin_fields r in
    let id = field (codes "id") (natural r.key.id) in
    let first = record_text (codes "changeset") (natural r.version.changeset) (id ∷ (V ++ (R ++ (T ++ S)))) in
    sym
    (first
    ∙ ap (λ (l : List ℕ). l ++ (decimal r.version.changeset ++ (flat_map field_text (id ∷ (V ++ (R ++ (T ++ S)))) ++ 125 ∷ []))) changeset_is
    ∙ ap (λ (l : List ℕ). codes "{\"changeset\":" ++ (decimal r.version.changeset ++ l)) (append_assoc (field_text id) (flat_map field_text (V ++ (R ++ (T ++ S)))) (125 ∷ []))
    ∙ ap (λ (l : List ℕ). codes "{\"changeset\":" ++ (decimal r.version.changeset ++ (field_text id ++ l))) (four_parts V R T S)
    ∙ ap (λ (l : List ℕ). codes "{\"changeset\":" ++ (decimal r.version.changeset ++ (field_text id ++ (flat_map field_text V ++ (flat_map field_text R ++ (flat_map field_text T ++ l)))))) (tail_text r)
    ∙ ap (λ (l : List ℕ). codes "{\"changeset\":" ++ (decimal r.version.changeset ++ (l ++ (flat_map field_text V ++ (flat_map field_text R ++ (flat_map field_text T ++ (origin_text (origin_of r) ++ (decimal r.number ++ ending_text (is_some r.version.content))))))))) (sym (id_is r.key.id)))

-- ---- a document

-- the text of an array is its opening, its items and its end
joined_text : {A : Type 0} (shown : A → Data) (xs : List A) → compact_text (list_of shown xs) ≡ 91 ∷ (joined shown xs ++ 93 ∷ [])
unfolding list_of
joined_text shown [] = refl
joined_text shown (x ∷ xs) = list_text shown x xs ∙ ap (λ (l : List ℕ). 91 ∷ l) (sym (append_assoc (compact_text (shown x)) (flat_map (λ y. later_text (shown y)) xs) (93 ∷ [])))

pub elements_text : (within : Option Area) (rows : List ElementRow) → opening_text within ++ (joined element rows ++ codes "],\"version\":\"0.6\"}") ≡ compact_text (elements within rows)
unfolding elements record_of escape_byte
elements_text None rows =
    let J = joined element rows in
    let V = codes ",\"version\":\"0.6\"}" in
    sym
    (ap (λ (l : List ℕ). codes "{\"elements\":" ++ (l ++ V)) (joined_text element rows)
    ∙ ap (λ (l : List ℕ). codes "{\"elements\":[" ++ l) (append_assoc J (93 ∷ []) V))
elements_text (Some b) rows =
    let J = joined element rows in
    let V = codes ",\"version\":\"0.6\"}" in
    let B = compact_text (bounds b) in
    sym
    (ap (λ (l : List ℕ). codes "{\"bounds\":" ++ (B ++ (codes ",\"elements\":" ++ (l ++ V)))) (joined_text element rows)
    ∙ ap (λ (l : List ℕ). codes "{\"bounds\":" ++ (B ++ (codes ",\"elements\":[" ++ l))) (append_assoc J (93 ∷ []) V)
    ∙ ap (λ (l : List ℕ). codes "{\"bounds\":" ++ l) (sym (append_assoc B (codes ",\"elements\":[") (J ++ codes "],\"version\":\"0.6\"}"))))

pub block_text : (r : ElementRow) → block_opening_text r ++ (compact_text (element r) ++ codes "]}") ≡ compact_text (block r)
unfolding block record_of list_of
block_text r = simp append_assoc

pub download_text : (rows : List ElementRow) → codes "{\"osmChange\":[" ++ (joined block rows ++ codes "],\"version\":\"0.6\"}") ≡ compact_text (download rows)
unfolding download document record_of escape_byte
download_text rows =
    let J = joined block rows in
    let V = codes ",\"version\":\"0.6\"}" in
    sym
    (ap (λ (l : List ℕ). codes "{\"osmChange\":" ++ (l ++ V)) (joined_text block rows)
    ∙ ap (λ (l : List ℕ). codes "{\"osmChange\":[" ++ l) (append_assoc J (93 ∷ []) V))

-- ---- a diff result

two_then : (a n b z t : List ℕ) → ((a ++ n) ++ (b ++ z)) ++ t ≡ a ++ (n ++ (b ++ (z ++ t)))
two_then a n b z t = simp append_assoc

three_then : (a n b v c z t : List ℕ) → ((a ++ n) ++ ((b ++ v) ++ (c ++ z))) ++ t ≡ a ++ (n ++ (b ++ (v ++ (c ++ (z ++ t)))))
three_then a n b v c z t = simp append_assoc

last_member : Kind → List ℕ
last_member k = (codes ",\"type\":" ++ quoted (kind_name k)) ++ codes "}"

row_text : (id version : Option ℕ) (old : ℤ) (k : Kind) → said_text id version old ++ last_member k ≡ compact_text (diff_row (record { kind = k; old_id = old; new_id = id; new_version = version }))
unfolding diff_row record_of escape_byte last_member
row_text (Some id) (Some version) (pos old) k = three_then (codes "{\"new_id\":") (decimal id) (codes ",\"new_version\":") (decimal version) (codes ",\"old_id\":") (signed_decimal (pos old)) (last_member k)
row_text (Some id) (Some version) (negsuc old) k = three_then (codes "{\"new_id\":") (decimal id) (codes ",\"new_version\":") (decimal version) (codes ",\"old_id\":") (signed_decimal (negsuc old)) (last_member k)
row_text (Some id) None (pos old) k = two_then (codes "{\"new_id\":") (decimal id) (codes ",\"old_id\":") (signed_decimal (pos old)) (last_member k)
row_text (Some id) None (negsuc old) k = two_then (codes "{\"new_id\":") (decimal id) (codes ",\"old_id\":") (signed_decimal (negsuc old)) (last_member k)
row_text None (Some version) (pos old) k = two_then (codes "{\"new_version\":") (decimal version) (codes ",\"old_id\":") (signed_decimal (pos old)) (last_member k)
row_text None (Some version) (negsuc old) k = two_then (codes "{\"new_version\":") (decimal version) (codes ",\"old_id\":") (signed_decimal (negsuc old)) (last_member k)
row_text None None (pos old) k = refl
row_text None None (negsuc old) k = refl

pub diff_row_text : (r : DiffRow) → said_text r.new_id r.new_version r.old_id ++ ((codes ",\"type\":" ++ quoted (kind_name r.kind)) ++ codes "}") ≡ compact_text (diff_row r)
unfolding last_member
diff_row_text r = row_text r.new_id r.new_version r.old_id r.kind

pub diff_text : (rows : List DiffRow) → codes "{\"diffResult\":[" ++ (joined diff_row rows ++ codes "],\"version\":\"0.6\"}") ≡ compact_text (diff rows)
unfolding diff document record_of escape_byte
diff_text rows =
    let J = joined diff_row rows in
    let V = codes ",\"version\":\"0.6\"}" in
    sym
    (ap (λ (l : List ℕ). codes "{\"diffResult\":" ++ (l ++ V)) (joined_text diff_row rows)
    ∙ ap (λ (l : List ℕ). codes "{\"diffResult\":[" ++ l) (append_assoc J (93 ∷ []) V))

-- ---- contents and tags

pub nodes_text : (first : ℕ) (rest : List ℕ) → (codes ",\"nodes\":[" ++ decimal first) ++ (flat_map (λ n. later_text (natural n)) rest ++ codes "]") ≡ flat_map field_text (content_fields (contents.Way (first ∷ rest)))
unfolding content_fields escape_byte field_text
nodes_text first rest = ap (λ (l : List ℕ). codes ",\"nodes\":" ++ l) (sym (list_text natural first rest)) ∙ one_field (field (codes "nodes") (list_of natural (first ∷ rest)))

pub no_nodes : codes ",\"nodes\":[]" ≡ flat_map field_text (content_fields (contents.Way []))
unfolding content_fields escape_byte field_text list_of
no_nodes = refl

pub reference_text : (m : Reference ℕ) → (codes "{\"ref\":" ++ decimal m.name) ++ ((codes ",\"role\":" ++ quoted m.role) ++ ((codes ",\"type\":" ++ quoted (kind_name m.kind)) ++ codes "}")) ≡ compact_text (reference m)
unfolding reference record_of escape_byte
reference_text m = refl

pub references_text : (first : Reference ℕ) (rest : List (Reference ℕ)) → codes ",\"members\":[" ++ (compact_text (reference first) ++ (flat_map (λ m. later_text (reference m)) rest ++ codes "]")) ≡ flat_map field_text (content_fields (contents.Relation (first ∷ rest)))
unfolding content_fields escape_byte field_text
references_text first rest = ap (λ (l : List ℕ). codes ",\"members\":" ++ l) (sym (list_text reference first rest)) ∙ one_field (field (codes "members") (list_of reference (first ∷ rest)))

pub no_references : codes ",\"members\":[]" ≡ flat_map field_text (content_fields (contents.Relation []))
unfolding content_fields escape_byte field_text list_of
no_references = refl

pub tag_is : (k v : List ℕ) → (codes "," ++ quoted k) ++ (codes ":" ++ quoted v) ≡ field_text (field k (string v))
unfolding field_text
tag_is k v = refl

pub pairs_text : (k v : List ℕ) (rest : List Tag) → (codes ",\"tags\":{" ++ quoted k) ++ ((codes ":" ++ quoted v) ++ (flat_map field_text (map tag_field rest) ++ codes "}")) ≡ flat_map field_text (field (codes "tags") (tags ((k, v) ∷ rest)) ∷ [])
unfolding tags escape_byte field_text
pairs_text k v rest =
    let Z = quoted v ++ (flat_map field_text (map tag_field rest) ++ 125 ∷ []) in
    ap (λ (l : List ℕ). codes ",\"tags\":{" ++ l) (sym (append_assoc (quoted k) (58 ∷ []) Z))
    ∙ ap (λ (l : List ℕ). codes ",\"tags\":" ++ l) (sym (record_text k (string v) (map tag_field rest)))
    ∙ one_field (field (codes "tags") (tags ((k, v) ∷ rest)))

pub no_tags : codes ",\"tags\":{}" ≡ flat_map field_text (field (codes "tags") (tags []) ∷ [])
unfolding tags escape_byte field_text record_of
no_tags = refl

-- a loop that begins behind the first has added one item more
pub later_one : {A : Type 0} {a b c : List ℕ} (f : A → List ℕ) (xs : List A) (i : ℕ) (d : A) → 1 ≤ i → i < length xs → Grows a b (flat_map f (drop 1 (take i xs))) → Grows b c (f (get_or xs i d)) → Grows a c (flat_map f (drop 1 (take (i + 1) xs)))
later_one f xs i d from lt p q =
    let long : 1 ≤ length (take i xs) = omega (arith, length-take-le i xs (omega arith)) in
    let more : flat_map f (drop 1 (take (i + 1) xs)) ≡ flat_map f (drop 1 (take i xs)) ++ f (get_or xs i d) =
    ap (λ l. flat_map f (drop 1 l)) (take_more xs i d lt) ∙ ap (flat_map f) (drop-append-le 1 (take i xs) (get_or xs i d ∷ []) long) ∙ sym (flat_map_more f [] (drop 1 (take i xs)) (get_or xs i d)) in
    becomes (sym more) (p ⨾ q)

-- it has added nothing at its beginning
pub none_yet : {A : Type 0} {a : List ℕ} (f : A → List ℕ) (xs : List A) → Grows a a (flat_map f (drop 1 (take 1 xs)))
none_yet f [] = nothing
none_yet f (x ∷ xs) = nothing

-- and all behind the first at its end
pub all_later : {A B : Type 0} {a b : List ℕ} (f : B → List ℕ) (shown : A → B) (xs : List A) (i : ℕ) → length xs ≤ i
    → Grows a b (flat_map (λ x. f (shown x)) (drop 1 (take i xs))) → Grows a b (flat_map f (map shown (drop 1 xs)))
all_later f shown xs i le p = becomes (ap (λ l. flat_map (λ x. f (shown x)) (drop 1 l)) (take_all i xs le) ∙ sym (flat_map-map f shown (drop 1 xs))) p

pub first_and_rest : {A : Type 0} (xs : List A) (d : A) → 0 < length xs → get_or xs 0 d ∷ drop 1 xs ≡ xs
first_and_rest [] d some = absurd (omega arith)
first_and_rest (x ∷ xs) d some = refl

-- ---- the edges of a box

box_joined : (t p r q b s l e : List ℕ) → t ++ (p ++ (r ++ (q ++ (b ++ (s ++ (l ++ (125 ∷ e))))))) ≡ (t ++ (p ++ (r ++ (q ++ (b ++ (s ++ (l ++ 125 ∷ []))))))) ++ e
box_joined t p r q b s l e = simp append_assoc

pub opening_is : (b : Area)
    → (codes "{\"bounds\":{\"maxlat7\":" ++ signed_decimal b.top)
    ++ ((codes ",\"maxlon7\":" ++ signed_decimal b.right) ++ ((codes ",\"minlat7\":" ++ signed_decimal b.bottom) ++ ((codes ",\"minlon7\":" ++ signed_decimal b.left) ++ codes "},\"elements\":[")))
    ≡ opening_text (Some b)
unfolding bounds box_fields record_of escape_byte
opening_is b =
    (λ i. codes "{\"bounds\":{\"maxlat7\":"
    ++ (sym (integer_text b.top) i
    ++ (codes ",\"maxlon7\":" ++ (sym (integer_text b.right) i ++ (codes ",\"minlat7\":" ++ (sym (integer_text b.bottom) i ++ (codes ",\"minlon7\":" ++ (sym (integer_text b.left) i ++ codes "},\"elements\":["))))))))
    ∙ ap (λ (l : List ℕ). codes "{\"bounds\":{\"maxlat7\":" ++ l)
    (box_joined (compact_text (integer b.top)) (codes ",\"maxlon7\":") (compact_text (integer b.right)) (codes ",\"minlat7\":") (compact_text (integer b.bottom)) (codes ",\"minlon7\":") (compact_text (integer b.left)) (codes ",\"elements\":["))

pub none_left : {A : Type 0} (xs : List A) → length xs ≡ 0 → xs ≡ []
none_left [] e = refl
none_left (x ∷ xs) e = absurd (omega arith)
