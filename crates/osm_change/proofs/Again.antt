-- What a change says is read as that change again.
use Rattle.std.proofs.Common.{◌≡◌, ℕ, zero, suc, ◌+◌, ◌^◌, ◌<◌, ◌≤◌, Bool, true, cond, ◌&&◌, ◌||◌, List, [], ◌∷◌, ◌++◌, length, map, Option, Some, None, is_some, ℤ, pos, negsuc, Ok, Err, refl, sym, ap, ◌∙◌, subst, arith, true≢false, slice_get, append_assoc}
use Rattle.std.specs.Prelude.{All, MatchOption, option_and_then}
use Rattle.std.specs.List.{list_any}
use Rattle.std.specs.Ordering.{int_eq}
use Rattle.std.proofs.lemmas.Int.{ints}
use Rattle.std.proofs.lemmas.Bool.{and_parts}
use Rattle.std.proofs.lemmas.Bool.Decides.{Decides-int_eq}
use Rattle.std.proofs.lemmas.List.{map-append, length-map}
use Rattle.std.proofs.lemmas.List.Elements.{All-nil, All-cons, All-head, All-tail}
use Rattle.std.proofs.lemmas.Option.{slice_get_within}
use Rattle.osm_base.specs.Outcome.{◌>>=◌, unless}
use Rattle.osm_base.specs.Key.{kind_eq}
use Rattle.osm_base.specs.declared.keys.Kind.{Kind}
use Rattle.osm_base.specs.declared.keys.Kind.TheVariants.{Node}
use Rattle.osm_base.proofs.KeyOrder.{kind_eq-same}
use Rattle.osm_element.specs.Tags.{Tag}
use Rattle.osm_element.specs.Limits.{is_long, check_tags, check_content, check_named, check_named_content}
use Rattle.osm_element.specs.declared.contents.Content.{Content}
use Rattle.osm_element.specs.declared.contents.Content.TheVariants as content
use Rattle.osm_element.specs.declared.contents.Member.{Member}
use Rattle.osm_change.specs.Outcome.{each, cons_ok}
use Rattle.osm_change.specs.Change.{kind_of, named, named_member, names_listed, names_given, created_kind, created_as, created_as_at, IsNamedBefore, IsPlaceholder, HasPlaceholder, IsKnown, HasVersion, IsWithinLimits, IsWellFormed}
use Rattle.osm_change.specs.Said.{placeholder_in, said}
use Rattle.osm_change.specs.Document.{member_said, content_said, op_said, document_of}
use Rattle.osm_change.specs.Build.{Look, creates, created_at, new_name, name_of, member_with, member_named, content_named, local, local_cause, free_placeholder, version_named, op_of, or_fault, operations_after, other_changeset, change_of, IsReference, IsRawContent, IsRawOp, IsRaw}
use Rattle.osm_change.specs.declared.causes.Cause.TheVariants.{DoublePlaceholder}
use Rattle.osm_change.specs.declared.operations.Name.{Name}
use Rattle.osm_change.specs.declared.operations.Referent.TheVariants.{Old, New}
use Rattle.osm_change.specs.declared.operations.Op.{Op}
use Rattle.osm_change.specs.declared.operations.Op.TheVariants.{Create, Modify, Delete}
use Rattle.osm_change.proofs.Built.{position-at}
use Rattle.osm_change.proofs.OwnParts.{nodes-by, members-by}
use Rattle.osm_change.proofs.Placeholders.{kind_eq-refl, int_eq-refl, position-none}

-- -- places of lists

at-all : {A : Type 0} (P : A → Type 0) (xs : List A) → All P xs → (n : ℕ) (x : A) → slice_get xs n ≡ Some x → P x
at-all P [] all n x at = absurd (cc)
at-all P (y ∷ ys) all zero x at = let same : y ≡ x = cc in subst P same (All-head P y ys all)
at-all P (y ∷ ys) all (suc n) x at = at-all P ys (All-tail P y ys all) n x at

get-map : {A B : Type 0} (f : A → B) (xs : List A) (p : ℕ) (x : A) → slice_get xs p ≡ Some x → slice_get (map f xs) p ≡ Some (f x)
get-map f [] p x at = absurd (cc)
get-map f (y ∷ ys) zero x at = let same : y ≡ x = cc in ap (λ z. Some (f z)) same
get-map f (y ∷ ys) (suc p) x at = get-map f ys p x at

get-unmap : {A B : Type 0} (f : A → B) (xs : List A) (p : ℕ) (y : B) → slice_get (map f xs) p ≡ Some y → (x : A) × (slice_get xs p ≡ Some x) × (f x ≡ y)
get-unmap f [] p y at = absurd (cc)
get-unmap f (x ∷ xs) zero y at = let same : f x ≡ y = cc in (x, refl, same)
get-unmap f (x ∷ xs) (suc p) y at = get-unmap f xs p y at

get-front : {A : Type 0} (xs ys : List A) (p : ℕ) → p < length xs → slice_get (xs ++ ys) p ≡ slice_get xs p
get-front [] ys p lt = absurd (omega arith)
get-front (x ∷ xs) ys zero lt = refl
get-front (x ∷ xs) ys (suc p) lt = get-front xs ys p (omega arith)

get-next : {A : Type 0} (xs : List A) (y : A) (ys : List A) → slice_get (xs ++ y ∷ ys) (length xs) ≡ Some y
get-next [] y ys = refl
get-next (x ∷ xs) y ys = get-next xs y ys

-- -- one operation

created-says : (ops : List Op) (o : Op) (kind : Kind) (z : ℤ) → creates kind z (op_said ops o) ≡ true → created_as o ≡ Some (kind, z)
created-says ops (Create placeholder content tags) kind z e =
    let both = and_parts (kind_eq (kind_of content) kind) (int_eq z placeholder) e in
    let same = kind_eq-same (kind_of content) kind both.0 in
    let id : z ≡ placeholder = (Decides-int_eq z placeholder).0 both.1 in
    ap (λ k. Some (k, placeholder)) same ∙ ap (λ z. Some (kind, z)) (sym id)
created-says ops (Modify name version content tags) kind z e = absurd (true≢false (sym e))
created-says ops (Delete k name version if_unused) kind z e = absurd (true≢false (sym e))

says-created : (ops : List Op) (o : Op) (kind : Kind) (z : ℤ) → created_as o ≡ Some (kind, z) → creates kind z (op_said ops o) ≡ true
says-created ops (Create placeholder content tags) kind z e =
    let pair : (kind_of content, placeholder) ≡ (kind, z) = cc in
    ap (λ (p : Kind × ℤ). kind_eq (kind_of content) p.0 && int_eq p.1 placeholder) (sym pair) ∙ ap (λ b. b && int_eq placeholder placeholder) (kind_eq-refl (kind_of content)) ∙ int_eq-refl placeholder
says-created ops (Modify name version content tags) kind z e = absurd (cc)
says-created ops (Delete k name version if_unused) kind z e = absurd (cc)

placeholder-name : (look : Look) (kind : Kind) (z : ℤ) (p : ℕ) → IsPlaceholder z → look kind z ≡ Some p → name_of look kind z ≡ Ok (New p)
placeholder-name look kind (pos n) p is found = let negative = is.negative in absurd (omega (arith, ints))
placeholder-name look kind (negsuc n) p is found = ap new_name found

free-again : (look : Look) (kind : Kind) (z : ℤ) → IsPlaceholder z → look kind z ≡ None → free_placeholder look kind z ≡ Ok z
free-again look kind (pos n) is free = let negative = is.negative in absurd (omega (arith, ints))
free-again look kind (negsuc n) is free = ap (λ f. cond (is_some f) (Err DoublePlaceholder) (Ok (negsuc n))) free

-- what a create is named by
pub record IsCreation (ops : List Op) (kind : Kind) (p : ℕ) (z : ℤ) : Type 0 where
  pub said : said ops (New p) ≡ z
  pub is : IsPlaceholder z
  pub at : created_as_at ops p ≡ Some (kind, z)

creation-at : (ops : List Op) (kind : Kind) (p : ℕ) (found : Option Op) → ((o : Op) → found ≡ Some o → HasPlaceholder o) → MatchOption found ⊥ (λ o. created_kind o ≡ Some kind) → slice_get ops p ≡ found → (z : ℤ) × IsCreation ops kind p z
creation-at ops kind p None placed is at = absurd is
creation-at ops kind p (Some (Create placeholder content tags)) placed is at =
    let same : kind_of content ≡ kind = cc in (
      placeholder,
      record {
        said = ap placeholder_in at;
        is = placed (Create placeholder content tags) refl;
        at = ap (option_and_then created_as) at ∙ ap (λ k. Some (k, placeholder)) same;
      },
    )
creation-at ops kind p (Some (Modify name version content tags)) placed is at = absurd (cc)
creation-at ops kind p (Some (Delete k name version if_unused)) placed is at = absurd (cc)

module _ (ops : List Op) (well : IsWellFormed ops) where
  creation : (n p : ℕ) (kind : Kind) → IsNamedBefore ops n (named kind (New p)) → (z : ℤ) × IsCreation ops kind p z
  creation n p kind is = creation-at ops kind p (slice_get ops p) (λ o at. at-all HasPlaceholder ops well.placeholders p o at) is.1 refl

  -- -- what may stand in a document

  placeholder-reference : (z : ℤ) → IsPlaceholder z → IsReference z
  placeholder-reference (pos n) is = let negative = is.negative in absurd (omega (arith, ints))
  placeholder-reference (negsuc n) is = record { low = is.low; high = omega (arith, ints); some = λ e. absurd (cc) }

  reference-said : (n : ℕ) (kind : Kind) (name : Name) → IsNamedBefore ops n (named kind name) → IsKnown (named kind name) → IsReference (said ops name)
  reference-said n kind (Old id) is known =
      let low : 1 ≤ id = known.0 in
      let high : id < 2 ^ 63 = known.1 in
      record { low = omega (arith, ints); high = omega (arith, ints); some = λ e. let same : id ≡ 0 = cc in absurd (omega arith) }
  reference-said n kind (New p) is known =
      let made = creation n p kind is in
      subst IsReference (sym made.1.said) (placeholder-reference made.0 made.1.is)

  nodes-said : (n : ℕ) (nodes : List Name) → All (IsNamedBefore ops n) (map (named Node) nodes) → All IsKnown (map (named Node) nodes) → All IsReference (map (said ops) nodes)
  nodes-said n [] is known = All-nil IsReference
  nodes-said n (x ∷ xs) is known =
      All-cons IsReference (said ops x) (map (said ops) xs)
      (reference-said n Node x (All-head (IsNamedBefore ops n) (named Node x) (map (named Node) xs) is) (All-head IsKnown (named Node x) (map (named Node) xs) known))
      (nodes-said n xs (All-tail (IsNamedBefore ops n) (named Node x) (map (named Node) xs) is) (All-tail IsKnown (named Node x) (map (named Node) xs) known))

  members-said : (n : ℕ) (members : List (Member Name)) → All (IsNamedBefore ops n) (map named_member members) → All IsKnown (map named_member members) → All (λ (m : Member ℤ). IsReference m.name) (map (member_said ops) members)
  members-said n [] is known = All-nil (λ (m : Member ℤ). IsReference m.name)
  members-said n (x ∷ xs) is known =
      All-cons (λ (m : Member ℤ). IsReference m.name) (member_said ops x) (map (member_said ops) xs)
      (reference-said n x.kind x.name (All-head (IsNamedBefore ops n) (named_member x) (map named_member xs) is) (All-head IsKnown (named_member x) (map named_member xs) known))
      (members-said n xs (All-tail (IsNamedBefore ops n) (named_member x) (map named_member xs) is) (All-tail IsKnown (named_member x) (map named_member xs) known))

  raw-content : (n : ℕ) (c : Content Name) → All (IsNamedBefore ops n) (names_listed c) → All IsKnown (names_listed c) → IsRawContent (kind_of c) (content_said ops c)
  raw-content n (content.Node at) is known = tt
  raw-content n (content.Way nodes) is known = nodes-said n nodes is known
  raw-content n (content.Relation members) is known = members-said n members is known

  raw-op : (n : ℕ) (o : Op) → All (IsNamedBefore ops n) (names_given o) → All IsKnown (names_given o) → HasPlaceholder o → HasVersion o → IsRawOp (op_said ops o)
  raw-op n (Create placeholder content tags) is known placed versioned = record {
    id = placeholder-reference placeholder placed;
    version = tt;
    content = raw-content n content is known;
  }
  raw-op n (Modify name version content tags) is known placed versioned =
      let own = named (kind_of content) name in
      record {
        id = reference-said n (kind_of content) name (All-head (IsNamedBefore ops n) own (names_listed content) is) (All-head IsKnown own (names_listed content) known);
        version = versioned;
        content = raw-content n content (All-tail (IsNamedBefore ops n) own (names_listed content) is) (All-tail IsKnown own (names_listed content) known);
      }
  raw-op n (Delete kind name version if_unused) is known placed versioned = record {
    id = reference-said n kind name (All-head (IsNamedBefore ops n) (named kind name) [] is) (All-head IsKnown (named kind name) [] known);
    version = versioned;
    content = tt;
  }

  all-raw : (n : ℕ) (rest : List Op) → ((k : ℕ) (o : Op) → slice_get rest k ≡ Some o → slice_get ops (n + k) ≡ Some o) → All IsRawOp (map (op_said ops) rest)
  all-raw n [] part = All-nil IsRawOp
  all-raw n (o ∷ rest) part =
      let here : slice_get ops (n + 0) ≡ Some o = part zero o refl in
      All-cons IsRawOp (op_said ops o) (map (op_said ops) rest)
      (raw-op (n + 0) o (well.named (n + 0) o here) (at-all (λ o. All IsKnown (names_given o)) ops well.known (n + 0) o here) (at-all HasPlaceholder ops well.placeholders (n + 0) o here) (at-all HasVersion ops well.versions (n + 0) o here))
      (all-raw (n + 1) rest (λ k p e. let same : (n + 1) + k ≡ n + suc k = omega arith in ap (slice_get ops) same ∙ part (suc k) p e))

  pub document-raw : IsRaw (document_of ops)
  document-raw = record {
    few = let few = well.few in omega (arith, length-map ops (op_said ops));
    each = all-raw 0 ops (λ k o e. let same : 0 + k ≡ k = omega arith in ap (slice_get ops) same ∙ e);
  }

-- -- how it is read

-- the placeholders of the operations before
abbrev look_after : List Op → List Op → Look
look_after ops before = created_at (map (op_said ops) before)

list_any-map : {A B : Type 0} (p : B → Bool) (f : A → B) (xs : List A) → list_any p (map f xs) ≡ list_any (λ x. p (f x)) xs
list_any-map p f [] = refl
list_any-map p f (x ∷ xs) = ap (λ b. p (f x) || b) (list_any-map p f xs)

check-said : (ops : List Op) (c : Content Name) → check_content (content_said ops c) ≡ check_named_content c
check-said ops (content.Node at) = refl
check-said ops (content.Way nodes) = ap nodes-by (length-map nodes (said ops))
check-said ops (content.Relation members) =
    ap (λ n. members-by n (list_any (λ (m : Member ℤ). is_long m.role) (map (member_said ops) members))) (length-map members (member_said ops))
    ∙ ap (members-by (length members)) (list_any-map (λ (m : Member ℤ). is_long m.role) (member_said ops) members)

no-cause : (ops : List Op) (tags : List Tag) (c : Content Name) → check_named tags c ≡ Ok tt → local_cause tags (content_said ops c) ≡ None
no-cause ops tags c e = ap local (ap (λ r. check_tags tags >>= (λ done. r)) (check-said ops c) ∙ e)

module _ (ops : List Op) (well : IsWellFormed ops) (before rest : List Op) (parted : before ++ rest ≡ ops) where
  there : (p : ℕ) → p < length before → slice_get ops p ≡ slice_get before p
  there p lt = ap (λ xs. slice_get xs p) (sym parted) ∙ get-front before rest p lt

  found-is : (kind : Kind) (z : ℤ) (q : ℕ) → look_after ops before kind z ≡ Some q → (q < length before) × (created_as_at ops q ≡ Some (kind, z))
  found-is kind z q found =
      let at = position-at (creates kind z) (map (op_said ops) before) q found in
      let o = get-unmap (op_said ops) before q at.0 at.1 in
      let lt = slice_get_within before q o.0 o.1 in
      let says : creates kind z (op_said ops o.0) ≡ true = ap (creates kind z) o.2 ∙ at.2 in
      (lt, ap (option_and_then created_as) (there q lt ∙ o.1) ∙ created-says ops o.0 kind z says)

  created-op : (found : Option Op) (created : Kind × ℤ) → option_and_then created_as found ≡ Some created → (o : Op) × (found ≡ Some o) × (created_as o ≡ Some created)
  created-op None created e = absurd (cc)
  created-op (Some o) created e = (o, refl, e)

  look-finds : (kind : Kind) (z : ℤ) (p : ℕ) → p < length before → created_as_at ops p ≡ Some (kind, z) → look_after ops before kind z ≡ Some p
  look-finds kind z p lt as_at = by (look_after ops before kind z) refl
    where
      by : (found : Option ℕ) → look_after ops before kind z ≡ found → look_after ops before kind z ≡ Some p
      by None missed =
          let o = created-op (slice_get ops p) (kind, z) as_at in
          let at = get-map (op_said ops) before p o.0 (sym (there p lt) ∙ o.1) in
          absurd (true≢false (sym (says-created ops o.0 kind z o.2) ∙ position-none (creates kind z) (map (op_said ops) before) missed p (op_said ops o.0) at))
      by (Some q) found =
          let is = found-is kind z q found in
          found ∙ ap Some (well.distinct q p (kind, z) is.1 as_at)

  look-misses : (kind : Kind) (z : ℤ) → created_as_at ops (length before) ≡ Some (kind, z) → look_after ops before kind z ≡ None
  look-misses kind z as_at = by (look_after ops before kind z) refl
    where
      by : (found : Option ℕ) → look_after ops before kind z ≡ found → look_after ops before kind z ≡ None
      by None missed = missed
      by (Some q) found =
          let is = found-is kind z q found in
          let lt = is.0 in
          let same = well.distinct q (length before) (kind, z) is.1 as_at in
          absurd (omega arith)

  name-again : (kind : Kind) (name : Name) → IsNamedBefore ops (length before) (named kind name) → name_of (look_after ops before) kind (said ops name) ≡ Ok name
  name-again kind (Old id) is = refl
  name-again kind (New p) is =
      let made = creation ops well (length before) p kind is in
      ap (name_of (look_after ops before) kind) made.1.said ∙ placeholder-name (look_after ops before) kind made.0 p made.1.is (look-finds kind made.0 p is.0 made.1.at)

  nodes-again : (nodes : List Name) → All (IsNamedBefore ops (length before)) (map (named Node) nodes) → each (name_of (look_after ops before) Node) (map (said ops) nodes) ≡ Ok nodes
  nodes-again [] is = refl
  nodes-again (x ∷ xs) is =
      ap (λ r. r >>= (λ y. cons_ok y (each (name_of (look_after ops before) Node) (map (said ops) xs)))) (name-again Node x (All-head (IsNamedBefore ops (length before)) (named Node x) (map (named Node) xs) is))
      ∙ ap (cons_ok x) (nodes-again xs (All-tail (IsNamedBefore ops (length before)) (named Node x) (map (named Node) xs) is))

  members-again : (members : List (Member Name)) → All (IsNamedBefore ops (length before)) (map named_member members) → each (member_named (look_after ops before)) (map (member_said ops) members) ≡ Ok members
  members-again [] is = refl
  members-again (x ∷ xs) is =
      ap (λ r. r >>= (λ name. Ok (member_with (member_said ops x) name)) >>= (λ y. cons_ok y (each (member_named (look_after ops before)) (map (member_said ops) xs)))) (name-again x.kind x.name (All-head (IsNamedBefore ops (length before)) (named_member x) (map named_member xs) is))
      ∙ ap (cons_ok x) (members-again xs (All-tail (IsNamedBefore ops (length before)) (named_member x) (map named_member xs) is))

  content-again : (c : Content Name) → All (IsNamedBefore ops (length before)) (names_listed c) → content_named (look_after ops before) (content_said ops c) ≡ Ok c
  content-again (content.Node at) is = refl
  content-again (content.Way nodes) is = ap (λ r. r >>= (λ names. Ok (content.Way names))) (nodes-again nodes is)
  content-again (content.Relation members) is = ap (λ r. r >>= (λ named. Ok (content.Relation named))) (members-again members is)

  op-again : (o : Op) → slice_get ops (length before) ≡ Some o → All (IsNamedBefore ops (length before)) (names_given o) → HasPlaceholder o → IsWithinLimits o → op_of (look_after ops before) (op_said ops o) ≡ Ok o
  op-again (Create placeholder content tags) at is placed within =
      let look = look_after ops before in
      let c = content_said ops content in
      let free = free-again look (kind_of content) placeholder placed (look-misses (kind_of content) placeholder (ap (option_and_then created_as) at)) in
      ap (λ r. r >>= (λ placeholder. content_named look c >>= (λ named. unless (local_cause tags c) (Ok (Create placeholder named tags))))) free
      ∙ ap (λ r. r >>= (λ named. unless (local_cause tags c) (Ok (Create placeholder named tags)))) (content-again content is)
      ∙ ap (λ cause. unless cause (Ok (Create placeholder content tags))) (no-cause ops tags content within)
  op-again (Modify name version content tags) at is placed within =
      let look = look_after ops before in
      let c = content_said ops content in
      let own = named (kind_of content) name in
      ap (λ r. r >>= (λ name. content_named look c >>= (λ named. version_named (Some version) >>= (λ version. unless (local_cause tags c) (Ok (Modify name version named tags)))))) (name-again (kind_of content) name (All-head (IsNamedBefore ops (length before)) own (names_listed content) is))
      ∙ ap (λ r. r >>= (λ named. unless (local_cause tags c) (Ok (Modify name version named tags)))) (content-again content (All-tail (IsNamedBefore ops (length before)) own (names_listed content) is))
      ∙ ap (λ cause. unless cause (Ok (Modify name version content tags))) (no-cause ops tags content within)
  op-again (Delete kind name version if_unused) at is placed within =
      ap (λ r. r >>= (λ name. Ok (Delete kind name version if_unused))) (name-again kind name (All-head (IsNamedBefore ops (length before)) (named kind name) [] is))

reads-on : (ops : List Op) (well : IsWellFormed ops) (before rest : List Op) → before ++ rest ≡ ops → operations_after (map (op_said ops) before) (map (op_said ops) rest) ≡ Ok rest
reads-on ops well before [] parted = refl
reads-on ops well before (o ∷ rest) parted =
    let at : slice_get ops (length before) ≡ Some o = ap (λ xs. slice_get xs (length before)) (sym parted) ∙ get-next before o rest in
    let n = length before in
    let again = op-again ops well before (o ∷ rest) parted o at (well.named n o at) (at-all HasPlaceholder ops well.placeholders n o at) (at-all IsWithinLimits ops well.limits n o at) in
    let later = reads-on ops well (before ++ o ∷ []) rest (append_assoc before (o ∷ []) rest ∙ parted) in
    ap (λ r. or_fault (length (map (op_said ops) before)) r >>= (λ made. cons_ok made (operations_after (map (op_said ops) before ++ op_said ops o ∷ []) (map (op_said ops) rest)))) again
    ∙ ap (λ done. cons_ok o (operations_after done (map (op_said ops) rest))) (sym (map-append (op_said ops) before (o ∷ [])))
    ∙ ap (cons_ok o) later

none-named : (ops rest : List Op) (changeset place : ℕ) → other_changeset changeset place (map (op_said ops) rest) ≡ None
none-named ops [] changeset place = refl
none-named ops (Create placeholder content tags ∷ rest) changeset place = none-named ops rest changeset (place + 1)
none-named ops (Modify name version content tags ∷ rest) changeset place = none-named ops rest changeset (place + 1)
none-named ops (Delete kind name version if_unused ∷ rest) changeset place = none-named ops rest changeset (place + 1)

pub document-again : (ops : List Op) → IsWellFormed ops → (changeset : ℕ) → change_of changeset (document_of ops) ≡ Ok ops
document-again ops well changeset =
    ap (λ r. r >>= (λ built. unless (other_changeset changeset 0 (document_of ops)) (Ok built))) (reads-on ops well [] ops refl)
    ∙ ap (λ other. unless other (Ok ops)) (none-named ops ops changeset 0)
