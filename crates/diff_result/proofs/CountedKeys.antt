-- The ids of creates, taken one after the other, are those counted.
use Rattle.std.proofs.Common.{◌≡◌, ℕ, zero, suc, ◌+◌, ◌<◌, Bool, true, false, cond, List, [], ◌∷◌, ◌++◌, length, Option, Some, None, refl, sym, ap, ◌∙◌, inl, inr, arith, slice_get, add-zero, length-append, append_assoc, append-nil}
use Rattle.std.specs.Prelude.{MatchOption}
use Rattle.std.specs.Option.{option_map_or}
use Rattle.std.proofs.lemmas.Bool.{cases_lt}
use Rattle.std.proofs.lemmas.List.Elements.{All-head}
use Rattle.std.proofs.lemmas.List.Sums.{count_by_more_yes, count_by_more_no}
use Rattle.std.proofs.lemmas.Option.{slice_get_within, get_or_from_slice_get}
use Rattle.std.proofs.Math.ListN.{get_or}
use Rattle.osm_base.specs.declared.keys.Kind.{Kind}
use Rattle.osm_base.specs.declared.keys.Kind.TheVariants.{Node, Way, Relation}
use Rattle.osm_base.specs.declared.keys.Key.{Key}
use Rattle.osm_element.specs.Elements.{key}
use Rattle.osm_change.specs.Change.{kind_of, named, names_listed, created_kind, IsNamedBefore, IsWellFormed}
use Rattle.osm_change.specs.Keys.{next_of, one_more, ids_after, id_of, key_of, keys_after, keys_of}
use Rattle.osm_change.specs.declared.operations.FirstIds.{FirstIds}
use Rattle.osm_change.specs.declared.operations.Name.{Name}
use Rattle.osm_change.specs.declared.operations.Referent.TheVariants.{Old, New}
use Rattle.osm_change.specs.declared.operations.Op.{Op}
use Rattle.osm_change.specs.declared.operations.Op.TheVariants.{Create, Modify, Delete}
use Rattle.diff_result.specs.Counted.{is_kind, creates_kind, counted_id, id_named, counted_key, counted_from, counted_keys}

-- how far the operations of a change were counted
pub record IsCounted (first : FirstIds) (ops : List Op) (n : ℕ) (ks : List Key) (next : FirstIds) : Type 0 where
  pub each : length ks ≡ n
  pub next_is : (kind : Kind) → next_of next kind ≡ counted_id first ops kind n
  pub keys : (p : ℕ) (o : Op) → p < n → slice_get ops p ≡ Some o → slice_get ks p ≡ Some (counted_key first ops p o)

one-more : (next : FirstIds) (made kind : Kind) → next_of (one_more next made) kind ≡ next_of next kind + cond (is_kind kind (Some made)) 1 0
one-more next Node Node = refl
one-more next Node Way = sym (add-zero next.way)
one-more next Node Relation = sym (add-zero next.relation)
one-more next Way Node = sym (add-zero next.node)
one-more next Way Way = refl
one-more next Way Relation = sym (add-zero next.relation)
one-more next Relation Node = sym (add-zero next.node)
one-more next Relation Way = sym (add-zero next.way)
one-more next Relation Relation = refl

counts : (next : FirstIds) (o : Op) (kind : Kind) → next_of (ids_after next o) kind ≡ next_of next kind + cond (creates_kind kind o) 1 0
counts next (Create placeholder content tags) kind = one-more next (kind_of content) kind
counts next (Modify name version content tags) kind = sym (add-zero (next_of next kind))
counts next (Delete k name version if_unused) kind = sym (add-zero (next_of next kind))

counted-more : (first : FirstIds) (ops : List Op) (n : ℕ) (o : Op) (kind : Kind) → slice_get ops n ≡ Some o → counted_id first ops kind (n + 1) ≡ counted_id first ops kind n + cond (creates_kind kind o) 1 0
counted-more first ops n o kind at = by (creates_kind kind o) refl
  where
    within : n < length ops
    within = slice_get_within ops n o at

    same : get_or ops n o ≡ o
    same = get_or_from_slice_get ops n o o at

    by : (b : Bool) → creates_kind kind o ≡ b → counted_id first ops kind (n + 1) ≡ counted_id first ops kind n + cond (creates_kind kind o) 1 0
    by true told = omega (arith, count_by_more_yes (creates_kind kind) ops n o within (ap (creates_kind kind) same ∙ told), ap (λ b. cond {A = ℕ} b 1 0) told)
    by false told = omega (arith, count_by_more_no (creates_kind kind) ops n o within (ap (creates_kind kind) same ∙ told), ap (λ b. cond {A = ℕ} b 1 0) told)

created-at : (found : Option Op) (kind : Kind) → MatchOption found ⊥ (λ o. created_kind o ≡ Some kind) → (o : Op) × (found ≡ Some o) × (created_kind o ≡ Some kind)
created-at None kind h = absurd h
created-at (Some o) kind h = (o, refl, h)

-- the key of a create
created-key : (first : FirstIds) (ops : List Op) (p : ℕ) (o : Op) (kind : Kind) → created_kind o ≡ Some kind → (counted_key first ops p o).id ≡ counted_id first ops kind p
created-key first ops p (Create placeholder content tags) kind made =
    let same : kind_of content ≡ kind = cc in
    ap (λ k. counted_id first ops k p) same
created-key first ops p (Modify name version content tags) kind made = absurd (cc)
created-key first ops p (Delete k name version if_unused) kind made = absurd (cc)

named-id : (first : FirstIds) (ops : List Op) (n : ℕ) (ks : List Key) (next : FirstIds) (kind : Kind) (name : Name) → IsCounted first ops n ks next → IsNamedBefore ops n (named kind name) → id_of ks name ≡ id_named first ops kind name
named-id first ops n ks next kind (Old id) so is = refl
named-id first ops n ks next kind (New place) so is =
    let made = created-at (slice_get ops place) kind is.1 in
    ap (λ found. option_map_or (λ (k : Key). k.id) found 0) (so.keys place made.0 is.0 made.1) ∙ created-key first ops place made.0 kind made.2

key-counted : (first : FirstIds) (ops : List Op) (n : ℕ) (ks : List Key) (next : FirstIds) (o : Op) → IsWellFormed ops → IsCounted first ops n ks next → slice_get ops n ≡ Some o → key_of ks next o ≡ counted_key first ops n o
key-counted first ops n ks next (Create placeholder content tags) well so at =
    ap (key (kind_of content)) (so.next_is (kind_of content))
key-counted first ops n ks next (Modify name version content tags) well so at =
    let before = All-head (IsNamedBefore ops n) (named (kind_of content) name) (names_listed content) (well.named n (Modify name version content tags) at) in
    ap (key (kind_of content)) (named-id first ops n ks next (kind_of content) name so before)
key-counted first ops n ks next (Delete kind name version if_unused) well so at =
    let before = All-head (IsNamedBefore ops n) (named kind name) [] (well.named n (Delete kind name version if_unused) at) in
    ap (key kind) (named-id first ops n ks next kind name so before)

get-before : {A : Type 0} (xs : List A) (y : A) (p : ℕ) → p < length xs → slice_get (xs ++ y ∷ []) p ≡ slice_get xs p
get-before [] y p lt = absurd (omega arith)
get-before (x ∷ xs) y zero lt = refl
get-before (x ∷ xs) y (suc p) lt = get-before xs y p (omega arith)

get-last : {A : Type 0} (xs : List A) (y : A) → slice_get (xs ++ y ∷ []) (length xs) ≡ Some y
get-last [] y = refl
get-last (x ∷ xs) y = get-last xs y

counted-next : (first : FirstIds) (ops : List Op) (n : ℕ) (ks : List Key) (next : FirstIds) (o : Op) → IsWellFormed ops → IsCounted first ops n ks next → slice_get ops n ≡ Some o → IsCounted first ops (n + 1) (ks ++ key_of ks next o ∷ []) (ids_after next o)
counted-next first ops n ks next o well so at = record {
  each = length-append ks (key_of ks next o ∷ []) ∙ ap (λ m. m + 1) so.each;
  next_is = λ kind. counts next o kind ∙ ap (λ m. m + cond (creates_kind kind o) 1 0) (so.next_is kind) ∙ sym (counted-more first ops n o kind at);
  keys = λ p q lt there. elim (cases_lt p n) [
    | inl before ↦ let each = so.each in get-before ks (key_of ks next o) p (omega arith) ∙ so.keys p q before there
    | inr past ↦
        let here : p ≡ n = omega arith in
        let same : Some q ≡ Some o = sym there ∙ ap (slice_get ops) here ∙ at in
        let op : q ≡ o = cc in
        ap (slice_get (ks ++ key_of ks next o ∷ [])) (here ∙ sym so.each) ∙ get-last ks (key_of ks next o) ∙ ap Some (key-counted first ops n ks next o well so at) ∙ ap (λ m. Some (counted_key first ops m o)) (sym here) ∙ ap (λ x. Some (counted_key first ops p x)) (sym op)
  ];
}

counted-rest : (first : FirstIds) (ops : List Op) (n : ℕ) (rest : List Op) (ks : List Key) (next : FirstIds) → IsWellFormed ops → IsCounted first ops n ks next → ((k : ℕ) (o : Op) → slice_get rest k ≡ Some o → slice_get ops (n + k) ≡ Some o) → keys_after ks next rest ≡ ks ++ counted_from first ops n rest
counted-rest first ops n [] ks next well so part = sym (append-nil ks)
counted-rest first ops n (o ∷ rest) ks next well so part =
    let here : slice_get ops n ≡ Some o = ap (slice_get ops) (sym (add-zero n)) ∙ part zero o refl in
    let later = counted-rest first ops (n + 1) rest (ks ++ key_of ks next o ∷ []) (ids_after next o) well (counted-next first ops n ks next o well so here) (λ k p e. let same : (n + 1) + k ≡ n + suc k = omega arith in ap (slice_get ops) same ∙ part (suc k) p e) in
    later
    ∙ append_assoc ks (key_of ks next o ∷ []) (counted_from first ops (n + 1) rest)
    ∙ ap (λ k. ks ++ k ∷ counted_from first ops (n + 1) rest) (key-counted first ops n ks next o well so here)

starts : (first : FirstIds) (ops : List Op) → IsCounted first ops 0 [] first
starts first ops = record {
  each = refl;
  next_is = λ kind. sym (add-zero (next_of first kind));
  keys = λ p o lt at. absurd (omega arith);
}

pub keys-counted : (first : FirstIds) (ops : List Op) → IsWellFormed ops → keys_of first ops ≡ counted_keys first ops
keys-counted first ops well = counted-rest first ops 0 ops [] first well (starts first ops) (λ k o e. let same : 0 + k ≡ k = omega arith in ap (slice_get ops) same ∙ e)
