-- The test whether keys rise tells that they do.
use Rattle.std.specs.Prelude.{if◌then◌else◌}
use Rattle.std.proofs.Common.{◌≡◌, ℕ, Bool, true, List, [], ◌∷◌, map, Some, None, refl, sym, ap, ◌∙◌}
use Rattle.std.proofs.lemmas.Bool.{and_parts, and_from, false_from_ne_true}
use Rattle.std.specs.List.{AllByRecursion}
use Rattle.std.specs.List.Sorted.{IsStrictlySortedBy}
use Rattle.std.specs.Ordering.{is_lt, nat_cmp}
use Rattle.std.specs.Cmp.Lexicographic.{slice_cmp}
use Rattle.std.specs.declared.cmp.Ordering.{Ordering}
use Rattle.std.specs.declared.cmp.Ordering.TheVariants.{Less, Equal, Greater}
use Rattle.osm_element.specs.Tags.{Tag, KeysRise}
use Rattle.packed_entry.specs.Read.{number_at, each_at, tag_at, is_key_below, do_keys_rise, rising, some_tags_at}

less : (o : Ordering) → is_lt o ≡ true → o ≡ Less
less Less e = refl
less Equal e = absurd (cc)
less Greater e = absurd (cc)

below_holds : (key : List ℕ) (tags : List Tag) → is_key_below key tags ≡ true → AllByRecursion (λ y. slice_cmp nat_cmp key y ≡ Less) (map (λ p. p.0) tags)
below_holds key [] e = tt
below_holds key (tag ∷ tags) e =
    let both = and_parts (is_lt (slice_cmp nat_cmp key tag.0)) (is_key_below key tags) e in
    (less (slice_cmp nat_cmp key tag.0) both.0, below_holds key tags both.1)

below_told : (key : List ℕ) (tags : List Tag) → AllByRecursion (λ y. slice_cmp nat_cmp key y ≡ Less) (map (λ p. p.0) tags) → is_key_below key tags ≡ true
below_told key [] h = refl
below_told key (tag ∷ tags) h = and_from (is_lt (slice_cmp nat_cmp key tag.0)) (is_key_below key tags) (ap is_lt h.0) (below_told key tags h.1)

pub rise_holds : (tags : List Tag) → do_keys_rise tags ≡ true → KeysRise tags
unfolding do_keys_rise IsStrictlySortedBy
rise_holds [] e = tt
rise_holds (tag ∷ tags) e =
    let both = and_parts (is_key_below tag.0 tags) (do_keys_rise tags) e in
    (below_holds tag.0 tags both.0, rise_holds tags both.1)

pub rise_told : (tags : List Tag) → KeysRise tags → do_keys_rise tags ≡ true
unfolding do_keys_rise IsStrictlySortedBy
rise_told [] h = refl
rise_told (tag ∷ tags) h = and_from (is_key_below tag.0 tags) (do_keys_rise tags) (below_told tag.0 tags h.0) (rise_told tags h.1)

-- ---- some tags that were read

read_so : (n : ℕ) (bytes mid new : List ℕ) (room : ℕ) (table : List Tag) → number_at bytes ≡ Some (room, mid) → each_at tag_at n mid ≡ Some (table, new) → some_tags_at n bytes ≡ rising table new
unfolding some_tags_at
read_so n bytes mid new room table first second = rw (first, second) refl

pub tags_there : (n : ℕ) (bytes mid new : List ℕ) (room : ℕ) (table tags : List Tag) → number_at bytes ≡ Some (room, mid) → each_at tag_at n mid ≡ Some (table, new)
    → KeysRise table → tags ≡ table → some_tags_at n bytes ≡ Some (tags, new)
tags_there n bytes mid new room table tags first second rise same =
    read_so n bytes mid new room table first second ∙ ap (λ (b : Bool). if b then Some (table, new) else None) (rise_told table rise) ∙ ap (λ (t : List Tag). Some (t, new)) (sym same)

pub no_tags : (n : ℕ) (bytes mid new : List ℕ) (room : ℕ) (table : List Tag) → number_at bytes ≡ Some (room, mid) → each_at tag_at n mid ≡ Some (table, new)
    → (KeysRise table → ⊥) → some_tags_at n bytes ≡ None
no_tags n bytes mid new room table first second fall =
    read_so n bytes mid new room table first second ∙ ap (λ (b : Bool). if b then Some (table, new) else None) (false_from_ne_true (do_keys_rise table) (λ e. fall (rise_holds table e)))
