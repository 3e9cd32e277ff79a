-- Tags of several versions in one text that grows.
use Rattle.std.proofs.Common.{◌≡◌, ℕ, ◌-◌, List, [], ◌∷◌, ◌++◌, length, take, drop, map, refl, sym, ap, ◌∙◌, subst, arith, length-append, All}
use Rattle.std.proofs.Math.Seq.{drop-append_seam, take-length}
use Rattle.std.proofs.lemmas.List.{drop-append-le, map-append}
use Rattle.std.proofs.lemmas.List.Elements.{All-head, All-tail, All-weaker}
use Rattle.std.proofs.lemmas.Str.{IsUtf8-append, IsUtf8-nil}
use Rattle.std.specs.List.{slice_range}
use Rattle.std.specs.Str.{IsUtf8}
use Rattle.osm_element.specs.Tags.{cut, AreEnds}
use Rattle.osm_element.specs.TagLists.{list_at, IsPlace}
use Rattle.osm_element.specs.declared.labels.Ends.{Ends}
use Rattle.osm_element.specs.declared.tag_lists.Place.{Place}
use Rattle.osm_element.proofs.Cut.{range_kept}

-- ---- the places that there are

module _ (ends more : List Ends) (text behind : List ℕ) where
  pub place_stays : IsUtf8 behind → (p : Place) → IsPlace ends text p → IsPlace (ends ++ more) (text ++ behind) p
  place_stays utf8 p is =
      record {
        rises = is.rises;
        within = omega (arith, length-append text behind, is.within);
        begins = subst IsUtf8 (sym (drop-append-le p.text_from text behind (omega (arith, is.rises, is.within)))) (IsUtf8-append (drop p.text_from text) behind is.begins utf8);
        rest = subst IsUtf8 (sym (drop-append-le p.text_to text behind is.within)) (IsUtf8-append (drop p.text_to text) behind is.rest utf8);
        ends_rise = is.ends_rise;
        ends_within = omega (arith, length-append ends more, is.ends_within);
        are_ends = rw (range_kept ends more p.ends_from p.ends_to is.ends_rise is.ends_within, range_kept text behind p.text_from p.text_to is.rises is.within) is.are_ends;
      }

  list_stays : (p : Place) → IsPlace ends text p → list_at (ends ++ more) (text ++ behind) p ≡ list_at ends text p
  list_stays p is = rw (range_kept ends more p.ends_from p.ends_to is.ends_rise is.ends_within, range_kept text behind p.text_from p.text_to is.rises is.within) refl

  lists_stay : (ps : List Place) → All (IsPlace ends text) ps → map (list_at (ends ++ more) (text ++ behind)) ps ≡ map (list_at ends text) ps
  lists_stay [] all = refl
  lists_stay (p ∷ ps) all =
      rw (list_stays p (All-head (IsPlace ends text) p ps all), lists_stay ps (All-tail (IsPlace ends text) p ps all)) refl

-- ---- one more

seam : {A : Type 0} (xs ys : List A) → slice_range (xs ++ ys) (length xs) (length (xs ++ ys)) ≡ ys
seam xs ys =
    let count : length (xs ++ ys) - length xs ≡ length ys = omega (arith, length-append xs ys) in
    ap (take (length (xs ++ ys) - length xs)) (drop-append_seam xs ys) ∙ ap (λ n. take n ys) count ∙ take-length ys

nothing_left : {A : Type 0} (xs : List A) → drop (length xs) xs ≡ []
nothing_left [] = refl
nothing_left (x ∷ xs) = nothing_left xs

module _ (ends more : List Ends) (text behind : List ℕ) (p : Place) (from : p.text_from ≡ length text) (to : p.text_to ≡ length (text ++ behind)) (first : p.ends_from ≡ length ends) (last : p.ends_to ≡ length (ends ++ more)) where
  text_there : slice_range (text ++ behind) p.text_from p.text_to ≡ behind
  text_there = rw (from, to) (seam text behind)

  ends_there : slice_range (ends ++ more) p.ends_from p.ends_to ≡ more
  ends_there = rw (first, last) (seam ends more)

  pub place_there : IsUtf8 behind → AreEnds 0 more behind → IsPlace (ends ++ more) (text ++ behind) p
  place_there utf8 are =
      record {
        rises = omega (arith, from, to, length-append text behind);
        within = omega (arith, to);
        begins = subst IsUtf8 (sym (ap (λ n. drop n (text ++ behind)) from ∙ drop-append_seam text behind)) utf8;
        rest = subst IsUtf8 (sym (ap (λ n. drop n (text ++ behind)) to ∙ nothing_left (text ++ behind))) IsUtf8-nil;
        ends_rise = omega (arith, first, last, length-append ends more);
        ends_within = omega (arith, last);
        are_ends = rw (ends_there, text_there) are;
      }

  pub list_there : list_at (ends ++ more) (text ++ behind) p ≡ cut 0 more behind
  list_there = rw (ends_there, text_there) refl

  pub one_more_list : (ps : List Place) → All (IsPlace ends text) ps
      → map (list_at (ends ++ more) (text ++ behind)) (ps ++ p ∷ []) ≡ map (list_at ends text) ps ++ cut 0 more behind ∷ []
  one_more_list ps all =
      map-append (list_at (ends ++ more) (text ++ behind)) ps (p ∷ [])
      ∙ rw (lists_stay ends more text behind ps all, list_there) refl

pub places_stay : (ends more : List Ends) (text behind : List ℕ) → IsUtf8 behind → (ps : List Place) → All (IsPlace ends text) ps → All (IsPlace (ends ++ more) (text ++ behind)) ps
places_stay ends more text behind utf8 ps all = All-weaker (IsPlace ends text) (IsPlace (ends ++ more) (text ++ behind)) (place_stays ends more text behind utf8) ps all
