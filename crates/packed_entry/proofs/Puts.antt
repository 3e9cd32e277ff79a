-- Writing items one after the other, as a loop does.
use Rattle.std.proofs.Common.{◌≡◌, ℕ, ◌+◌, ◌^◌, ◌≤◌, ◌<◌, List, [], ◌∷◌, ◌++◌, length, take, get_or, sym, ap, ◌∙◌, subst}
use Rattle.std.specs.Prelude.{All}
use Rattle.std.specs.List.{flat_map}
use Rattle.std.proofs.lemmas.List.{flat_map_more, take_all, take_more}
use Rattle.std.proofs.lemmas.List.Elements.{All-push}
use Rattle.osm_element.specs.Tags.{Tag, KeysRise, byte_count}
use Rattle.packed_entry.specs.Typed.{Fits64, IsTag, AreTags}

-- the items, which are typed, were put behind the first bytes
pub record Puts {X : Type 0} (packed : X → List ℕ) (P : X → Type 0) (first now : List ℕ) (xs : List X) : Type 0 where
  pub bytes : now ≡ first ++ flat_map packed xs
  pub typed : All P xs

pub one_more : {X : Type 0} (packed : X → List ℕ) (P : X → Type 0) (first now later : List ℕ) (xs : List X) (i : ℕ) (d x : X)
    → i < length xs → x ≡ get_or xs i d → later ≡ now ++ packed x → P x → Puts packed P first now (take i xs) → Puts packed P first later (take (i + 1) xs)
one_more packed P first now later xs i d x lt is longer typed so_far =
    let more : take (i + 1) xs ≡ take i xs ++ x ∷ [] = take_more xs i d lt ∙ ap (λ y. take i xs ++ y ∷ []) (sym is) in
    rw more (record {
      bytes = longer ∙ ap (λ bytes. bytes ++ packed x) so_far.bytes ∙ flat_map_more packed first (take i xs) x;
      typed = All-push P (take i xs) x so_far.typed typed;
    })

pub all_of : {X : Type 0} (packed : X → List ℕ) (P : X → Type 0) (first now : List ℕ) (xs : List X) (i : ℕ) → length xs ≤ i → Puts packed P first now (take i xs) → Puts packed P first now xs
all_of packed P first now xs i le so_far = subst (Puts packed P first now) (take_all i xs le) so_far

pub are_tags : (tags list : List Tag) (n room : ℕ) → list ≡ tags → KeysRise tags → n ≡ length list → n < 2 ^ 64 → room ≡ byte_count list → room < 2 ^ 64 → All IsTag list → AreTags tags
are_tags tags list n room same rise is_n fits is_room fits_room each =
    subst AreTags same (record { rise = subst KeysRise (sym same) rise; fit = subst Fits64 is_n fits; room = subst Fits64 is_room fits_room; each = each })
