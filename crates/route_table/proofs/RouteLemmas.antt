-- Routes that were put in, and what a match took of a path.
use Rattle.std.proofs.Common.{◌≡◌, ℕ, ◌+◌, ◌-◌, ◌<◌, ◌≤◌, get_or, Option, sym, ap, ◌∙◌, arith, Bool, true, false, ◌&&◌, leb, List, [], ◌∷◌, length, take, drop, IsAscii, map, Result, Ok, Err, refl, subst}
use Rattle.std.specs.Prelude.{slice_index_or}
use Rattle.std.specs.Borrow.{Bor}
use Rattle.std.specs.List.{fold}
use Rattle.std.proofs.lemmas.List.{take_all, get_or-map, length-map}
use Rattle.std.proofs.lemmas.List.Sums.{fold_more}
use Rattle.matchit.specs.Route.{parse_route}
use Rattle.matchit.specs.declared.params.Params.{Params}
use Rattle.route_table.specs.Details.{Details, details_of, taken_by}
use Rattle.matchit.specs.Rows.{RowsOf}
use Rattle.matchit.specs.Route.{Scan}
use Rattle.matchit.specs.Router.{RouteOf, InsertsRead}
use Rattle.matchit.specs.Params.{part_of, walk, wild_from, wild_stop, after_token, Shows}
use Rattle.matchit.specs.declared.error.InsertError.{InsertError}
use Rattle.std.proofs.lemmas.Str.{IsAscii-take, IsAscii-drop, IsUtf8-from_ascii}
use Rattle.std.proofs.lemmas.Str.Ascii.{IsAscii-nil}
use Rattle.route_table.specs.declared.resources.Resource.{Resource}
use Rattle.route_table.specs.Paths.{Path, placed_route, with_path, paths, routes}

pub inserted : (x : Result Scan InsertError) (resource : Resource) (old new : RowsOf (RouteOf Resource))
    → InsertsRead x resource old new (Ok tt) → new ≡ placed_route x resource old
inserted (Ok s) resource old new h = h.1
inserted (Err e) resource old new h = h.0

part_ascii : (path : List ℕ) (start end : ℕ) → IsAscii path → IsAscii (part_of path start end)
part_ascii path start end ascii = by_test (leb start end && leb end (length path)) refl
  where
    by_test : (fits : Bool) → (leb start end && leb end (length path)) ≡ fits → IsAscii (part_of path start end)
    by_test true e = rw e (IsAscii-take (drop start path) (end - start) (IsAscii-drop path start ascii))
    by_test false e = rw e IsAscii-nil

abbrev pub AllAscii : List (List ℕ × List ℕ) → Type 0
AllAscii [] = Unit {0}
AllAscii (pair ∷ rest) = IsAscii pair.1 × AllAscii rest

-- what is taken of an ASCII path is ASCII
pub taken_ascii :
    (pattern text path : List ℕ) (names : List (ℕ × ℕ)) (token at : ℕ)
    → IsAscii path → AllAscii (walk pattern text path names token at)
taken_ascii pattern text path [] token at ascii = tt
taken_ascii pattern text path (name ∷ names) token at ascii = (
  part_ascii path (wild_from (drop token pattern) (length path) token at).1 (wild_stop pattern (wild_from (drop token pattern) (length path) token at).0 path (wild_from (drop token pattern) (length path) token at).1) ascii,
  taken_ascii pattern text path names
      (after_token (wild_from (drop token pattern) (length path) token at).0)
      (wild_stop pattern (wild_from (drop token pattern) (length path) token at).0 path (wild_from (drop token pattern) (length path) token at).1)
      ascii,
)

-- ---- the parts that an iterator gives one after the other

pub first_part :
    (s t : List (List ℕ × List ℕ)) (p : List ℕ × List ℕ) (shown : List ℕ)
    → AllAscii s → s ≡ p ∷ t → Shows p.1 shown → shown ≡ slice_index_or (map (λ part. part.1) s) 0 []
first_part s t p shown ascii is shows = rw is (shows (IsUtf8-from_ascii p.1 (subst AllAscii is ascii).0))

pub second_part :
    (s t u : List (List ℕ × List ℕ)) (p q : List ℕ × List ℕ) (shown : List ℕ)
    → AllAscii s → s ≡ p ∷ t → t ≡ q ∷ u → Shows q.1 shown → shown ≡ slice_index_or (map (λ part. part.1) s) 1 []
second_part s t u p q shown ascii is then shows =
    rw (is, then) (shows (IsUtf8-from_ascii q.1 (subst AllAscii then (subst AllAscii is ascii).1).0))

-- ---- the rows of the table, put in one after the other

abbrev pub shown_path : Bor (List ℕ) × Resource → Path
shown_path row = (row.0.now, row.1)

pub one_more :
    (items : List (Bor (List ℕ) × Resource)) (i : ℕ) (d : Bor (List ℕ) × Resource) (old new : RowsOf (RouteOf Resource))
    → i < length items
    → old ≡ fold with_path [] (take i (map shown_path items))
    → InsertsRead (parse_route (get_or items i d).0.now) (get_or items i d).1 old new (Ok tt)
    → new ≡ fold with_path [] (take (i + 1) (map shown_path items))
one_more items i d old new below before put =
    let all = map shown_path items in
    let here : get_or all i (shown_path d) ≡ shown_path (get_or items i d) = get_or-map shown_path items i d (shown_path d) below in
    inserted (parse_route (get_or items i d).0.now) (get_or items i d).1 old new put
    ∙ ap (λ (rows : RowsOf (RouteOf Resource)). with_path rows (shown_path (get_or items i d))) before
    ∙ ap (with_path (fold with_path [] (take i all))) (sym here)
    ∙ sym (fold_more with_path [] all i (shown_path d) (omega (arith, length-map items shown_path)))

pub all_of_them :
    (items : List (Bor (List ℕ) × Resource)) (i : ℕ)
    → length items ≤ i → map shown_path items ≡ paths → fold with_path [] (take i (map shown_path items)) ≡ routes
unfolding routes
all_of_them items i whole are =
    ap (fold with_path []) (take_all i (map shown_path items) (omega (arith, length-map items shown_path)) ∙ are)

-- ---- a match as a route with its details

abbrev pub details_with : List ℕ → List ℕ → Option (List ℕ) → Details
details_with id version query = record { id = id; version = version; query = query }

pub found_details :
    (m : Params) (path id version : List ℕ) (query : Option (List ℕ)) (resource : Resource)
    → m.path.now ≡ path
    → id ≡ slice_index_or (taken_by m) 0 []
    → version ≡ slice_index_or (taken_by m) 1 []
    → details_with id version query
    ≡ details_of (record { pattern = m.pattern.now; text = m.text.now; names = m.names.now; value = resource }) path query
found_details m path id version query resource same first second =
    let route : RouteOf Resource = record { pattern = m.pattern.now; text = m.text.now; names = m.names.now; value = resource } in
    ap (λ (part : List ℕ). details_with part version query) first
    ∙ ap (λ (part : List ℕ). details_with (slice_index_or (taken_by m) 0 []) part query) second
    ∙ ap (λ (p : List ℕ). details_of route p query) same
