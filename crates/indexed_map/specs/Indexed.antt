-- The elements with their indexes, and the room for more.
use Rattle.std.specs.Prelude.{◌≡◌, ℕ, ◌≤◌, ◌<◌, ◌==◌, Bool, ◌&&◌, not, if◌then◌else◌, false, List, Option, length, count_by}
use Rattle.std.specs.List.{list_any}
use Rattle.std.specs.Option.{ForSome}
use Rattle.osm_base.specs.Key.{key_eq, lists_key, IsRising}
use Rattle.osm_base.specs.Place.{Position}
use Rattle.osm_base.specs.declared.keys.Key.{Key}
use Rattle.osm_element.specs.Elements.{uses, users, refs_in}
use Rattle.osm_element.specs.declared.contents.Content.{Content}
use Rattle.osm_element.specs.declared.elements.Elements.{Elements}
use Rattle.history_store.specs.Store.{Stored, Room, free}
use Rattle.reverse_refs.specs.Users.{UserRows, users_in, past_in, knows, free_in}
use Rattle.tile_grid.specs.Grid.{free_at, same_cell}
use Rattle.tile_grid.specs.Tile.{Held}
use Rattle.indexed_map.specs.Ever.{has_used, IsPlacedEver}
use Rattle.indexed_map.specs.Placed.{IsPlaced}

-- the elements, the room for more versions, the rows of their users, and the cells of their nodes, each with those that left
pub record Stand : Type 0 where
  pub elements : Elements
  pub versions : Room
  pub users : UserRows
  pub cells : List (List Held)

abbrev pub stand : Stored → UserRows → List (List Held) → Stand
stand s u g = record { elements = s.elements; versions = s.room; users = u; cells = g }

-- the rows hold the users of each element, and behind them those of which only earlier versions list it
pub record IsIndexed (E : Elements) (u : UserRows) : Type 0 where
  pub holds : (a b : Key) → lists_key (users_in u b) a ≡ uses E a b
  pub past : (a b : Key) → lists_key (past_in u b) a ≡ has_used E a b && not (uses E a b)

-- the elements and the cells for which something was promised
pub record Notes : Type 0 where
  pub versions : List Key
  pub users : List Key
  pub cells : List Position

-- nothing is promised but what is noted
pub record IsNoted (w : Stand) (n : Notes) : Type 0 where
  pub versions : (k : Key) → lists_key n.versions k ≡ false → free w.versions k ≡ 0
  pub users : (b : Key) → lists_key n.users b ≡ false → free_in w.users b ≡ 0
  pub cells : (p : Position) → list_any (same_cell p) n.cells ≡ false → free_at w.cells p ≡ 0

-- the indexes are those of the elements
pub record IsMap (w : Stand) (n : Notes) : Type 0 where
  pub indexed : IsIndexed w.elements w.users
  pub placed : IsPlaced w.elements w.cells
  pub placed_ever : IsPlacedEver w.elements w.cells
  pub noted : IsNoted w n

-- nothing is promised
pub record IsBare (w : Stand) : Type 0 where
  pub versions : (k : Key) → free w.versions k ≡ 0
  pub users : (b : Key) → free_in w.users b ≡ 0
  pub cells : (p : Position) → free_at w.cells p ≡ 0

-- no element uses this one
abbrev pub is_unused : Elements → Key → Bool
is_unused E k = length (users E k) == 0

-- a list in order has just the elements that a content lists
pub record IsListOf (content : Option (Content ℕ)) (listed : List Key) : Type 0 where
  pub rising : IsRising listed
  pub same : (b : Key) → lists_key listed b ≡ lists_key (refs_in content) b

-- how often a list has an element
abbrev pub times_listed : List Key → Key → ℕ
times_listed ks b = count_by (λ x. key_eq b x) ks

-- how often a list has an element whose row doesn't have the user yet, neither now nor before
abbrev pub times_unknown : UserRows → Key → List Key → Key → ℕ
times_unknown u a ks b = if knows u b a then 0 else times_listed ks b

-- how often a list has an element that no version of the user lists
abbrev pub times_new : Elements → Key → List Key → Key → ℕ
times_new E a ks b = if has_used E a b then 0 else times_listed ks b

-- a version of an element, uses of others, and its place need no memory
pub record HasRoom (w : Stand) (k : Key) (listed : List Key) (at : Option Position) : Type 0 where
  pub version : 0 < free w.versions k
  pub users : (b : Key) → times_new w.elements k listed b ≤ free_in w.users b
  pub cell : ForSome at (λ p. 0 < free_at w.cells p)
