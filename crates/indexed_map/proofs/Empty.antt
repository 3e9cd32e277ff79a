-- A map without elements.
use Rattle.std.proofs.Common.{◌≡◌, ℕ, ◌<◌, ◌≤◌, ◌-◌, Bool, true, false, ◌&&◌, ⊎_elim, List, [], length, map, None, refl, sym, ap, ◌∙◌, subst, arith}
use Rattle.std.specs.List.{list_any}
use Rattle.std.specs.Prelude.{not, option_and_then, slice_index, ◌==◌, if◌then◌else◌}
use Rattle.osm_base.specs.Key.{key_eq, lists_key}
use Rattle.osm_base.specs.Place.{Position}
use Rattle.osm_base.specs.declared.keys.Kind.{Kind}
use Rattle.osm_base.specs.declared.keys.Kind.TheVariants.{Node, Way, Relation}
use Rattle.osm_base.specs.declared.keys.Key.{Key}
use Rattle.osm_element.specs.Version.{Version}
use Rattle.osm_element.specs.Elements.{no_elements, key, histories, history, position_in, refs_in}
use Rattle.osm_element.proofs.Pushed.{last_content}
use Rattle.osm_element.proofs.Used.{known}
use Rattle.history_store.specs.Store.{Stored, empty, free, free_list}
use Rattle.reverse_refs.specs.Users.{UserRows, users_in, past_in, free_in}
use Rattle.tile_grid.specs.declared.cells.Cell.{Cell}
use Rattle.tile_grid.specs.Tile.{Held}
use Rattle.tile_grid.specs.Grid.{times, times_ever, free_at}
use Rattle.indexed_map.specs.Ever.{times_brought}
use Rattle.indexed_map.specs.Indexed.{IsMap, Notes, stand}
use Rattle.indexed_map.specs.Placed.{lies}

none_given : (kind : Kind) → length (histories no_elements kind) ≡ 0
none_given Node = refl
none_given Way = refl
none_given Relation = refl

no_history : (a : Key) → history no_elements a ≡ []
no_history a =
    ⊎_elim
    (λ none. none)
    (λ given. let some : 0 < a.id = given.0 in let few : a.id ≤ length (histories no_elements a.kind) = given.1 in absurd (omega (arith, some, few, none_given a.kind)))
    (known no_elements a)

no_room : (k : Key) → free empty.room k ≡ 0
no_room k = along (k.id == 0) k.kind
  where
    along : (b : Bool) (kind : Kind) → (if b then 0 else slice_index (free_list empty.room kind) (k.id - 1)) ≡ 0
    along true kind = refl
    along false Node = refl
    along false Way = refl
    along false Relation = refl

pub empty_map :
    (s : Stored) (u : UserRows) (g : List (List Held)) (notes : Notes)
    → s ≡ empty
    → ((k : Key) → users_in u k ≡ [])
    → ((k : Key) → past_in u k ≡ [])
    → ((k : Key) → free_in u k ≡ 0)
    → ((c : Cell) (n : ℕ) → times g c n ≡ 0)
    → ((p : Position) → free_at g p ≡ 0)
    → ((c : Cell) (n : ℕ) → times_ever g c n ≡ 0)
    → IsMap (stand s u g) notes
empty_map s u g notes is no_users no_past no_uses no_nodes no_cells no_nodes_ever = subst (λ (x : Stored). IsMap (stand x u g) notes) (sym is) (record {
  indexed = record {
    holds = λ a b. ap (λ (ks : List Key). lists_key ks a) (no_users b) ∙ sym (ap (λ (vs : List Version). lists_key (refs_in (last_content vs)) b && not (key_eq a b)) (no_history a));
    past = λ a b. ap (λ (ks : List Key). lists_key ks a) (no_past b)
        ∙ sym (ap (λ (vs : List Version). (list_any (λ held. lists_key (refs_in held) b) (map (λ (v : Version). v.content) vs) && not (key_eq a b)) && not (lists_key (refs_in (last_content vs)) b && not (key_eq a b))) (no_history a));
  };
  placed = record { holds = λ c n. no_nodes c n ∙ sym (ap (λ (vs : List Version). if lies c (option_and_then position_in (last_content vs)) then 1 else 0) (no_history (key Node n))) };
  placed_ever = record { holds = λ c n. no_nodes_ever c n ∙ sym (ap (λ (vs : List Version). times_brought c None (map (λ (v : Version). v.content) vs)) (no_history (key Node n))) };
  noted = record { versions = λ k out. no_room k; users = λ b out. no_uses b; cells = λ p out. no_cells p };
})
