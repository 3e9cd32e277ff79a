use Rattle.std.proofs.Common.{◌≡◌, ◌+◌, ◌≤◌, ◌&&◌, ◌||◌, ℕ, true, List, length, sym, ap, ◌∙◌, subst, arith}
use Rattle.std.specs.Prelude.{not, Option, option_map, option_and_then}
use Rattle.osm_base.specs.Key.{key_eq, lists_key}
use Rattle.osm_base.specs.declared.keys.Key.{Key}
use Rattle.osm_element.specs.Elements.{content_of, next_id, refs_in, version_in}
use Rattle.osm_element.specs.Held.{held_content}
use Rattle.osm_element.specs.Version.{Version}
use Rattle.osm_element.specs.declared.contents.Content.{Content}
use Rattle.osm_element.specs.declared.elements.Elements.{Elements}
use Rattle.reverse_refs.specs.Users.{UserRows, users_in, past_in, knows, free_in}
use Rattle.indexed_map.specs.Ever.{has_used, IsPlacedEver}
use Rattle.indexed_map.specs.Indexed.{Stand, IsIndexed, times_new, stand}
use Rattle.indexed_map.specs.Placed.{IsPlaced}
use Rattle.indexed_map.proofs.EverHeld.{used-push}
use Rattle.indexed_map.proofs.Indexing.{indexed, noted_less}
use Rattle.indexed_map.proofs.Known.{known_left, new_unknown, spent_new}
use Rattle.indexed_map.proofs.maps.IndexedMap.revise.Goals as goal

pub begin_uses-requires : goal.begin_uses-requires
begin_uses-requires c b =
    let P : Stand → Type 0 = λ w. times_new w.elements c.args.key c.args.listed.now b ≤ free_in w.users b in
    let room : P (stand c.self.inside.store c.self.inside.users c.self.inside.grid) = subst P (sym c.self.view_is) (c.requires.room.users b) in
    let known : knows c.end_uses.new.users b c.args.key ≡ knows c.self.inside.users b c.args.key
    = known_left c.self.inside.users c.end_uses.new.users c.args.key b _ (c.end_uses.ensures.users c.args.key b) (c.end_uses.ensures.past c.args.key b) in
    let told = new_unknown c.self.inside.store.elements c.self.inside.users c.end_uses.new.users c.args.key b c.args.listed.now c.self.invariant.indexed known in
    omega (arith, told, room, c.end_uses.ensures.room b)

pub returns-clause-users : goal.returns-clause-users
returns-clause-users c b =
    let P : Stand → Type 0 = λ w. free_in w.users b ≤ free_in c.begin_uses.new.users b + times_new w.elements c.args.key c.args.listed.now b in
    let known : knows c.end_uses.new.users b c.args.key ≡ knows c.self.inside.users b c.args.key
    = known_left c.self.inside.users c.end_uses.new.users c.args.key b _ (c.end_uses.ensures.users c.args.key b) (c.end_uses.ensures.past c.args.key b) in
    let told = new_unknown c.self.inside.store.elements c.self.inside.users c.end_uses.new.users c.args.key b c.args.listed.now c.self.invariant.indexed known in
    let few = spent_new c.end_uses.new.users c.args.key c.args.listed.now b in
    let kept : P (stand c.self.inside.store c.self.inside.users c.self.inside.grid) = omega (arith, told, few, c.begin_uses.ensures.spent b, c.end_uses.ensures.room b) in
    subst P c.self.view_is kept

pub returns-clause-ever : goal.returns-clause-ever
returns-clause-ever c a b =
    let P : Stand → Type 0 = λ w. has_used w.elements a b ≡ true → has_used c.push_version.new.self.elements a b ≡ true in
    let Q : Stand → Type 0 = λ w. c.args.key.id ≤ next_id w.elements c.args.key.kind in
    let H : Elements → Type 0 = λ E. has_used E a b ≡ true in
    let follows : c.args.key.id ≤ next_id c.self.inside.store.elements c.args.key.kind = subst Q (sym c.self.view_is) c.requires.follows in
    let kept : P (stand c.self.inside.store c.self.inside.users c.self.inside.grid)
    = λ had. subst H (sym c.push_version.ensures.elements) (used-push c.self.inside.store.elements c.args.key a b c.args.version c.requires.counted follows had) in
    subst P c.self.view_is kept

pub invariant_of-self : goal.invariant_of-self
invariant_of-self c =
    let old : UserRows = c.self.inside.users in
    let left : UserRows = c.end_uses.new.users in
    let U : Option (Content ℕ) → Type 0 = λ held. (a b : Key) → lists_key (users_in left b) a ≡ lists_key (users_in old b) a && not (lists_key (refs_in held) b && (key_eq c.args.key a && not (lists_key c.args.listed.now b))) in
    let L : Option (Content ℕ) → Type 0 = λ held. (a b : Key) → lists_key (past_in left b) a ≡ lists_key (past_in old b) a || (lists_key (users_in old b) a && (lists_key (refs_in held) b && (key_eq c.args.key a && not (lists_key c.args.listed.now b)))) in
    let held : option_map held_content c.held_last.result ≡ content_of c.self.inside.store.elements c.args.key
    = c.held_last.ensures ∙ ap (λ (vs : List Version). option_and_then (λ (v : Version). v.content) (version_in vs (length vs))) c.history-versions.ensures in
    let I : Elements → Type 0 = λ E. IsIndexed E c.begin_uses.new.users in
    let P : Elements → Type 0 = λ E. IsPlaced E c.move_node.new.grid in
    let H : Elements → Type 0 = λ E. IsPlacedEver E c.move_node.new.grid in
    let Q : Stand → Type 0 = λ w. c.args.key.id ≤ next_id w.elements c.args.key.kind in
    let follows : c.args.key.id ≤ next_id c.self.inside.store.elements c.args.key.kind = subst Q (sym c.self.view_is) c.requires.follows in
    record {
      indexed = subst I
          (sym c.push_version.ensures.elements)
          (indexed c.self.inside.store.elements c.self.inside.users c.end_uses.new.users c.begin_uses.new.users c.args.key c.args.version c.args.listed.now
          c.requires.counted
          follows
          c.self.invariant.indexed
          c.requires.listed
          (subst U held c.end_uses.ensures.users)
          c.begin_uses.ensures.users
          (subst L held c.end_uses.ensures.past)
          c.begin_uses.ensures.past);
      placed = subst P (sym c.push_version.ensures.elements) c.move_node.ensures.placed;
      placed_ever = subst H (sym c.push_version.ensures.elements) c.move_node.ensures.ever;
      noted = noted_less
          (stand c.self.inside.store c.self.inside.users c.self.inside.grid)
          (stand c.push_version.new.self c.begin_uses.new.users c.move_node.new.grid)
          (record { versions = c.self.inside.promised.items; users = c.self.inside.awaited.items; cells = c.self.inside.entered.items })
          c.self.invariant.noted
          (λ k. omega (arith, c.push_version.ensures.room k))
          (λ b. omega (arith, c.begin_uses.ensures.spent b, c.end_uses.ensures.room b))
          c.move_node.ensures.no_more;
    }
