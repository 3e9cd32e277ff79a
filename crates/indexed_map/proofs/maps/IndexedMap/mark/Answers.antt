use Rattle.std.proofs.Common.{◌≤◌, sym, subst}
use Rattle.osm_element.specs.Elements.{count}
use Rattle.osm_element.specs.declared.elements.Elements.{Elements}
use Rattle.history_store.specs.Store.{Room}
use Rattle.indexed_map.specs.Ever.{IsPlacedEver}
use Rattle.indexed_map.specs.Indexed.{Stand, IsIndexed, IsNoted}
use Rattle.indexed_map.specs.Placed.{IsPlaced}
use Rattle.indexed_map.proofs.EverHeld.{marked_placed_ever}
use Rattle.indexed_map.proofs.Indexing.{marked, marked_placed}
use Rattle.indexed_map.proofs.maps.IndexedMap.mark.Goals as goal

pub invariant_of-self : goal.invariant_of-self
invariant_of-self c =
    let I : Elements → Type 0 = λ E. IsIndexed E c.self.inside.users in
    let P : Elements → Type 0 = λ E. IsPlaced E c.self.inside.grid in
    let H : Elements → Type 0 = λ E. IsPlacedEver E c.self.inside.grid in
    let N : Room → Type 0 = λ room. IsNoted (record { elements = c.mark.new.self.elements; versions = room; users = c.self.inside.users; cells = c.self.inside.grid }) (record { versions = c.self.inside.promised.items; users = c.self.inside.awaited.items; cells = c.self.inside.entered.items }) in
    let Q : Stand → Type 0 = λ w. c.args.number ≤ count w.elements c.args.key in
    let made : c.args.number ≤ count c.self.inside.store.elements c.args.key = subst Q (sym c.self.view_is) c.requires.made in
    record {
      indexed = subst I (sym c.mark.ensures.elements) (marked c.self.inside.store.elements c.self.inside.users c.args.key c.args.number c.args.redaction c.requires.counted made c.self.invariant.indexed);
      placed = subst P (sym c.mark.ensures.elements) (marked_placed c.self.inside.store.elements c.self.inside.grid c.args.key c.args.number c.args.redaction c.requires.counted made c.self.invariant.placed);
      placed_ever = subst H (sym c.mark.ensures.elements) (marked_placed_ever c.self.inside.store.elements c.self.inside.grid c.args.key c.args.number c.args.redaction c.requires.counted made c.self.invariant.placed_ever);
      noted = subst N (sym c.mark.ensures.room) (record { versions = c.self.invariant.noted.versions; users = c.self.invariant.noted.users; cells = c.self.invariant.noted.cells });
    }
