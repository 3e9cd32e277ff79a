use Rattle.std.proofs.Common.{◌≡◌, ◌&&◌, List, ap, ◌∙◌, subst}
use Rattle.std.specs.Prelude.{not}
use Rattle.osm_base.specs.Key.{lists_key}
use Rattle.osm_base.specs.declared.keys.Key.{Key}
use Rattle.osm_element.specs.Elements.{uses}
use Rattle.indexed_map.specs.Ever.{has_used}
use Rattle.indexed_map.specs.Indexed.{Stand}
use Rattle.indexed_map.proofs.maps.IndexedMap.users_past.Goals as goal

pub returns-clause-each : goal.returns-clause-each
returns-clause-each c a =
    let P : Stand → Type 0 = λ w. lists_key c.past.result a ≡ has_used w.elements a c.args.key && not (uses w.elements a c.args.key) in
    subst P c.self.view_is (ap (λ (ks : List Key). lists_key ks a) c.past.ensures.past ∙ c.self.invariant.indexed.past a c.args.key)
