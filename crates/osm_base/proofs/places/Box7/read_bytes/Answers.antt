use Rattle.std.proofs.Common.{sym}
use Rattle.osm_base.specs.Decimal.{area_of}
use Rattle.osm_base.proofs.DecimalLemmas.{not-four, by-four}
use Rattle.osm_base.proofs.places.Box7.read_bytes.Goals as goal

pub returns-in-Some : goal.returns-in-Some
unfolding area_of
returns-in-Some c =
    let edges = c.in-Some.edges in
    rw (c.between.ensures, c.units_of.ensures, c.units_of-in-Some.ensures, c.units_of-in-Some-2.ensures, c.units_of-in-Some-3.ensures)
    (by-four _ (record { left = edges.left.now; bottom = edges.bottom.now; right = edges.right.now; top = edges.top.now }) (sym c.in-Some.ensures))

pub returns-in-None : goal.returns-in-None
unfolding area_of
returns-in-None c = sym (not-four _ (sym c.in-None.ensures))
