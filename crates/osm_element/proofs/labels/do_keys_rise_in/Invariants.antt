use Rattle.osm_element.proofs.Rising.{RiseBelow}
use Rattle.osm_element.proofs.labels.do_keys_rise_in.Given as goal

abbrev pub invariant-loop-next : goal.invariant-loop-next
invariant-loop-next l = RiseBelow l.list l.next
