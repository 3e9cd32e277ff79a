use Rattle.std.proofs.Common.{◌≡◌, false, ◌&&◌, take}
use Rattle.std.specs.List.{list_any}
use Rattle.osm_base.specs.Key.{kind_eq}
use Rattle.rising_lists.specs.Ids.{lists_id}
use Rattle.plain_reads.proofs.met.relation_lists.Given as goal

abbrev pub invariant-loop-member : goal.invariant-loop-member
invariant-loop-member l = list_any (λ member. kind_eq member.kind l.kind && lists_id l.ids member.name) (take l.member-index l.members) ≡ false
