use Rattle.std.proofs.Common.{rules}
use Rattle.segment_list.proofs.Places.{begun}
use Rattle.segment_list.proofs.segments.Segments.begin_segment.Goals as goal

pub invariant_of-self-2 : goal.invariant_of-self-2
invariant_of-self-2 g c =
    let new = begun c.self.inside.segments.items c.self.inside.count c.args.self.now c.args.item c.self.invariant c.self.view_is c.requires.few c.requires.full in
    search (rules, new)
