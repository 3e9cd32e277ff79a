use Rattle.std.proofs.Common.{rules, ◌∙◌, ◌%◌, sym, ap, slice_get, List}
use Rattle.segment_list.proofs.Places.{none_here, read_here, looked_up}
use Rattle.segment_list.proofs.segments.Segments.get.Goals as goal

pub returns-in-Some : goal.returns-in-Some
returns-in-Some g c =
    let here = read_here c.self.inside.segments.items c.self.inside.count c.args.self.now c.self.invariant c.self.view_is c.args.place c.in-Some.segment.now (search rules) (search rules) in
    looked_up c.items.result.now (c.args.place % 1024) c.get-in-Some.result c.get-in-Some.ensures.lookup
    ∙ ap (λ (l : List g.row.T.Denot). slice_get l (c.args.place % 1024)) c.items.ensures
    ∙ sym here

pub returns-in-None : goal.returns-in-None
returns-in-None g c =
    sym (none_here c.self.inside.segments.items c.self.inside.count c.args.self.now c.self.invariant c.self.view_is c.args.place (search rules))
