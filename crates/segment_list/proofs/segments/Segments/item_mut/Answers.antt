use Rattle.std.proofs.Common.{refl, ◌∙◌, arith}
use Rattle.segment_list.proofs.Places.{fewer, segment_there, item_there, item_is, list_set, still_held}
use Rattle.segment_list.proofs.segments.Segments.item_mut.Goals as goal

pub index_mut-segment-requires : goal.index_mut-segment-requires
index_mut-segment-requires g c =
    let there = segment_there c.self.inside.segments.items c.self.inside.count c.args.self.now c.self.invariant c.self.view_is c.args.place c.requires in
    omega (arith, there, c.self.inside.segments.ok.0)

pub item_mut-requires : goal.item_mut-requires
item_mut-requires g c =
    item_there c.self.inside.segments.items c.self.inside.count c.args.self.now c.self.invariant c.self.view_is c.args.place c.requires
    c.index_mut-segment.result.now
    c.index_mut-segment.ensures.value

pub invariant_of-self-lent : goal.invariant_of-self-lent
invariant_of-self-lent g c =
    still_held c.self.inside.segments.items c.self.inside.count c.args.self.now c.self.invariant c.self.view_is c.args.place c.requires
    c.index_mut-segment.result.now
    c.index_mut-segment.ensures.value

pub returns : goal.returns
returns g c = (
  (refl, list_set c.self.inside.segments.items c.self.inside.count c.args.self.now c.self.invariant c.self.view_is c.args.place c.requires c.index_mut-segment.result.now c.index_mut-segment.ensures.value),
  record {
    lends = tt;
    value = item_is c.self.inside.segments.items c.self.inside.count c.args.self.now c.self.invariant c.self.view_is c.args.place c.requires c.index_mut-segment.result.now c.index_mut-segment.ensures.value ∙ c.item_mut.ensures.value;
    few = fewer c.self.inside.segments.items c.self.inside.count c.args.self.now c.self.invariant c.self.view_is;
  },
)
