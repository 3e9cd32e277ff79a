use Rattle.std.proofs.Common.{rules, arith}
use Rattle.segment_list.proofs.Places.{last_there, list_more, more_held}
use Rattle.segment_list.proofs.segments.Segments.push_last.Goals as goal

pub index_mut-requires : goal.index_mut-requires
index_mut-requires g c =
    let there = last_there c.self.inside.segments.items c.self.inside.count c.args.self.now c.self.invariant c.self.view_is c.requires.room in
    omega (arith, there, c.self.inside.segments.ok.0)

pub invariant_of-self-2 : goal.invariant_of-self-2
invariant_of-self-2 g c =
    let held =
    more_held c.self.inside.segments.items c.self.inside.count c.args.self.now c.self.invariant c.self.view_is c.requires.room
    c.index_mut.result.now
    c.index_mut.ensures.value
    c.args.item
    c.requires.few in
    search (rules, held)

pub returns-clause-ok : goal.returns-clause-ok
returns-clause-ok g c =
    let list =
    list_more c.self.inside.segments.items c.self.inside.count c.args.self.now c.self.invariant c.self.view_is c.requires.room
    c.index_mut.result.now
    c.index_mut.ensures.value
    c.args.item in
    search (rules, list)
