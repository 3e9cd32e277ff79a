use Rattle.std.proofs.Common.{[], ◌∷◌, ◌++◌}
use Rattle.plain_model.proofs.JournalLemmas.{keeps, replay_consistent, IsLegal-push}
use Rattle.plain_model.specs.Judgement.{IsKeptOn}
use Rattle.plain_model.proofs.journals.Journal.keep_entry.Goals as goal

pub invariant_of-self-2 : goal.invariant_of-self-2
invariant_of-self-2 c =
    let on : IsKeptOn c.self.inside.entries.items c.args.kept = rw c.self.view_is c.requires in
    rw
    (c.push_reserved.ensures.items, c.reserve.ensures.items)
    (keeps
    c.self.inside.entries.items
    c.self.inside.state
    c.take_alteration.new.state
    c.args.kept
    (record { legal = c.self.invariant.legal; replayed = c.self.invariant.replayed; consistent = c.self.invariant.consistent; begun = c.self.invariant.begun })
    on
    c.in_ok-take_alteration.ensures.ok)

pub returns-clause-legal : goal.returns-clause-legal
returns-clause-legal c =
    let on : IsKeptOn c.self.inside.entries.items c.args.kept = rw c.self.view_is c.requires in
    rw
    (c.push_reserved.ensures.items, c.reserve.ensures.items)
    (IsLegal-push c.self.inside.entries.items c.args.kept.entry c.self.invariant.legal on.taken on.numbered)

pub returns-clause-consistent : goal.returns-clause-consistent
returns-clause-consistent c =
    let on : IsKeptOn c.self.inside.entries.items c.args.kept = rw c.self.view_is c.requires in
    let kept = keeps
    c.self.inside.entries.items
    c.self.inside.state
    c.take_alteration.new.state
    c.args.kept
    (record { legal = c.self.invariant.legal; replayed = c.self.invariant.replayed; consistent = c.self.invariant.consistent; begun = c.self.invariant.begun })
    on
    c.in_ok-take_alteration.ensures.ok
    in
    rw
    (c.push_reserved.ensures.items, c.reserve.ensures.items)
    (replay_consistent (c.self.inside.entries.items ++ c.args.kept.entry ∷ []) (record c.take_alteration.new.state { last = c.args.kept.entry.stamp }) kept.replayed kept.consistent)
