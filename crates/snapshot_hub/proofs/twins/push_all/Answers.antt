use Rattle.std.proofs.Common.{◌≡◌, ◌++◌, false, sym, ◌∙◌, rules}
use Rattle.snapshot_hub.proofs.Turns.{next_behind, never_numbered, taken_behind}
use Rattle.snapshot_hub.proofs.twins.push_all.Goals as goal

pub push_next-requires : goal.push_next-requires
push_next-requires g c =
    let all = c.args.journal.now ++ c.args.entries.items in
    taken_behind g.M.Machine.rules all c.entries.journal _ c.in-Some.entry
    (next_behind all c.entries.journal c.entries.entries.items c.pop.new.self.items c.in-Some.entry c.entries.invariant c.in-Some.ensures.items)
    c.requires

pub returns-then-not-pushed-clause-refused : goal.returns-then-not-pushed-clause-refused
returns-then-not-pushed-clause-refused g c told =
    let never : c.in_ok-pushed.pushed ≡ false = search rules in
    let all = c.args.journal.now ++ c.args.entries.items in
    never_numbered g.M.Machine.rules.tag_of all c.entries.journal _ c.in-Some.entry
    (next_behind all c.entries.journal c.entries.entries.items c.pop.new.self.items c.in-Some.entry c.entries.invariant c.in-Some.ensures.items)
    (sym c.in_ok-pushed.ensures.answer ∙ never)
