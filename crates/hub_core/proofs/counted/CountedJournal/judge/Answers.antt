use Rattle.std.proofs.Common.{◌≡◌, subst, true}
use Rattle.std.specs.Prelude.{IfSome}
use Rattle.machine_law.specs.Rules.{Later, replay}
use Rattle.hub_core.proofs.Legal.{later_replay}
use Rattle.hub_core.specs.Journal.{IsJournal}
use Rattle.hub_core.proofs.counted.CountedJournal.judge.Goals as goal

-- the plan was made before, and all that came since is legal
pub settle_by-requires-clause-foreseen : goal.settle_by-requires-clause-foreseen
settle_by-requires-clause-foreseen g c =
    let rules = g.M.Machine.rules in
    let made = c.requires.made in
    let journal = c.args.self.now in
    let kept : IsJournal rules journal = subst (IsJournal rules) c.self.view_is c.self.invariant.0 in record {
      begun = replay rules made.0;
      command = made.1;
      planned = made.3;
      later = rw c.requires.world (later_replay rules made.0 journal made.2 kept.legal);
    }

pub returns-clause-fits : goal.returns-clause-fits
returns-clause-fits g c =
    let rules = g.M.Machine.rules in
    subst (λ s. IfSome c.in_ok-settled.settled.entry (λ e. (rules.takes s e ≡ true) × (rules.tag_of e ≡ c.args.tag))) c.requires.world c.in_ok-settled.ensures.entry

pub returns-clause-acts : goal.returns-clause-acts
returns-clause-acts g c made command prefix planned =
    let rules = g.M.Machine.rules in
    let journal = c.args.self.now in
    let kept : IsJournal rules journal = subst (IsJournal rules) c.self.view_is c.self.invariant.0 in
    let later : Later rules (replay rules made) (g.M.Machine.state c.args.world.now) = rw c.requires.world (later_replay rules made journal prefix kept.legal) in
    rw c.requires.world at (c.in_ok-settled.ensures.acts (replay rules made) command planned later)
