use Rattle.std.proofs.Common.{◌≡◌, [], sym, ap, ◌∙◌, refl}
use Rattle.std.proofs.lemmas.List.{append-nil}
use Rattle.machine_law.specs.Rules.{replay}
use Rattle.hub_core.specs.Journal.{calls_of, extended, place_of}
use Rattle.snapshot_hub.specs.Commits.{IsEntered}
use Rattle.snapshot_hub.proofs.Offers.{journal_kept, entered}
use Rattle.snapshot_hub.proofs.Calls.{calls_entered, entered_grows, seated_entered}
use Rattle.snapshot_hub.proofs.held.Held.settle.Goals as goal

-- the world that is published is the one after the journal
pub judge-requires-clause-world : goal.judge-requires-clause-world
judge-requires-clause-world g c =
    let rules = g.M.Machine.rules in
    let shown = c.shown.ensures ∙ (ap (λ e. e.published) c.self.view_is ∙ (c.requires.whole ∙ sym (ap (λ e. e.journal) c.self.view_is))) in
    c.world.ensures ∙ ap (replay rules) (shown ∙ sym c.self.invariant.0)

pub invariant_of-self-2 : goal.invariant_of-self-2
invariant_of-self-2 g c =
    let rules = g.M.Machine.rules in
    let tag = c.args.tag in
    let entries = c.self.inside.entries in
    let press = c.self.inside.press in
    let place = c.in_ok-place.place in
    let entry : IsEntered rules.tag_of tag press.journal c.enter.new.outlet.journal place =
    entered rules.tag_of tag entries c.enter.new.self press c.enter.new.outlet place c.in_ok-judged.judged.settled.entry c.in_ok-place.ensures.placed c.self.invariant.0 c.in_ok-place.ensures.offers in (
      journal_kept rules.tag_of tag entries c.enter.new.self press c.enter.new.outlet place c.self.invariant.0 c.in_ok-place.ensures.offers,
      seated_entered rules.tag_of g.N.HubName.sessions tag press.journal c.enter.new.outlet.journal place c.requires.seat entry c.self.invariant.1,
    )

-- want of memory leaves both
pub invariant_of-self : goal.invariant_of-self
invariant_of-self g c =
    let rules = g.M.Machine.rules in
    let kept = c.in_err-place.ensures.err in (
      kept.0 ∙ (c.self.invariant.0 ∙ sym (ap (λ e. e.journal) kept.1)),
      λ session le. ap (λ e. calls_of rules.tag_of session e.journal) kept.1 ∙ c.self.invariant.1 session le,
    )

pub returns-in_err-place-clause-grows : goal.returns-in_err-place-clause-grows
returns-in_err-place-clause-grows g c =
    let journal = c.args.self.now.journal in
    let kept = c.in_err-place.ensures.err in
    ([], append-nil journal ∙ sym (ap (λ e. e.journal) kept.1 ∙ ap (λ e. e.journal) c.self.view_is))

pub returns-clause-acts : goal.returns-clause-acts
returns-clause-acts g c made command prefix planned =
    let rules = g.M.Machine.rules in
    let tag = c.args.tag in
    let entries = c.self.inside.entries in
    let journal = c.args.self.now.journal in
    let settled = c.in_ok-judged.judged.settled in
    let same : entries ≡ journal = c.self.invariant.0 ∙ ap (λ e. e.journal) c.self.view_is in
    let acted : settled ≡ rules.act (replay rules journal) tag c.args.moment command =
    rw same at (c.in_ok-judged.ensures.acts made command (rw same prefix) planned) in
    let kept : c.enter.new.self ≡ c.enter.new.outlet.journal =
    journal_kept rules.tag_of tag entries c.enter.new.self c.self.inside.press c.enter.new.outlet c.in_ok-place.place c.self.invariant.0 c.in_ok-place.ensures.offers in
    rw (← acted) (record {
      answer_is = refl;
      entered = sym kept ∙ (c.in_ok-place.ensures.entered ∙ ap (λ j. extended j settled.entry) same);
      placed = c.in_ok-place.ensures.placed ∙ ap (λ j. place_of j settled.entry) same;
    })

pub returns-clause-entry : goal.returns-clause-entry
returns-clause-entry g c =
    let rules = g.M.Machine.rules in
    let tag = c.args.tag in
    let entries = c.self.inside.entries in
    rw (← ap (λ e. e.journal) c.self.view_is) (entered rules.tag_of tag entries c.enter.new.self c.self.inside.press c.enter.new.outlet c.in_ok-place.place c.in_ok-judged.judged.settled.entry c.in_ok-place.ensures.placed c.self.invariant.0 c.in_ok-place.ensures.offers)

pub returns-clause-calls : goal.returns-clause-calls
returns-clause-calls g c =
    let rules = g.M.Machine.rules in
    let tag = c.args.tag in
    let entries = c.self.inside.entries in
    let journal = c.args.self.now.journal in
    let place = c.in_ok-place.place in
    let entry : IsEntered rules.tag_of tag journal c.enter.new.outlet.journal place =
    rw (← ap (λ e. e.journal) c.self.view_is) (entered rules.tag_of tag entries c.enter.new.self c.self.inside.press c.enter.new.outlet place c.in_ok-judged.judged.settled.entry c.in_ok-place.ensures.placed c.self.invariant.0 c.in_ok-place.ensures.offers) in
    calls_entered rules.tag_of tag journal c.enter.new.outlet.journal place entry

pub returns-clause-grows : goal.returns-clause-grows
returns-clause-grows g c =
    let rules = g.M.Machine.rules in
    let tag = c.args.tag in
    let entries = c.self.inside.entries in
    let journal = c.args.self.now.journal in
    let place = c.in_ok-place.place in
    let entry : IsEntered rules.tag_of tag journal c.enter.new.outlet.journal place =
    rw (← ap (λ e. e.journal) c.self.view_is) (entered rules.tag_of tag entries c.enter.new.self c.self.inside.press c.enter.new.outlet place c.in_ok-judged.judged.settled.entry c.in_ok-place.ensures.placed c.self.invariant.0 c.in_ok-place.ensures.offers) in
    entered_grows rules.tag_of tag journal c.enter.new.outlet.journal place entry

pub enter-requires-clause-welcome : goal.enter-requires-clause-welcome
enter-requires-clause-welcome g c entry taken tagged = (
  rw (← c.self.invariant.0) taken,
  rw (tagged, ap (λ e. e.journal) c.self.view_is) c.requires.next,
  rw tagged c.requires.seat,
)
