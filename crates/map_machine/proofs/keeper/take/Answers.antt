use Rattle.std.proofs.Common.{[], append-nil, refl, ap, sym, subst, ◌∙◌, Ok}
use Rattle.osm_base.specs.declared.memory.Memory.{Memory}
use Rattle.journal_text.specs.Kept.{kept_by}
use Rattle.osm_model.specs.declared.states.State.{State}
use Rattle.map_machine.specs.Machine.{IsPlannedAs}
use Rattle.map_machine.specs.declared.plans.Asked.{Asked}
use Rattle.map_machine.proofs.KeepLemmas.{handed, kept_at, next, placed}
use Rattle.map_machine.proofs.keeper.take.Goals as goal

pub commit-requires-clause-made : goal.commit-requires-clause-made
commit-requires-clause-made g c =
    let asked : Asked = record { user = c.args.entry.user; command = c.args.entry.command } in
    (c.args.book.now, asked, ([], append-nil c.args.book.now), subst (λ (P : State). IsPlannedAs P asked c.in_ok-plan.plan) c.world.ensures.world c.in_ok-plan.ensures.0)

pub commit-requires-clause-next : goal.commit-requires-clause-next
commit-requires-clause-next g c = next c.args.book.now c.args.entry c.requires.turn

pub returns-clause-answer : goal.returns-clause-answer
returns-clause-answer g c =
    let es = c.args.book.now in
    let asked : Asked = record { user = c.args.entry.user; command = c.args.entry.command } in
    let planned = subst (λ (P : State). IsPlannedAs P asked c.in_ok-plan.plan) c.world.ensures.world c.in_ok-plan.ensures.0 in
    let acts = rw c.seconds.ensures at (c.in_ok-done.ensures.acts es asked ([], append-nil es) planned) in
    c.is_some.ensures ∙ placed es c.args.entry _ _ c.requires.turn refl acts.placed

pub returns-clause-kept : goal.returns-clause-kept
returns-clause-kept g c =
    let es = c.args.book.now in
    let asked : Asked = record { user = c.args.entry.user; command = c.args.entry.command } in
    let planned = subst (λ (P : State). IsPlannedAs P asked c.in_ok-plan.plan) c.world.ensures.world c.in_ok-plan.ensures.0 in
    let acts = rw c.seconds.ensures at (c.in_ok-done.ensures.acts es asked ([], append-nil es) planned) in
    kept_at es c.args.entry _ _ c.requires.turn refl acts.entered
    ∙ ap (λ b. kept_by {E = Memory} (Ok b) es c.args.entry) (sym (c.is_some.ensures ∙ placed es c.args.entry _ _ c.requires.turn refl acts.placed))

pub returns-clause-last : goal.returns-clause-last
returns-clause-last g c = handed c.in_ok-done.done.place c.args.book.now c.commit.new.self c.args.last.now c.commit.new.outlet _ c.requires.last c.in_ok-done.ensures.offers
