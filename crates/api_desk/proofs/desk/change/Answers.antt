use Rattle.std.proofs.Common.{[], append-nil, ◌∙◌, subst}
use Rattle.osm_model.specs.Act.{act}
use Rattle.osm_model.specs.Journal.{replay}
use Rattle.osm_model.specs.declared.states.State.{State}
use Rattle.map_machine.specs.Machine.{IsPlannedAs}
use Rattle.api_desk.proofs.ReplyBytes.{read_back, tells_status}
use Rattle.api_desk.proofs.desk.change.Goals as goal

pub commit-requires-clause-made : goal.commit-requires-clause-made
commit-requires-clause-made g c = (c.args.book.now, c.args.asked, ([], append-nil c.args.book.now), (subst (λ (P : State). IsPlannedAs P c.args.asked c.in_ok-plan.plan) c.world.ensures.world c.in_ok-plan.ensures.0))

pub reply_from-requires : goal.reply_from-requires
reply_from-requires g c =
    let es = c.args.book.now in
    let asked = c.args.asked in
    let acts = c.in_ok-done.ensures.acts es asked ([], append-nil es) (subst (λ (P : State). IsPlannedAs P c.args.asked c.in_ok-plan.plan) c.world.ensures.world c.in_ok-plan.ensures.0) in
    tells_status (act (replay es) asked.user c.args.moment asked.command).1 c.in_ok-done.done.answer acts.answer_is

pub returns-clause-reply : goal.returns-clause-reply
returns-clause-reply g c =
    let es = c.args.book.now in
    let asked = c.args.asked in
    let acts = c.in_ok-done.ensures.acts es asked ([], append-nil es) (subst (λ (P : State). IsPlannedAs P c.args.asked c.in_ok-plan.plan) c.world.ensures.world c.in_ok-plan.ensures.0) in
    c.reply_from.ensures.reply ∙ read_back (act (replay es) asked.user c.args.moment asked.command).1 c.in_ok-done.done.answer acts.answer_is

pub returns-clause-journal : goal.returns-clause-journal
returns-clause-journal g c =
    let es = c.args.book.now in
    let asked = c.args.asked in
    let acts = c.in_ok-done.ensures.acts es asked ([], append-nil es) (subst (λ (P : State). IsPlannedAs P c.args.asked c.in_ok-plan.plan) c.world.ensures.world c.in_ok-plan.ensures.0) in
    acts.entered ∙ c.commits_are_the_maps.ensures es (record { session = c.args.session; call = c.next_call.result }) c.args.moment asked c.next_call.ensures
