use Rattle.std.proofs.Common.{ℕ, ◌+◌, [], ◌∷◌, ◌++◌, ◌∙◌, List, sym, ap}
use Rattle.std.proofs.lemmas.List.{append_assoc}
use Rattle.changeset_core.specs.declared.records.Work.{Work}
use Rattle.changeset_core.specs.Works.{work, run_of}
use Rattle.changeset_core.proofs.Runs.{run_steps}
use Rattle.changeset_core.proofs.works.Run.add_to.Goals as goal

pub loop-step-preserved : goal.loop-step-preserved
loop-step-preserved c =
    let it = c.self.inside in
    let step = c.loop-step.step in
    let before = c.args.made.now.items in
    let next = work it.kind it.version (it.id + c.from.result) ∷ [] in
    c.in_ok-push.ensures.items
    ∙ ap (λ (l : List Work). l ++ next) c.loop-step.invariant
    ∙ append_assoc before (run_of it.kind it.version it.id step) next
    ∙ ap (λ (n : ℕ). before ++ (run_of it.kind it.version it.id step ++ work it.kind it.version (it.id + n) ∷ [])) c.from.ensures
    ∙ ap (λ (l : List Work). before ++ l) (sym (run_steps it.kind it.version it.id step))
