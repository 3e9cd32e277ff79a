use Rattle.std.proofs.Common.{◌≡◌, ap, sym, ◌∙◌, Ok}
use Rattle.osm_base.specs.declared.memory.Memory.{Memory}
use Rattle.osm_model.specs.Journal.{journal_after}
use Rattle.journal_text.specs.Kept.{kept_by}
use Rattle.value_rows.proofs.InTurn.{grown, grown_so, lengths_same}
use Rattle.value_rows.proofs.texts.keepers.take.Goals as goal

pub returns-clause-answer : goal.returns-clause-answer
returns-clause-answer c =
    let es = c.args.journal.now in
    let e = c.args.entry in
    let after : c.keep.new.self ≡ journal_after es e.session e.user e.stamp e.command = c.in_ok-_answer.ensures.ok ∙ rw c.seconds.ensures at c.in_ok-judged.ensures.after in
    sym (lengths_same es c.entries-before.result.now c.keep.new.self c.entries.result.now c.entries-before.ensures.all c.entries.ensures.all) ∙ grown es e c.keep.new.self c.requires after

pub returns-clause-kept : goal.returns-clause-kept
returns-clause-kept c =
    let es = c.args.journal.now in
    let e = c.args.entry in
    let after : c.keep.new.self ≡ journal_after es e.session e.user e.stamp e.command = c.in_ok-_answer.ensures.ok ∙ rw c.seconds.ensures at c.in_ok-judged.ensures.after in
    grown_so es e Memory c.keep.new.self c.requires after
    ∙ ap (λ b. kept_by {E = Memory} (Ok b) es e) (lengths_same es c.entries-before.result.now c.keep.new.self c.entries.result.now c.entries-before.ensures.all c.entries.ensures.all)
