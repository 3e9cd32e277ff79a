use Rattle.std.proofs.Common.{ap, ◌∙◌, subst}
use Rattle.journal_file.specs.Whole.{text_of}
use Rattle.journal_host.specs.Told.{taken_back}
use Rattle.journal_recovery.specs.Restarts.{IsCause}
use Rattle.journal_recovery.proofs.taking_up.take_up.Goals as goal

pub returns-in-Err-clause-taken : goal.returns-in-Err-clause-taken
returns-in-Err-clause-taken g c = c.in-Err.ensures.told

pub returns-clause-taken : goal.returns-clause-taken
returns-clause-taken g c =
    let device = g.J.File.Device in
    let file = c.in-Err-restart.device in
    let read = c.in-Ok.lent.1.items in
    let bytes = c.deref.result.now in
    record {
      read = read;
      file = file;
      back = record {
        back = c.back.ensures ∙ ap (λ t. taken_back t file) c.in-Ok.ensures.told;
        leaves = λ crash left. c.in-Err-restart.ensures.stands crash left ∙ ap text_of c.deref.ensures.value;
      };
      cause = subst (λ x. IsCause g.T.Lines.text g.T.KeptText.is_entry g.S.EntryJudge.is_legal c.in-Err-restart.fault x (device.faults file)) c.deref.ensures.value c.in-Err-restart.ensures.cause;
      left_alone = λ other t crash left.
          let same = c.in-Err-restart.ensures.untouched other in
          c.in-Ok.ensures.moments t crash (subst (λ x. device.left_since x t crash) same left);
      sound = c.in-Err-restart.ensures.sound;
    }
