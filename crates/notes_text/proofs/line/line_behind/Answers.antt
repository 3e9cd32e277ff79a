use Rattle.std.proofs.Common.{◌++◌, ap, ◌∙◌}
use Rattle.serde_json.specs.Written.{compact_text}
use Rattle.notes_text.specs.Line.{line_data}
use Rattle.json_line.proofs.Sent.{text_behind, utf8_behind}
use Rattle.notes_text.proofs.line.line_behind.Goals as goal

pub returns-clause-line : goal.returns-clause-line
returns-clause-line c =
    c.into_inner.ensures.items
    ∙ text_behind c.new-out.result c.entry.new.out (line_data c.args.of.now) c.new-out.ensures.tokens c.in_ok-entry.ensures
    ∙ ap (λ text. text ++ compact_text (line_data c.args.of.now)) c.new-out.ensures.before

pub returns-clause-typed : goal.returns-clause-typed
returns-clause-typed c =
    let typed = c.entry_is_typed.ensures in
    record {
      session = typed.session;
      call = typed.call;
      stamp = typed.stamp;
      caller = typed.caller;
      command = typed.command;
      texts = utf8_behind c.new-out.result c.entry.new.out (line_data c.args.of.now) c.new-out.ensures.tokens c.in_ok-entry.ensures c.into_inner.ensures.utf8;
    }
