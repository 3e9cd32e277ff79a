use Rattle.packed_entry.proofs.Tests.{text_there, no_text}
use Rattle.packed_entry.proofs.fronts.text_of.Goals as goal

pub returns-in-Ok : goal.returns-in-Ok
returns-in-Ok c =
    text_there c.args.count c.args.bytes.now _ c.split_at.result.0.now _ c.if-bytes-count.false c.split_at.ensures.front c.split_at.ensures.back c.in-Ok.ensures.cases.0 c.in-Ok.ensures.cases.1

pub returns-in-Err : goal.returns-in-Err
returns-in-Err c = no_text c.args.count c.args.bytes.now c.split_at.result.0.now c.if-bytes-count.false c.split_at.ensures.front c.in-Err.ensures.cases.0
