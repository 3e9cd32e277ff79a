use Rattle.std.proofs.Common.{Err, inl, inr, refl, ap, arith}
use Rattle.http_link.specs.Exchange.{Telling}
use Rattle.http_link.proofs.TurnLemmas.{Step-from_parts, Held-from_parts, ReadsEnd-from}
use Rattle.http_link.proofs.turn.take_turn.Goals as goal

pub returns-in-Err-answer_message-clause-turn : goal.returns-in-Err-answer_message-clause-turn
returns-in-Err-answer_message-clause-turn g c =
    let replies = rw c.in-Err-answer_message.is at c.answer_message.ensures.replies in
    inr (inr (
      c.in-Err-answer_message.why,
      Held-from_parts c.args.wire.now.body_limit g.D.Desk.allows _ _ _ _ _ _ _ c.args.count c.in-Ok.message (record {}) c.in-Ok.ensures.reads replies.0,
      replies.1,
      refl,
    ))

pub returns-in-Ok-Err-clause-turn : goal.returns-in-Ok-Err-clause-turn
returns-in-Ok-Err-clause-turn g c =
    let reads = c.in-Ok.ensures.reads in
    inl (
      c.in-Ok-Err.field-0,
      Step-from_parts c.args.wire.now.body_limit (Telling g.D.Desk.allows g.D.Desk.tells g.D.Desk.shows) _ _ _ _ _ _ _ c.args.count c.in-Ok.message c.in-Ok-Err.field-0 reads
          (rw c.in-Ok-Err.is at c.answer_message.ensures.replies),
      rw c.in-Ok-Err.field-0-is refl,
      λ fails. omega (arith, (rw c.in-Ok-Err.is at c.answer_message.ensures.failed) fails, reads.taken.others.write_faults),
    )

pub returns-then-close-clause-turn : goal.returns-then-close-clause-turn
returns-then-close-clause-turn g c =
    let reads = c.in-Ok.ensures.reads in
    inl (
      c.in-Ok-Ok.field-0,
      Step-from_parts c.args.wire.now.body_limit (Telling g.D.Desk.allows g.D.Desk.tells g.D.Desk.shows) _ _ _ _ _ _ _ c.args.count c.in-Ok.message c.in-Ok-Ok.field-0 reads
          (rw c.in-Ok-Ok.is at c.answer_message.ensures.replies),
      rw (c.in-Ok-Ok.field-0-is, c.if-close.true) refl,
      λ fails. omega (arith, (rw c.in-Ok-Ok.is at c.answer_message.ensures.failed) fails, reads.taken.others.write_faults),
    )

pub returns-else-close-clause-turn : goal.returns-else-close-clause-turn
returns-else-close-clause-turn g c =
    let reads = c.in-Ok.ensures.reads in
    inl (
      c.in-Ok-Ok.field-0,
      Step-from_parts c.args.wire.now.body_limit (Telling g.D.Desk.allows g.D.Desk.tells g.D.Desk.shows) _ _ _ _ _ _ _ c.args.count c.in-Ok.message c.in-Ok-Ok.field-0 reads
          (rw c.in-Ok-Ok.is at c.answer_message.ensures.replies),
      rw (c.in-Ok-Ok.field-0-is, c.if-close.false) refl,
      λ fails. omega (arith, (rw c.in-Ok-Ok.is at c.answer_message.ensures.failed) fails, reads.taken.others.write_faults),
    )

pub returns-in-Err-clause-turn : goal.returns-in-Err-clause-turn
returns-in-Err-clause-turn g c =
    let reads = c.in-Err.ensures.reads in
    inr (inl (
      g.L.Outside.told c.read_message.new.source,
      c.in-Err.why,
      c.refuse.result,
      record {
        pieces = reads.pieces;
        taken = reads.taken;
        reads = ReadsEnd-from c.args.wire.now.body_limit _ _ _ _ c.in-Err.why reads;
        fault = λ e. c.in-Err.ensures.fault (ap Err e);
        unasked = refl;
      },
      c.refuse.ensures,
      refl,
    ))
