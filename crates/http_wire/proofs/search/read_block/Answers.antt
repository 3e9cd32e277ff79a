use Rattle.std.proofs.Common.{◌<◌, ◌≤◌, length, inl, refl, arith}
use Rattle.std.proofs.lemmas.List.{take_all, length-append}
use Rattle.osm_base.specs.declared.limits.TheConstants.{HEAD_LIMIT}
use Rattle.http_wire.specs.declared.end.WireEnd.TheVariants.{HeadLong}
use Rattle.http_wire.proofs.ReceivedLemmas.{Gathers-nil, Gathers-fill}
use Rattle.http_wire.proofs.MessageLemmas.{Reads-from_end, Reads-from_none, Reads-from_fault}
use Rattle.http_wire.proofs.BlockLemmas.{IsSearched-append, HasNoBlock-from_search}
use Rattle.http_wire.proofs.search.read_block.Goals as goal

pub reads-init : goal.reads-init
reads-init g c = (λ m. Gathers-nil m _ _, λ at below. absurd (omega arith), omega arith)

pub returns-then-searched-ge-HEAD_LIMIT-clause-ended : goal.returns-then-searched-ge-HEAD_LIMIT-clause-ended
returns-then-searched-ge-HEAD_LIMIT-clause-ended g c =
    let bytes = c.reads.buffer in
    let same = c.as_slice-bytes.ensures.bytes in
    let limit = c.as_slice-bytes.ensures.limit in
    let full : HEAD_LIMIT ≤ length bytes = rw same at c.if-searched-ge-HEAD_LIMIT.true in
    let begun = rw same at c.in-Open.ensures in
    λ m. Reads-from_end m _ _ c.args.buffer.now bytes bytes HeadLong (c.reads.invariant.0 m) (c.reads.invariant.0 m).some limit
    (full, rw (take_all HEAD_LIMIT bytes limit) (HasNoBlock-from_search bytes c.in-Open.begun begun))

pub returns-in-Ok-eq0-clause-ended : goal.returns-in-Ok-eq0-clause-ended
returns-in-Ok-eq0-clause-ended g c =
    let same = c.as_slice-bytes.ensures.bytes in
    let begun = rw same at c.in-Open.ensures in
    let short : length c.reads.buffer < HEAD_LIMIT = rw same at c.if-searched-ge-HEAD_LIMIT.false in
    λ m.
    rw c.input_ended.ensures
    (Reads-from_none m _ _ _ _ c.reads.buffer _ _ c.in-Open.begun (c.reads.invariant.0 m) begun short
    (rw c.in-Ok-eq0.field-0-test at c.in-Ok-eq0.ensures.filled))

pub returns-in-Err-clause-ended : goal.returns-in-Err-clause-ended
returns-in-Err-clause-ended g c =
    let same = c.as_slice-bytes.ensures.bytes in
    let begun = rw same at c.in-Open.ensures in
    let short : length c.reads.buffer < HEAD_LIMIT = rw same at c.if-searched-ge-HEAD_LIMIT.false in
    λ m. Reads-from_fault m _ _ _ _ c.reads.buffer _ c.in-Open.begun (c.reads.invariant.0 m) begun short c.in-Err.ensures.nothing_read

pub returns-in-Err-clause-fault : goal.returns-in-Err-clause-fault
returns-in-Err-clause-fault g c = λ is. omega (arith, c.in-Err.ensures.failed refl, (c.reads.invariant.0 0).taken.others.read_faults)

pub reads-preserved : goal.reads-preserved
reads-preserved g c =
    let same = c.as_slice-bytes.ensures.bytes in
    let begun = rw same at c.in-Open.ensures in
    let short : length c.reads.buffer < HEAD_LIMIT = rw same at c.if-searched-ge-HEAD_LIMIT.false in
    let f = c.in-Ok.ensures.filled in (
      λ m. Gathers-fill m _ _ _ _ c.reads.buffer _ c.in-Ok.field-0 (c.reads.invariant.0 m)
          (inl (HasNoBlock-from_search c.reads.buffer c.in-Open.begun begun, short)) f (omega (arith, c.in-Ok.field-0-test.1)),
      rw (f.joined, same) (IsSearched-append c.reads.buffer f.piece c.in-Open.begun (length c.reads.buffer) (omega arith) begun),
      rw (same, f.joined) (omega (arith, length-append c.reads.buffer f.piece)),
    )
