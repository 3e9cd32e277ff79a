use Rattle.std.proofs.Common.{◌≡◌, ◌≤◌, Err, ap, arith}
use Rattle.std.proofs.lemmas.Result.{err_from_is_err_and}
use Rattle.osm_base.specs.declared.limits.TheConstants.{HEAD_LIMIT}
use Rattle.http_wire.specs.declared.end.WireEnd.TheVariants.{ReadFault}
use Rattle.http_wire.proofs.MessageLemmas.{Reads-from_body, Reads-from_stop, Reads-from_refusal}
use Rattle.http_wire.proofs.message.read_next.Goals as goal

pub returns-clause-reads : goal.returns-clause-reads
returns-clause-reads g c =
    let bytes = c.read_block.new.buffer in
    let block = c.in_ok-block.block in
    let found = c.in_ok-block.ensures.found in
    let limit : block.end ≤ HEAD_LIMIT = omega (arith, found.within, c.read_block.ensures.limit) in
    let head = rw c.as_slice.ensures.bytes at c.in_ok-head.ensures.ok in
    let body = rw c.drop_front.ensures at c.in_ok-body.ensures.body in
    rw c.message_of.ensures
    (Reads-from_body c.args.body_limit _ _ _ _ bytes c.in_ok-body.body _ block.begin block.end c.in_ok-head.head (c.in_ok-block.ensures.gathered c.args.body_limit)
    found limit head body c.in_ok-body.ensures.size c.in_ok-body.ensures.limit)

pub returns-in_err-body-clause-reads : goal.returns-in_err-body-clause-reads
returns-in_err-body-clause-reads g c =
    let p = err_from_is_err_and c.from_residual-in_err-body.result c.from_residual-in_err-body.ensures.1 in
    let bytes = c.read_block.new.buffer in
    let block = c.in_ok-block.block in
    let found = c.in_ok-block.ensures.found in
    let limit : block.end ≤ HEAD_LIMIT = omega (arith, found.within, c.read_block.ensures.limit) in
    let head = rw c.as_slice.ensures.bytes at c.in_ok-head.ensures.ok in
    let stops = rw c.drop_front.ensures at c.in_err-body.ensures.stops in
    rw (p.1, p.2)
    (Reads-from_stop c.args.body_limit _ _ _ _ bytes _ block.begin block.end c.in_ok-head.head _ (c.in_ok-block.ensures.gathered c.args.body_limit) found limit head stops)

pub returns-in_err-head-clause-reads : goal.returns-in_err-head-clause-reads
returns-in_err-head-clause-reads g c =
    let p = err_from_is_err_and c.from_residual-in_err-head.result c.from_residual-in_err-head.ensures.1 in
    let block = c.in_ok-block.block in
    rw (p.1, p.2)
    (Reads-from_refusal c.args.body_limit _ _ _ c.read_block.new.buffer _ block.begin block.end _
    (c.in_ok-block.ensures.gathered c.args.body_limit) c.in_ok-block.ensures.found c.read_block.ensures.limit
    (rw c.as_slice.ensures.bytes at c.in_err-head.ensures.err))

pub returns-in_err-body-clause-fault : goal.returns-in_err-body-clause-fault
returns-in_err-body-clause-fault g c =
    let p = err_from_is_err_and c.from_residual-in_err-body.result c.from_residual-in_err-body.ensures.1 in
    λ is.
    let told = rw (p.1, p.2) at is in
    let same : c.in_err-body.field-0.0 ≡ ReadFault = cc in
    omega (arith, c.in_err-body.ensures.fault (ap Err same), (c.in_ok-block.ensures.gathered 0).taken.others.read_faults)
