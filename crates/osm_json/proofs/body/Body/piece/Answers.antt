use Rattle.std.proofs.Common.{take, drop, length, ap, ◌∙◌, vec_len, arith}
use Rattle.osm_json.proofs.Placing.{placed_grows}
use Rattle.osm_json.proofs.body.Body.piece.Goals as goal

pub returns : goal.returns
returns c =
    let from = c.self.inside in
    let placed = c.place-self-inside in
    rw (← c.self.view_is)
    (placed_grows from.bytes.items c.as_mut_slice-buf.result.now placed.new.buf (drop (length placed.new.buf) c.reach.new.bytes.items) c.args.text.now
    from.len (vec_len from.bytes) placed.result (vec_len c.reach.new.bytes)
    (omega (arith, c.self.invariant)) (ap (take (vec_len from.bytes)) c.as_mut_slice-buf.ensures.value ∙ c.reach.ensures.front) c.as_mut_slice-buf.ensures.len placed.ensures)
