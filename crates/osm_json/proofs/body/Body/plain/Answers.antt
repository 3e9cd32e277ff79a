use Rattle.std.proofs.Common.{take, drop, length, ap, ◌∙◌, vec_len, arith, [], ◌∷◌, ◌++◌}
use Rattle.json.proofs.Printed.Places.{Placed-then}
use Rattle.osm_json.proofs.Placing.{placed_grows}
use Rattle.osm_json.proofs.body.Body.plain.Goals as goal

pub returns : goal.returns
returns c =
    let from = c.self.inside in
    let placed = c.place-self-inside in
    rw (← c.self.view_is)
    (placed_grows from.bytes.items c.as_mut_slice-buf.result.now placed.new.buf (drop (length placed.new.buf) c.reach.new.bytes.items) (c.args.name.now ++ 34 ∷ (c.args.text.now ++ 34 ∷ []))
    from.len (vec_len from.bytes) placed.result (vec_len c.reach.new.bytes)
    (omega (arith, c.self.invariant)) (ap (take (vec_len from.bytes)) c.as_mut_slice-buf.ensures.value ∙ c.reach.ensures.front) c.as_mut_slice-buf.ensures.len
    (Placed-then c.place-at.ensures (Placed-then c.place-at-2.ensures (Placed-then c.place-at-3.ensures placed.ensures))))
