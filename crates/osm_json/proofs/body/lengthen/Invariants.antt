use Rattle.std.proofs.Common.{◌≡◌, ◌+◌, ◌-◌, ◌≤◌, take, vec_len}
use Rattle.osm_json.proofs.body.lengthen.Given as goal

abbrev pub invariant-loop-bytes : goal.invariant-loop-bytes
invariant-loop-bytes l = (take (vec_len l.fn.bytes) l.bytes.items ≡ l.fn.bytes.items) × (vec_len l.fn.bytes ≤ vec_len l.bytes)

abbrev pub decreases-loop-bytes : goal.decreases-loop-bytes
decreases-loop-bytes l = l.len + l.more - vec_len l.bytes
