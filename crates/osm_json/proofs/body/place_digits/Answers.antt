use Rattle.std.proofs.Common.{◌+◌, arith, rules}
use Rattle.std.specs.Fmt.{decimal}
use Rattle.osm_json.proofs.Placing.{placed_digits}
use Rattle.osm_json.proofs.body.place_digits.Goals as goal

pub returns : goal.returns
returns c =
    placed_digits c.args.buf.now c.write_digits.new.buf (decimal c.args.n) c.args.at c.write_digits.result (c.args.at + c.args.count) c.write_digits.ensures.start (omega arith) (search rules) c.write_digits.ensures.written c.write_digits.ensures.before
