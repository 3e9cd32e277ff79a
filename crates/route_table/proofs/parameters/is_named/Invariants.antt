use Rattle.std.proofs.Common.{◌≡◌}
use Rattle.std.specs.Str.{bytes_eq}
use Rattle.percent_encoding.specs.Iter.{decoded_bytes}
use Rattle.route_table.specs.Parameters.{is_named}
use Rattle.route_table.proofs.parameters.is_named.Given as goal

abbrev pub invariant-loop-byte : goal.invariant-loop-byte
invariant-loop-byte l = bytes_eq (decoded_bytes l.byte-iterator) l.rest ≡ is_named l.fn.name l.fn.part
