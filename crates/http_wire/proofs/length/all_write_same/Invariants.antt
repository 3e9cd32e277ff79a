use Rattle.std.proofs.Common.{◌≡◌, map, drop}
use Rattle.std.specs.List.{list_all}
use Rattle.std.specs.Str.Parse.{digits_value}
use Rattle.httparse.specs.Spans.{header_bytes}
use Rattle.http_wire.specs.Fields.{values_of}
use Rattle.http_wire.specs.Length.{writes_number}
use Rattle.http_wire.proofs.length.all_write_same.Given as goal

abbrev pub invariant-loop-header : goal.invariant-loop-header
invariant-loop-header l =
    list_all (writes_number (digits_value 10 l.digits)) (values_of l.name (map (header_bytes l.block) (drop l.header-index l.headers)))
    ≡ list_all (writes_number (digits_value 10 l.digits)) (values_of l.name (map (header_bytes l.block) l.headers))
