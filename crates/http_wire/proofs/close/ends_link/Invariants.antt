use Rattle.std.proofs.Common.{◌≡◌, map, drop, codes}
use Rattle.std.specs.List.{list_any}
use Rattle.httparse.specs.Spans.{header_bytes}
use Rattle.http_wire.specs.Fields.{values_of}
use Rattle.http_wire.specs.Close.{says_close}
use Rattle.http_wire.proofs.close.ends_link.Given as goal

abbrev pub invariant-loop-header : goal.invariant-loop-header
invariant-loop-header l =
    list_any says_close (values_of (codes "connection") (map (header_bytes l.block) (drop l.header-index l.headers)))
    ≡ list_any says_close (values_of (codes "connection") (map (header_bytes l.block) l.headers))
