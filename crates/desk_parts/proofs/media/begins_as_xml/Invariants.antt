use Rattle.std.proofs.Common.{◌≡◌, drop}
use Rattle.desk_parts.specs.Media.{begins_as_xml}
use Rattle.desk_parts.proofs.media.begins_as_xml.Given as goal

abbrev pub invariant-loop-byte : goal.invariant-loop-byte
invariant-loop-byte l = begins_as_xml (drop l.byte-index l.body) ≡ begins_as_xml l.body
