use Rattle.std.proofs.Common.{take, flat_map}
use Rattle.osm_change.specs.Said.{said}
use Rattle.osm_json.specs.Shown.{integer}
use Rattle.osm_json.specs.Sent.{Appends, tokens_of}
use Rattle.osm_json.proofs.uploads.node_list.Given as goal

abbrev pub invariant-loop-name : goal.invariant-loop-name
invariant-loop-name l = Appends l.initial.out l.out (flat_map (λ name. tokens_of (integer (said l.change name))) (take l.name-index l.names))
