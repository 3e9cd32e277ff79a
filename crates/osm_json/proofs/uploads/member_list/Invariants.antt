use Rattle.std.proofs.Common.{take, flat_map}
use Rattle.osm_change.specs.Document.{member_said}
use Rattle.osm_json.specs.Uploads.{given_member}
use Rattle.osm_json.specs.Sent.{Appends, tokens_of}
use Rattle.osm_json.proofs.uploads.member_list.Given as goal

abbrev pub invariant-loop-listed : goal.invariant-loop-listed
invariant-loop-listed l = Appends l.initial.out l.out (flat_map (λ m. tokens_of (given_member (member_said l.change m))) (take l.listed-index l.list))
