use Rattle.std.proofs.Common.{take, flat_map}
use Rattle.osm_json.specs.Sent.{Appends, tokens_of}
use Rattle.notes_core.specs.Shown.{comment_data}
use Rattle.notes_core.proofs.send.write_comments.Given as goal

abbrev pub invariant-loop-comment : goal.invariant-loop-comment
invariant-loop-comment l = Appends l.initial.out l.out (flat_map (λ x. tokens_of (comment_data x)) (take l.comment-index l.comments))
