use Rattle.std.proofs.Common.{ℕ, arith, ap}
use Rattle.osm_element.specs.declared.contents.Member.{Member as Reference}
use Rattle.osm_json.specs.Rows.{reference}
use Rattle.osm_json.specs.Added.{later_text}
use Rattle.osm_json.proofs.Growing.{◌⨾◌, becomes, one_more, whole, nothing}
use Rattle.osm_json.proofs.rows.later_references.Goals as goal

pub loop-member-init : goal.loop-member-init
loop-member-init c = nothing

pub loop-member-preserved : goal.loop-member-preserved
loop-member-preserved c =
    let f = λ (m : Reference ℕ). later_text (reference m) in
    one_more f c.args.list.now c.loop-member.member-index c.member-item.result c.loop-member-test.true c.loop-member.invariant (becomes (ap f c.member-item.is) (c.in_ok-piece.ensures ⨾ c.in_ok-reference.ensures))

pub returns : goal.returns
returns c = whole (λ m. later_text (reference m)) c.args.list.now c.loop-member.member-index (omega arith) c.loop-member.invariant
