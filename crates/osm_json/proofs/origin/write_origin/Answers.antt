use Rattle.std.proofs.Common.{◌∙◌}
use Rattle.osm_json.proofs.Growing.{◌⨾◌, becomes, origin_is}
use Rattle.osm_json.proofs.origin.write_origin.Goals as goal

pub returns : goal.returns
returns c =
    let shown = rw (c.as_str.ensures.value ∙ c.moment_text-shown.ensures) at c.in_ok-text.ensures in
    let kind = rw c.kind_name.ensures at c.in_ok-text-2.ensures in
    let user = rw c.as_str-2.ensures at c.in_ok-text-3.ensures in
    becomes (origin_is (c.args.stamp, (c.args.kind, c.args.owner.now))) (shown ⨾ kind ⨾ c.in_ok-natural.ensures ⨾ user ⨾ c.in_ok-piece.ensures)
