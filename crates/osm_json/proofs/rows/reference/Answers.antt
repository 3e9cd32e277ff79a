use Rattle.osm_json.proofs.Growing.{◌⨾◌, becomes, reference_text}
use Rattle.osm_json.proofs.rows.reference.Goals as goal

pub returns : goal.returns
returns c =
    let role = rw c.as_str.ensures at c.in_ok-text.ensures in
    let kind = rw c.kind_name.ensures at c.in_ok-text-2.ensures in
    becomes (reference_text c.args.member.now) (c.in_ok-natural.ensures ⨾ role ⨾ kind ⨾ c.in_ok-piece.ensures)
