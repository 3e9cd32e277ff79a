use Rattle.std.proofs.Common.{codes, ◌≡◌, length, arith}
use Rattle.osm_json.specs.Rows.{tags as tags_data}
use Rattle.osm_json.proofs.Tokens.{none_sent, member_sent, sent}
use Rattle.osm_json.proofs.WrittenOps.{no_tags, some_tags}
use Rattle.osm_json.proofs.uploads.tags_if_some.Goals as goal

pub returns-then-len-eq0 : goal.returns-then-len-eq0
returns-then-len-eq0 c = let none : length c.args.of.now ≡ 0 = omega arith in rw (no_tags c.args.of.now none) none_sent

pub returns : goal.returns
returns c =
    let some : length c.args.of.now ≡ 0 → ⊥ = λ none. omega arith in
    rw (some_tags c.args.of.now some) (member_sent (codes "tags") (tags_data c.args.of.now) (sent c.in_ok-key.ensures) (rw c.list.ensures at c.in_ok-tags.ensures))
