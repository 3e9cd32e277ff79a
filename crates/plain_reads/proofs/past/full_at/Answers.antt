use Rattle.std.proofs.Common.{subst}
use Rattle.osm_element.specs.declared.elements.Elements.{Elements}
use Rattle.osm_model.specs.Past.{full_unmarked}
use Rattle.plain_reads.specs.Read.{IsRead}
use Rattle.plain_reads.proofs.past.full_at.Goals as goal

pub returns : goal.returns
returns c =
    let P : Elements → Type 0 = λ past. IsRead (full_unmarked past c.args.key) c.full_unmarked.result in
    subst P c.in_ok-past.ensures c.full_unmarked.ensures
