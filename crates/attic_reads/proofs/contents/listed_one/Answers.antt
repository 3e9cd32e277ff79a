use Rattle.std.proofs.Common.{ap, ◌∙◌}
use Rattle.osm_model.specs.Past.{elements_by}
use Rattle.attic_reads.specs.Attic.{lists_among}
use Rattle.attic_reads.proofs.Held.{listed-among}
use Rattle.attic_reads.proofs.contents.listed_one.Goals as goal

pub returns-in-Some : goal.returns-in-Some
returns-in-Some c =
    c.lists_one.ensures ∙ ap (lists_among c.args.among.now) c.in-Some.ensures ∙ listed-among (elements_by c.args.at c.args.store.now.elements) c.args.among.now c.args.key

pub returns-in-None : goal.returns-in-None
returns-in-None c = ap (lists_among c.args.among.now) c.in-None.ensures ∙ listed-among (elements_by c.args.at c.args.store.now.elements) c.args.among.now c.args.key
