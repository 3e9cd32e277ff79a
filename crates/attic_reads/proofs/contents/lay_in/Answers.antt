use Rattle.std.proofs.Common.{ap, ◌∙◌}
use Rattle.osm_model.specs.Past.{elements_by}
use Rattle.attic_reads.specs.Attic.{holds_in}
use Rattle.attic_reads.proofs.Held.{held-in}
use Rattle.attic_reads.proofs.contents.lay_in.Goals as goal

pub returns-in-Some : goal.returns-in-Some
returns-in-Some c =
    c.lies_in.ensures ∙ ap (holds_in c.args.within.now) c.in-Some.ensures ∙ held-in (elements_by c.args.at c.args.store.now.elements) c.args.within.now c.args.key

pub returns-in-None : goal.returns-in-None
returns-in-None c = ap (holds_in c.args.within.now) c.in-None.ensures ∙ held-in (elements_by c.args.at c.args.store.now.elements) c.args.within.now c.args.key
