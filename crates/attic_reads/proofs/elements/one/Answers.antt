use Rattle.std.proofs.Common.{sym, ap, ◌∙◌}
use Rattle.osm_model.specs.Past.{elements_by}
use Rattle.attic_reads.specs.Attic.{last_in}
use Rattle.attic_reads.proofs.Last.{one-last}
use Rattle.attic_reads.proofs.elements.one.Goals as goal

pub returns : goal.returns
returns c = c.last_in.ensures ∙ ap (last_in c.args.key) c.versions_at.ensures ∙ sym (one-last (elements_by c.args.at c.args.store.now.elements) c.args.key)
