use Rattle.std.proofs.Common.{sym, ap, ◌∙◌}
use Rattle.osm_model.specs.Past.{made_by}
use Rattle.attic_reads.proofs.Cut.{history-by}
use Rattle.attic_reads.proofs.histories.versions_at.Goals as goal

pub returns : goal.returns
returns c = c.made_by.ensures ∙ ap (made_by c.args.at) c.history.ensures ∙ sym (history-by c.args.at c.args.store.now.elements c.args.key)
