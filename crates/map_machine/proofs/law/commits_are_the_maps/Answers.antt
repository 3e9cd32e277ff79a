use Rattle.map_machine.proofs.Journals.{extended_after}
use Rattle.map_machine.proofs.law.commits_are_the_maps.Goals as goal

pub returns : goal.returns
returns c es tag moment asked next = extended_after es tag.session tag.call asked.user moment asked.command next
