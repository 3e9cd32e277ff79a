use Rattle.osm_json.proofs.Returned.{natural_returned, flag_returned, text_returned, kind_returned}
use Rattle.osm_json.proofs.law.values_are_read_again.Goals as goal

pub returns-clause-natural : goal.returns-clause-natural
returns-clause-natural c = natural_returned

pub returns-clause-flag : goal.returns-clause-flag
returns-clause-flag c = flag_returned

pub returns-clause-text : goal.returns-clause-text
returns-clause-text c = text_returned

pub returns-clause-kind : goal.returns-clause-kind
returns-clause-kind c = kind_returned
