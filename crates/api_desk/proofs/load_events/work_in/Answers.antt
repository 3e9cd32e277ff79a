use Rattle.api_desk.proofs.Loads.{no_work_read, no_work_feed, no_work_refused}
use Rattle.api_desk.proofs.load_events.work_in.Goals as goal

pub returns-in-Ok-Change : goal.returns-in-Ok-Change
returns-in-Ok-Change c = rw c.in-Ok-Change.field-0-is at c.in-Ok-Change.ensures.gives

pub returns-in-Ok-Read : goal.returns-in-Ok-Read
returns-in-Ok-Read c = no_work_read _ _ (rw c.in-Ok-Read.field-0-is at c.in-Ok-Read.ensures.gives)

pub returns-in-Ok-Feed : goal.returns-in-Ok-Feed
returns-in-Ok-Feed c = no_work_feed _ _ (rw c.in-Ok-Feed.field-0-is at c.in-Ok-Feed.ensures.gives)

pub returns-in-Err-Refused : goal.returns-in-Err-Refused
returns-in-Err-Refused c = no_work_refused _ _ (rw c.in-Err-Refused.field-0-is at c.in-Err-Refused.ensures.gives)
