use Rattle.osm_later.specs.Plan.{StandsOn}
use Rattle.osm_later.specs.Still.{Differs}
use Rattle.upload_check.specs.Planned.{plan_of}
use Rattle.upload_check.proofs.Told.{stands-told, falls-told, look-told}
use Rattle.upload_check.proofs.law.stills_tell_what_changed.Goals as goal

pub returns-clause-unchanged : goal.returns-clause-unchanged
returns-clause-unchanged c = λ S T p told made is counts users.
    stands-told (StandsOn (plan_of p) T) (λ look. Differs look (plan_of p) T) told is
    (c.reached_plans_stand.ensures S T (plan_of p) made counts users)

pub returns-clause-counts : goal.returns-clause-counts
returns-clause-counts c = λ S T p told k made is looked other.
    falls-told (StandsOn (plan_of p) T) (λ look. Differs look (plan_of p) T) told is
    (c.unlike_looks_fall.ensures.counts S T (plan_of p) k made looked other)

pub returns-clause-users : goal.returns-clause-users
returns-clause-users c = λ S T p told k made is looked other.
    falls-told (StandsOn (plan_of p) T) (λ look. Differs look (plan_of p) T) told is
    (c.unlike_looks_fall.ensures.users S T (plan_of p) k made looked other)

pub returns-clause-names : goal.returns-clause-names
returns-clause-names c = λ S T p told look made is err.
    c.stills_say_where_they_differ.ensures.names S T (plan_of p) look made
    (look-told (StandsOn (plan_of p) T) (λ look. Differs look (plan_of p) T) told look is err)
