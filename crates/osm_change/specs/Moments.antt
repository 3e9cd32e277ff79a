-- The moments of answers, in seconds since 1970: each of them has a text of four digits for the year.
use Rattle.std.specs.Prelude.{ℕ, ◌≤◌, All}
use Rattle.std.specs.Option.{ForSome}
use Rattle.osm_change.specs.declared.answers.Answer.{Answer}
use Rattle.osm_change.specs.declared.answers.Answer.TheVariants as answers
use Rattle.osm_change.specs.declared.answers.ChangesetRow.{ChangesetRow}
use Rattle.osm_change.specs.declared.answers.ElementRow.{ElementRow}
use Rattle.osm_change.specs.declared.refusals.Refusal.{Refusal}
use Rattle.osm_change.specs.declared.refusals.Refusal.TheVariants as refusals

-- a day after the last stamp at most, when the year is below 10,000
abbrev pub IsShownMoment : ℕ → Type 0
IsShownMoment seconds = seconds ≤ 253_000_086_400

abbrev pub HasShownStamp : ElementRow → Type 0
HasShownStamp r = IsShownMoment r.version.stamp

pub record HasShownLife (r : ChangesetRow) : Type 0 where
  pub created : IsShownMoment r.created
  pub closes : ForSome r.closes IsShownMoment

abbrev pub RefusalHasShownEnd : Refusal → Type 0
RefusalHasShownEnd (refusals.Closed changeset closed_at) = IsShownMoment closed_at
RefusalHasShownEnd _ = Unit {0}

-- all its moments have a text
abbrev pub HasShownMoments : Answer → Type 0
HasShownMoments (answers.Number n) = Unit {0}
HasShownMoments answers.Nothing = Unit {0}
HasShownMoments (answers.Diff rows) = Unit {0}
HasShownMoments (answers.Elements bounds rows) = All HasShownStamp rows
HasShownMoments (answers.Change rows) = All HasShownStamp rows
HasShownMoments (answers.Changeset row) = HasShownLife row
HasShownMoments (answers.Changesets rows) = All HasShownLife rows
HasShownMoments (answers.Refused fault) = RefusalHasShownEnd fault
