-- What a command does, and what it answers.
use Rattle.std.specs.Prelude.{ℕ, ◌+◌, not, ◌||◌, ◌==◌, nat_lt, List, ◌∷◌, length, is_some, Option, Some, None, Result, Ok, Err}
use Rattle.osm_base.specs.Outcome.{◌>>=◌, refuse_if}
use Rattle.osm_base.specs.Stamp.{stamp_after}
use Rattle.osm_base.specs.declared.keys.Key.{Key}
use Rattle.osm_base.specs.declared.people.User.{User}
use Rattle.osm_element.specs.Elements.{count, version}
use Rattle.osm_element.specs.Tags.{Tag}
use Rattle.osm_change.specs.Done.{done_version}
use Rattle.osm_change.specs.Rows.{rows}
use Rattle.osm_change.specs.declared.answers.Answer.{Answer}
use Rattle.osm_change.specs.declared.answers.Answer.TheVariants as answer
use Rattle.osm_change.specs.declared.operations.Op.{Op}
use Rattle.osm_change.specs.declared.operations.Op.TheVariants.{Create, Modify, Delete}
use Rattle.osm_change.specs.declared.operations.OpDone.{OpDone}
use Rattle.osm_change.specs.declared.refusals.Refusal.{Refusal}
use Rattle.osm_change.specs.declared.refusals.Refusal.TheVariants as refused
use Rattle.osm_change.specs.declared.refusals.Said.TheVariants.{Id}
use Rattle.changeset_core.specs.Changeset.{retagged}
use Rattle.osm_model.specs.Changeset.{new_changeset, changeset_row}
use Rattle.osm_model.specs.State.{own_changeset, with_changeset, with_tags, with_end, with_redaction, with_mark}
use Rattle.osm_model.specs.Fold.{upload, uploaded}
use Rattle.osm_model.specs.declared.commands.Command.{Command}
use Rattle.osm_model.specs.declared.commands.Command.TheVariants as command
use Rattle.osm_model.specs.declared.states.State.{State}

-- what an accepted command leaves, its stamp aside, and answers
pub record Effect : Type 0 where
  pub state : State
  pub answer : Answer

-- changeset c is the c-th
abbrev pub create_changeset : State → User → ℕ → List Tag → Option ℕ → Effect
create_changeset P user t tags large_from = record {
  state = with_changeset P (new_changeset user t tags large_from);
  answer = answer.Number (length P.changesets + 1);
}

-- other tags, which is activity
abbrev pub retag : State → User → ℕ → ℕ → List Tag → Result Effect Refusal
retag P user t c tags =
    own_changeset P user t c
    >>= λ r. Ok (record { state = with_tags P c tags t; answer = answer.Changeset (changeset_row c (retagged r tags t) t) })

abbrev pub close_changeset : State → User → ℕ → ℕ → Result Effect Refusal
close_changeset P user t c = own_changeset P user t c >>= λ r. Ok (record { state = with_end P c t; answer = answer.Nothing })

-- the rows tell what each operation did
abbrev pub upload_change : State → User → ℕ → ℕ → List Op → Result Effect Refusal
upload_change P user t c ops =
    upload P user t c ops >>= λ g. Ok (record { state = uploaded P t c g; answer = answer.Diff (rows ops g.keys g.done) })

-- the new id of a create, else the version
abbrev pub number_of : Op → Key → OpDone → ℕ
number_of (Create placeholder content tags) k done = k.id
number_of (Modify name version content tags) k done = done_version done
number_of (Delete kind name version if_unused) k done = done_version done

abbrev pub single_number : List Op → List Key → List OpDone → ℕ
single_number (o ∷ ops) (k ∷ ks) (done ∷ ds) = number_of o k done
single_number ops ks ds = 0

-- an upload of one operation
abbrev pub single_change : State → User → ℕ → ℕ → List Op → Result Effect Refusal
single_change P user t c ops =
    upload P user t c ops >>= λ g. Ok (record { state = uploaded P t c g; answer = answer.Number (single_number ops g.keys g.done) })

-- redaction n is the n-th
abbrev pub make_redaction : State → List ℕ → Effect
make_redaction P title = record { state = with_redaction P title; answer = answer.Number (length P.redactions + 1) }

-- the version exists
abbrev pub known_version : State → Key → ℕ → Result (Unit {0}) Refusal
known_version P k n =
    refuse_if (count P.elements k == 0) (refused.NoElement (Id k.id) None k.kind)
    >>= λ there. refuse_if (not (is_some (version P.elements k n))) (refused.NoSuchVersion (Id k.id) k.kind n)

-- the redaction exists
abbrev pub known_redaction : State → ℕ → Result (Unit {0}) Refusal
known_redaction P redaction = refuse_if ((redaction == 0) || nat_lt (length P.redactions) redaction) (refused.NoRedaction redaction)

-- the current version can't be redacted
abbrev pub old_version : State → Key → ℕ → Result (Unit {0}) Refusal
old_version P k n = refuse_if (n == count P.elements k) (refused.RedactCurrent (Id k.id) k.kind n)

abbrev pub marked : State → Key → ℕ → Option ℕ → Effect
marked P k n redaction = record { state = with_mark P k n redaction; answer = answer.Nothing }

abbrev pub redact : State → Key → ℕ → ℕ → Result Effect Refusal
redact P k n redaction =
    known_version P k n
    >>= (λ there. known_redaction P redaction >>= λ known. old_version P k n >>= λ old. Ok (marked P k n (Some redaction)))

abbrev pub unredact : State → Key → ℕ → Result Effect Refusal
unredact P k n = known_version P k n >>= λ there. Ok (marked P k n None)

-- what a command comes to at a stamp
abbrev pub judge : State → User → ℕ → Command → Result Effect Refusal
judge P user t (command.CreateChangeset tags large_from) = Ok (create_changeset P user t tags large_from)
judge P user t (command.Retag c tags) = retag P user t c tags
judge P user t (command.CloseChangeset c) = close_changeset P user t c
judge P user t (command.Upload c ops) = upload_change P user t c ops
judge P user t (command.Single c ops) = single_change P user t c ops
judge P user t (command.MakeRedaction title) = Ok (make_redaction P title)
judge P user t (command.Redact k n redaction) = redact P k n redaction
judge P user t (command.Unredact k n) = unredact P k n

abbrev pub settle : State → ℕ → Result Effect Refusal → State × Answer
settle P t (Ok done) = (record done.state { last = t }, done.answer)
settle P t (Err r) = (P, answer.Refused r)

-- an accepted command sets the last stamp, and a refused one leaves the state
abbrev pub act : State → User → ℕ → Command → State × Answer
act P user moment c = settle P (stamp_after P.last moment) (judge P user (stamp_after P.last moment) c)
