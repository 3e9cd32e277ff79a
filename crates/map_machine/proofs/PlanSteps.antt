-- What an upload comes to, as its command is judged.
use Rattle.std.proofs.Common.{◌≡◌, ℕ, Bool, true, false, List, Some, None, Ok, Err, sym, ap, ap₂, ◌∙◌}
use Rattle.std.specs.Prelude.{Result, if◌then◌else◌}
use Rattle.osm_base.specs.Stamp.{stamp_after}
use Rattle.osm_base.specs.Outcome.{◌>>=◌}
use Rattle.osm_base.specs.declared.keys.Key.{Key}
use Rattle.osm_change.specs.Rows.{rows}
use Rattle.osm_change.specs.declared.answers.Answer.{Answer}
use Rattle.osm_change.specs.declared.answers.Answer.TheVariants as answer
use Rattle.osm_change.specs.declared.operations.FirstIds.{FirstIds}
use Rattle.osm_change.specs.declared.operations.OpDone.{OpDone}
use Rattle.osm_change.specs.declared.refusals.Refusal.{Refusal}
use Rattle.osm_later.specs.Plan.{diff_answer, number_answer}
use Rattle.machine_law.specs.declared.tags.Settled.{Settled}
use Rattle.machine_law.specs.declared.tags.Tag.{Tag}
use Rattle.osm_model.specs.Act.{Effect, judge, settle, single_number}
use Rattle.osm_model.specs.Journal.{entry_of}
use Rattle.osm_model.specs.declared.commands.Entry.{Entry}
use Rattle.osm_model.specs.Fold.{uploaded}
use Rattle.osm_model.specs.declared.commands.Command.TheVariants as command
use Rattle.osm_model.specs.declared.states.State.{State}
use Rattle.osm_model.specs.declared.uploads.Progress.{Progress}
use Rattle.upload_check.specs.Asked.{AskedUpload, IsAccepted, IsRefused}
use Rattle.upload_check.specs.Commands.{command_of, told_upload}
use Rattle.map_machine.specs.Judging.{IsToldOf}
use Rattle.map_machine.specs.Machine.{bytes_of, entry_if, act_as}
use Rattle.map_machine.specs.declared.plans.Asked.{Asked as Request}

pub accepted-told :
    (T : State) (a : AskedUpload) (t : ℕ) (first : FirstIds) (ds : List OpDone)
    → IsAccepted T a t first ds
    → IsToldOf (judge T a.user t (command_of a)) (told_upload first a ds)
accepted-told T a t first ds is = by a.single
  where
    by : (b : Bool)
        → IsToldOf
        (judge T a.user t (if b then command.Single a.changeset a.change else command.Upload a.changeset a.change))
        (if b then number_answer first a.change ds else diff_answer first a.change ds)
    by true = record {
      done = record { state = uploaded T t a.changeset is.progress; answer = answer.Number (single_number a.change is.progress.keys is.progress.done) };
      judged = ap (λ (r : Result Progress Refusal). r >>= λ g. Ok (record { state = uploaded T t a.changeset g; answer = answer.Number (single_number a.change g.keys g.done) })) is.judged;
      told = ap₂ (λ (ks : List Key) (ds : List OpDone). answer.Number (single_number a.change ks ds)) is.keys (sym is.rows);
    }
    by false = record {
      done = record { state = uploaded T t a.changeset is.progress; answer = answer.Diff (rows a.change is.progress.keys is.progress.done) };
      judged = ap (λ (r : Result Progress Refusal). r >>= λ g. Ok (record { state = uploaded T t a.changeset g; answer = answer.Diff (rows a.change g.keys g.done) })) is.judged;
      told = ap₂ (λ (ks : List Key) (ds : List OpDone). answer.Diff (rows a.change ks ds)) is.keys (sym is.rows);
    }

pub refused-judged :
    (T : State) (a : AskedUpload) (t : ℕ) (r : Refusal)
    → IsRefused T a t r
    → judge T a.user t (command_of a) ≡ Err r
refused-judged T a t r is = by a.single
  where
    by : (b : Bool) → judge T a.user t (if b then command.Single a.changeset a.change else command.Upload a.changeset a.change) ≡ Err r
    by true = ap (λ (r : Result Progress Refusal). r >>= λ g. Ok (record { state = uploaded T t a.changeset g; answer = answer.Number (single_number a.change g.keys g.done) })) is.judged
    by false = ap (λ (r : Result Progress Refusal). r >>= λ g. Ok (record { state = uploaded T t a.changeset g; answer = answer.Diff (rows a.change g.keys g.done) })) is.judged

-- -- the command as a step of the machine

abbrev pub settled_as : State → Tag → ℕ → Request → Result Effect Refusal → Settled Entry
settled_as T tag moment asked r = record {
  answer = bytes_of (settle T (stamp_after T.last moment) r).1;
  entry = entry_if r (entry_of T tag.session tag.call asked.user moment asked.command);
}

abbrev pub settled_by : Tag → ℕ → Request → Answer → Settled Entry
settled_by tag at mine ans = record {
  answer = bytes_of ans;
  entry = Some (record { session = tag.session; call = tag.call; user = mine.user; stamp = at; command = mine.command });
}

abbrev pub settled_not : Refusal → Settled Entry
settled_not r = record { answer = bytes_of (answer.Refused r); entry = None }

pub acts-accepted :
    (T : State) (tag : Tag) (moment at : ℕ) (asked mine : Request) (ans : Answer)
    → IsToldOf (judge T asked.user (stamp_after T.last moment) asked.command) ans
    → at ≡ stamp_after T.last moment
    → mine ≡ asked
    → settled_by tag at mine ans ≡ act_as T tag moment asked
acts-accepted T tag moment at asked mine ans told stamped same =
    sym
    (ap (λ (r : Result Effect Refusal). settled_as T tag moment asked r) told.judged
    ∙ ap (λ (x : Answer). settled_by tag (stamp_after T.last moment) asked x) told.told
    ∙ ap₂ (λ (s : ℕ) (m : Request). settled_by tag s m ans) (sym stamped) (sym same))

pub acts-refused :
    (T : State) (tag : Tag) (moment : ℕ) (asked : Request) (r : Refusal)
    → judge T asked.user (stamp_after T.last moment) asked.command ≡ Err r
    → settled_not r ≡ act_as T tag moment asked
acts-refused T tag moment asked r judged =
    sym (ap (λ (x : Result Effect Refusal). settled_as T tag moment asked x) judged)
