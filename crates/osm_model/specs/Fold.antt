-- A whole upload (wiki, API v0.6, "Diff upload").
use Rattle.std.specs.Prelude.{ℕ, ◌+◌, nat_lt, List, [], ◌∷◌, ◌++◌, length, count_by, fold, filter_map, Option, Some, None, Result, Ok, Err}
use Rattle.std.specs.Option.{option_map_or}
use Rattle.osm_base.specs.Outcome.{◌>>=◌, refuse_if}
use Rattle.osm_base.specs.Place.{Area}
use Rattle.osm_base.specs.declared.keys.Key.{Key}
use Rattle.osm_base.specs.declared.people.User.{User}
use Rattle.osm_element.specs.Elements.{version, push_version}
use Rattle.osm_element.specs.declared.elements.Elements.{Elements}
use Rattle.osm_element.specs.Version.{Version}
use Rattle.osm_change.specs.Done.{is_applied}
use Rattle.osm_change.specs.declared.operations.Op.{Op}
use Rattle.osm_change.specs.declared.operations.OpDone.{OpDone}
use Rattle.osm_change.specs.declared.operations.OpDone.TheVariants.{Applied, Skipped}
use Rattle.osm_change.specs.declared.refusals.Refusal.{Refusal}
use Rattle.osm_change.specs.declared.refusals.Refusal.TheVariants as refused
use Rattle.changeset_core.specs.Changeset.{join_areas, limit_of, past_limit}
use Rattle.changeset_core.specs.declared.records.ChangesetRecord.{ChangesetRecord}
use Rattle.changeset_core.specs.declared.records.Work.{Work}
use Rattle.osm_model.specs.State.{own_changeset, with_work}
use Rattle.osm_model.specs.Upload.{Upload}
use Rattle.osm_model.specs.Operation.{operate_all}
use Rattle.osm_model.specs.declared.states.State.{State}
use Rattle.osm_model.specs.declared.uploads.Progress.{Progress}

abbrev pub start : Elements → Progress
start E = record { elements = E; keys = []; done = []; touched = None }

abbrev pub applied_count : Progress → ℕ
applied_count g = count_by is_applied g.done

-- what an operation made, if it made a version
abbrev pub work_of : Key → OpDone → List Work
work_of k (Applied version) = record { key = k; version = version } ∷ []
work_of k (Skipped version) = []

-- the versions that the operations made, in order, from each one's element and what it did
abbrev pub works : List Key → List OpDone → List Work
works [] ds = []
works (k ∷ ks) [] = []
works (k ∷ ks) (d ∷ ds) = work_of k d ++ works ks ds

-- the changeset takes so many changes
abbrev pub upload_counted : Upload → ChangesetRecord → Progress → Result (Unit {0}) Refusal
upload_counted u r g =
    refuse_if
    (nat_lt (limit_of r) (length r.did + applied_count g))
    (refused.Full (applied_count g) u.changeset (length r.did) (limit_of r))

-- a changeset with the one box may have the other, by the user's limit, if the user has one
abbrev pub box_allowed : Option ℕ → ℕ → Option Area → Option Area → Result (Unit {0}) Refusal
box_allowed None c before after = Ok tt
box_allowed (Some limit) c before after =
    option_map_or (λ area. Err (refused.BoxTooLarge area c limit)) (past_limit limit before after) (Ok tt)

-- the changeset takes what was done: so many changes, then its box with theirs
abbrev pub upload_tested : User → Upload → ChangesetRecord → Progress → Result Progress Refusal
upload_tested user u r g =
    upload_counted u r g
    >>= (λ fine. box_allowed user.limit u.changeset r.touched (join_areas r.touched g.touched) >>= λ fine. Ok g)

abbrev pub upload_own : User → Upload → ChangesetRecord → Result Progress Refusal
upload_own user u r = operate_all u (start u.before) u.operations >>= λ g. upload_tested user u r g

abbrev pub task : Elements → ℕ → ℕ → List Op → Upload
task E c t ops = record { before = E; changeset = c; stamp = t; operations = ops }

-- whether the changeset is the user's and open, then the operations in order, then whether it takes them
abbrev pub upload : State → User → ℕ → ℕ → List Op → Result Progress Refusal
upload P user t c ops = own_changeset P user t c >>= λ r. upload_own user (task P.elements c t ops) r

-- the map after it: the elements as it leaves them, and what it did entered in its changeset
abbrev pub uploaded : State → ℕ → ℕ → Progress → State
uploaded P t c g = with_work P c t g.elements (works g.keys g.done) g.touched

-- what a piece of work names, with its element
abbrev pub made_of : Elements → Work → Option (Key × Version)
made_of E w = option_map_or (λ v. Some (w.key, v)) (version E w.key w.version) None

-- the versions that an upload made, in order, each with its element
abbrev pub made : Progress → List (Key × Version)
made g = filter_map (made_of g.elements) (works g.keys g.done)

-- the elements with further versions, one after the other
abbrev pub all_pushed : Elements → List (Key × Version) → Elements
all_pushed E ms = fold (λ F m. push_version F m.0 m.1) E ms
