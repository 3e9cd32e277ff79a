-- The tests of one operation on an overlay. That they are the rules' own is proved of what the
-- overlay stands for.
use Rattle.std.specs.Prelude.{ℕ, Bool, true, false, not, ◌==◌, if◌then◌else◌, List, [], filter, find, fold, slice_get, Option, Some, None, Result, Ok, Err}
use Rattle.std.specs.Option.{option_map_or}
use Rattle.osm_base.specs.Outcome.{◌>>=◌, refuse_if}
use Rattle.osm_base.specs.declared.keys.Kind.{Kind}
use Rattle.osm_base.specs.declared.keys.Key.{Key}
use Rattle.osm_element.specs.Elements.{key, users}
use Rattle.osm_element.specs.declared.contents.Content.{Content}
use Rattle.osm_change.specs.Change.{kind_of, names_listed}
use Rattle.osm_change.specs.Keys.{next_of}
use Rattle.osm_change.specs.Names.{said}
use Rattle.osm_change.specs.declared.operations.Name.{Name}
use Rattle.osm_change.specs.declared.operations.Named.{Named}
use Rattle.osm_change.specs.declared.operations.Op.{Op}
use Rattle.osm_change.specs.declared.operations.Op.TheVariants.{Create, Modify, Delete}
use Rattle.osm_change.specs.declared.refusals.Refusal.{Refusal}
use Rattle.osm_change.specs.declared.refusals.Refusal.TheVariants as refused
use Rattle.osm_model.specs.Fold.{task}
use Rattle.osm_model.specs.Names.{known_key, said_key}
use Rattle.osm_model.specs.Operation.{number, named_key}
use Rattle.osm_model.specs.Upload.{Upload}
use Rattle.osm_model.specs.declared.uploads.Progress.{Progress}
use Rattle.upload_check.specs.Overlay.{Sight, standing, is_visible, uses}
use Rattle.upload_check.specs.Users.{least}
use Rattle.upload_check.specs.declared.checks.Step.{Step}

-- the upload and its progress, as far as names look at them
abbrev pub task_of : Sight → Upload
task_of s = task s.before 0 0 s.operations

abbrev pub named_in : Sight → Progress
named_in s = record { elements = s.before; keys = s.over.keys; done = []; touched = None }

abbrev pub place_of : Sight → Option ℕ
place_of s = number (named_in s)

abbrev pub known : Sight → Kind → Name → Option Key
known s kind name = known_key (task_of s) (named_in s) kind name

abbrev pub element : Sight → Kind → Name → Result Key Refusal
element s kind name = named_key (task_of s) (named_in s) kind name

abbrev pub wrong_version : Sight → Kind → Name → Key → ℕ → Refusal
wrong_version s kind name k version =
    refused.WrongVersion (standing s k).versions (said s.operations name) (place_of s) version kind

abbrev pub current_version : Sight → Kind → Name → Key → ℕ → Result (Unit {0}) Refusal
current_version s kind name k version =
    refuse_if (not ((standing s k).versions == version)) (wrong_version s kind name k version)

abbrev pub is_missing : Sight → Named → Bool
is_missing s r = not (option_map_or (is_visible s) (known s r.kind r.name) false)

abbrev pub missing : Sight → Named → Refusal
missing s r =
    refused.Missing
    (said s.operations r.name)
    (place_of s)
    r.kind
    (option_map_or (λ k. (standing s k).versions) (known s r.kind r.name) 0)

abbrev pub references : Sight → Content Name → Result (Unit {0}) Refusal
references s new = option_map_or (λ r. Err (missing s r)) (find (is_missing s) (names_listed new)) (Ok tt)

abbrev pub gone : Sight → Kind → Name → Key → Refusal
gone s kind name k = refused.Gone (said s.operations name) (place_of s) kind (standing s k).versions

abbrev pub used : Sight → Kind → Name → Key → Refusal
used s kind name user =
    refused.Used
    (said s.operations name)
    (place_of s)
    kind
    (said_key (task_of s) (named_in s) user)
    user.kind
    (standing s user).versions

-- -- the least user

-- the least of some keys that pass a test
abbrev pub lesser_where : (Key → Bool) → Option Key → Key → Option Key
lesser_where p found a = if p a then least found (Some a) else found

abbrev pub least_where : (Key → Bool) → List Key → Option Key
least_where p ks = fold (lesser_where p) None ks

-- the first of the users of before that still are, or one of the elements of the operations
abbrev pub least_user : Sight → Key → Option Key
least_user s k =
    least (slice_get (filter (λ a. uses s a k) (users s.before k)) 0) (least_where (λ a. uses s a k) s.over.keys)

-- -- the operations

-- the operation is on this element, and makes a version of it or leaves it
abbrev pub makes : Key → Step
makes k = record { key = k; applies = true }

abbrev pub leaves : Key → Step
leaves k = record { key = k; applies = false }

abbrev pub next_key : Sight → Kind → Key
next_key s kind = key kind (next_of s.over.next kind)

abbrev pub check_create : Sight → Content Name → Result Step Refusal
check_create s new = references s new >>= λ fine. Ok (makes (next_key s (kind_of new)))

abbrev pub check_current : Sight → Key → Content Name → Result Step Refusal
check_current s k new = references s new >>= λ fine. Ok (makes k)

abbrev pub check_known : Sight → Name → Key → ℕ → Content Name → Result Step Refusal
check_known s name k version new = current_version s (kind_of new) name k version >>= λ fine. check_current s k new

abbrev pub check_modify : Sight → Name → ℕ → Content Name → Result Step Refusal
check_modify s name version new = element s (kind_of new) name >>= λ k. check_known s name k version new

abbrev pub or_left : Key → Bool → Refusal → Result Step Refusal
or_left k if_unused r = if if_unused then Ok (leaves k) else Err r

abbrev pub refuse_used : Sight → Kind → Name → Key → Option Key → Result Step Refusal
refuse_used s kind name k None = Ok (makes k)
refuse_used s kind name k (Some user) = Err (used s kind name user)

-- an element with users
abbrev pub check_used : Sight → Kind → Name → Key → Bool → Result Step Refusal
check_used s kind name k if_unused =
    if if_unused then Ok (leaves k) else refuse_used s kind name k (least_user s k)

abbrev pub check_unused : Sight → Kind → Name → Key → Bool → Result Step Refusal
check_unused s kind name k if_unused =
    if (standing s k).users == 0 then Ok (makes k) else check_used s kind name k if_unused

abbrev pub check_visible : Sight → Kind → Name → ℕ → Bool → Key → Result Step Refusal
check_visible s kind name version if_unused k =
    if is_visible s k then (current_version s kind name k version >>= λ fine. check_unused s kind name k if_unused)
    else or_left k if_unused (gone s kind name k)

abbrev pub check_delete : Sight → Kind → Name → ℕ → Bool → Result Step Refusal
check_delete s kind name version if_unused = element s kind name >>= check_visible s kind name version if_unused

abbrev pub check : Sight → Op → Result Step Refusal
check s (Create placeholder content tags) = check_create s content
check s (Modify name version content tags) = check_modify s name version content
check s (Delete kind name version if_unused) = check_delete s kind name version if_unused
