-- One operation of an upload, and its preconditions (wiki, API v0.6, "Diff upload" and the calls
-- that modify and delete an element).
use Rattle.std.specs.Prelude.{ℕ, ◌+◌, Bool, true, false, not, ◌==◌, if◌then◌else◌, List, [], ◌∷◌, ◌++◌, length, find, Option, Some, None, Result, Ok, Err}
use Rattle.std.specs.Option.{option_map_or}
use Rattle.osm_base.specs.Outcome.{◌>>=◌, refuse_if}
use Rattle.osm_base.specs.declared.keys.Kind.{Kind}
use Rattle.osm_base.specs.declared.keys.Key.{Key}
use Rattle.osm_element.specs.Elements.{key, next_id, count, is_visible, first_user, push_version}
use Rattle.osm_element.specs.Tags.{Tag}
use Rattle.osm_element.specs.declared.contents.Content.{Content}
use Rattle.osm_element.specs.declared.elements.Elements.{Elements}
use Rattle.osm_element.specs.Version.{Version}
use Rattle.osm_change.specs.Change.{kind_of, names_listed}
use Rattle.osm_change.specs.Names.{said}
use Rattle.osm_change.specs.declared.operations.Name.{Name}
use Rattle.osm_change.specs.declared.operations.Named.{Named}
use Rattle.osm_change.specs.declared.operations.Op.{Op}
use Rattle.osm_change.specs.declared.operations.Op.TheVariants.{Create, Modify, Delete}
use Rattle.osm_change.specs.declared.operations.OpDone.TheVariants.{Applied, Skipped}
use Rattle.osm_change.specs.declared.refusals.Refusal.{Refusal}
use Rattle.osm_change.specs.declared.refusals.Refusal.TheVariants as refused
use Rattle.changeset_core.specs.Changeset.{touched_area, join_areas}
use Rattle.osm_model.specs.Upload.{Upload}
use Rattle.osm_model.specs.Names.{known_key, said_key, with_ids}
use Rattle.osm_model.specs.declared.uploads.Progress.{Progress}

-- -- tests

-- the place of the operation that is judged, counted from 1
abbrev pub number : Progress → Option ℕ
number g = Some (length g.keys + 1)

-- the element that is named, if it has a history
abbrev pub named_key : Upload → Progress → Kind → Name → Result Key Refusal
named_key u g k name =
    option_map_or Ok (known_key u g k name) (Err (refused.NoElement (said u.operations name) (number g) k))

-- the version that is named is the current one
abbrev pub named_version : Upload → Progress → Kind → Name → Key → ℕ → Result (Unit {0}) Refusal
named_version u g kind name k version =
    refuse_if
    (not (count g.elements k == version))
    (refused.WrongVersion (count g.elements k) (said u.operations name) (number g) version kind)

abbrev pub is_missing : Upload → Progress → Named → Bool
is_missing u g r = not (option_map_or (is_visible g.elements) (known_key u g r.kind r.name) false)

abbrev pub missing : Upload → Progress → Named → Refusal
missing u g r =
    refused.Missing
    (said u.operations r.name)
    (number g)
    r.kind
    (option_map_or (count g.elements) (known_key u g r.kind r.name) 0)

-- the first reference that isn't visible counts
abbrev pub references_visible : Upload → Progress → Content Name → Result (Unit {0}) Refusal
references_visible u g new =
    option_map_or (λ r. Err (missing u g r)) (find (is_missing u g) (names_listed new)) (Ok tt)

abbrev pub gone : Upload → Progress → Kind → Name → Key → Refusal
gone u g kind name k = refused.Gone (said u.operations name) (number g) kind (count g.elements k)

abbrev pub used : Upload → Progress → Kind → Name → Key → Refusal
used u g kind name user =
    refused.Used
    (said u.operations name)
    (number g)
    kind
    (said_key u g user)
    user.kind
    (count g.elements user)

-- -- effects

-- a version that the upload makes
abbrev pub made_version : Upload → Option (Content ℕ) → List Tag → Version
made_version u new tags = record { content = new; tags = tags; changeset = u.changeset; stamp = u.stamp; redaction = None }

-- an element gets a version, and what it touches is in the upload's box
abbrev pub applied : Upload → Progress → Key → Option (Content ℕ) → List Tag → Progress
applied u g k new tags = record {
  elements = push_version g.elements k (made_version u new tags);
  keys = g.keys ++ k ∷ [];
  done = g.done ++ Applied (count g.elements k + 1) ∷ [];
  touched = join_areas g.touched (touched_area g.elements k new);
}

-- the element is left as it is
abbrev pub skipped : Progress → Key → Progress
skipped g k = record g {
  keys = g.keys ++ k ∷ [];
  done = g.done ++ Skipped (count g.elements k) ∷ [];
}

-- -- the operations

abbrev pub next_key : Elements → Kind → Key
next_key E kind = key kind (next_id E kind)

abbrev pub created : Upload → Progress → Content Name → List Tag → Progress
created u g new tags = applied u g (next_key g.elements (kind_of new)) (Some (with_ids g.keys new)) tags

abbrev pub create : Upload → Progress → Content Name → List Tag → Result Progress Refusal
create u g new tags = references_visible u g new >>= λ fine. Ok (created u g new tags)

abbrev pub modified : Upload → Progress → Key → Content Name → List Tag → Progress
modified u g k new tags = applied u g k (Some (with_ids g.keys new)) tags

abbrev pub modify_current : Upload → Progress → Key → Content Name → List Tag → Result Progress Refusal
modify_current u g k new tags = references_visible u g new >>= λ fine. Ok (modified u g k new tags)

abbrev pub modify_known : Upload → Progress → Name → Key → ℕ → Content Name → List Tag → Result Progress Refusal
modify_known u g name k version new tags = named_version u g (kind_of new) name k version >>= λ fine. modify_current u g k new tags

abbrev pub modify : Upload → Progress → Name → ℕ → Content Name → List Tag → Result Progress Refusal
modify u g name version new tags = named_key u g (kind_of new) name >>= λ k. modify_known u g name k version new tags

abbrev pub or_skipped : Progress → Key → Bool → Refusal → Result Progress Refusal
or_skipped g k if_unused r = if if_unused then Ok (skipped g k) else Err r

-- an element that is visible, and its first user
abbrev pub delete_unless_used : Upload → Progress → Kind → Name → Key → Bool → Option Key → Result Progress Refusal
delete_unless_used u g kind name k if_unused None = Ok (applied u g k None [])
delete_unless_used u g kind name k if_unused (Some user) = or_skipped g k if_unused (used u g kind name user)

abbrev pub delete_visible : Upload → Progress → Kind → Name → ℕ → Bool → Key → Bool → Result Progress Refusal
delete_visible u g kind name version if_unused k false = or_skipped g k if_unused (gone u g kind name k)
delete_visible u g kind name version if_unused k true =
    named_version u g kind name k version >>= λ fine. delete_unless_used u g kind name k if_unused (first_user g.elements k)

abbrev pub delete_known : Upload → Progress → Kind → Name → ℕ → Bool → Key → Result Progress Refusal
delete_known u g kind name version if_unused k = delete_visible u g kind name version if_unused k (is_visible g.elements k)

-- a delete of what is deleted, or used, is refused, or skipped where the client asked for that
abbrev pub delete : Upload → Progress → Kind → Name → ℕ → Bool → Result Progress Refusal
delete u g kind name version if_unused = named_key u g kind name >>= delete_known u g kind name version if_unused

abbrev pub operate : Upload → Progress → Op → Result Progress Refusal
operate u g (Create placeholder content tags) = create u g content tags
operate u g (Modify name version content tags) = modify u g name version content tags
operate u g (Delete kind name version if_unused) = delete u g kind name version if_unused

-- one operation after the other, each on what the earlier ones left
abbrev pub operate_all : Upload → Progress → List Op → Result Progress Refusal
operate_all u g [] = Ok g
operate_all u g (o ∷ ops) = operate u g o >>= λ next. operate_all u next ops
