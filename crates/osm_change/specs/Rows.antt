-- The rows of a diff result: one for each operation, in order (OpenStreetMap wiki, API v0.6, "Diff upload").
use Rattle.std.specs.Prelude.{if◌then◌else◌, List, [], ◌∷◌, Some, None, ℤ}
use Rattle.osm_base.specs.declared.keys.Kind.{Kind}
use Rattle.osm_base.specs.declared.keys.Key.{Key}
use Rattle.osm_change.specs.Change.{kind_of}
use Rattle.osm_change.specs.Done.{is_applied, done_version}
use Rattle.osm_change.specs.Said.{said}
use Rattle.osm_change.specs.declared.answers.DiffRow.{DiffRow}
use Rattle.osm_change.specs.declared.operations.Op.{Op}
use Rattle.osm_change.specs.declared.operations.Op.TheVariants.{Create, Modify, Delete}
use Rattle.osm_change.specs.declared.operations.OpDone.{OpDone}

-- the old id, the new one and the version
abbrev pub whole_row : Kind → ℤ → Key → OpDone → DiffRow
whole_row kind old k done = record { kind = kind; old_id = old; new_id = Some k.id; new_version = Some (done_version done) }

-- an applied delete leaves nothing to tell but what went
abbrev pub deletion_row : Kind → ℤ → Key → OpDone → DiffRow
deletion_row kind old k done =
    if is_applied done then record { kind = kind; old_id = old; new_id = None; new_version = None } else whole_row kind old k done

-- the row of an operation among others, from the element that it was on and what it did
abbrev pub row : List Op → Op → Key → OpDone → DiffRow
row ops (Create placeholder content tags) k done = whole_row (kind_of content) placeholder k done
row ops (Modify name version content tags) k done = whole_row (kind_of content) (said ops name) k done
row ops (Delete kind name version if_unused) k done = deletion_row kind (said ops name) k done

-- the rows of some of the operations, up to the end of the shortest list
abbrev pub rows_among : List Op → List Op → List Key → List OpDone → List DiffRow
rows_among ops [] ks ds = []
rows_among ops (o ∷ rest) [] ds = []
rows_among ops (o ∷ rest) (k ∷ ks) [] = []
rows_among ops (o ∷ rest) (k ∷ ks) (d ∷ ds) = row ops o k d ∷ rows_among ops rest ks ds

-- the rows of an upload, from each operation's element and what it did
abbrev pub rows : List Op → List Key → List OpDone → List DiffRow
rows ops ks ds = rows_among ops ops ks ds
