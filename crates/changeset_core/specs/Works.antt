-- The versions that a changeset made, as runs.
use Rattle.std.specs.Prelude.{ℕ, List, map, flat_map}
use Rattle.std.specs.List.{range_with_len}
use Rattle.osm_base.specs.declared.keys.Kind.{Kind}
use Rattle.changeset_core.specs.declared.records.Work.{Work}

-- a version of an element
abbrev pub work : Kind → ℕ → ℕ → Work
work kind version id = record { key = record { kind = kind; id = id }; version = version }

-- versions of one number, of so many elements from an id on
abbrev pub run_of : Kind → ℕ → ℕ → ℕ → List Work
run_of kind version id count = map (work kind version) (range_with_len id count)

-- the versions of runs, one run after the other
abbrev pub works_of : List (List Work) → List Work
works_of runs = flat_map (λ run. run) runs
