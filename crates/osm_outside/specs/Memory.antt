-- A link in memory: what it was made of, and what each call does.
use Rattle.std.specs.Prelude.{◌≡◌, ℕ, ◌+◌, ◌-◌, ◌^◌, min, max, List, [], ◌∷◌, ◌++◌, length, take, Option, Some, unwrap_or, slice_get, ◌==◌, ◌&&◌, not, if◌then◌else◌}
use Rattle.std.specs.List.{Contains}
use Rattle.osm_outside.specs.Event.{Event, Took}
use Rattle.osm_outside.specs.Told.{Told}

-- a count of 64 bits after one more, which stands still at the greatest
abbrev pub next_count : ℕ → ℕ
next_count n = min (n + 1) (2 ^ 64 - 1)

-- calls that are counted from 0
pub record Counted : Type 0 where
  pub made : ℕ
  -- the numbers of those that fail
  pub bad : List ℕ
  pub faults : ℕ

-- no call yet, and the numbers of those that will fail
abbrev pub no_call : List ℕ → Counted
no_call bad = record { made = 0; bad = bad; faults = 0 }

-- The next call fails.
abbrev pub IsBad : Counted → Type 0
IsBad calls = Contains calls.bad calls.made

-- one call more
abbrev pub called : Counted → Counted
called calls = record calls { made = next_count calls.made }

-- one fault more
abbrev pub faulted : Counted → Counted
faulted calls = record calls { faults = next_count calls.faults }

-- a clock in memory
pub record Watch : Type 0 where
  pub moments : List ℕ
  -- how many readings there were
  pub readings : ℕ
  pub fixed : Option ℕ

-- the moment of that number, past the list the last one, and 0 where there is none
abbrev pub moment_at : List ℕ → ℕ → ℕ
moment_at moments reading = unwrap_or (slice_get moments reading) (unwrap_or (slice_get moments (length moments - 1)) 0)

-- what the next reading is answered
abbrev pub moment_of : Watch → ℕ
moment_of watch = unwrap_or watch.fixed (moment_at watch.moments watch.readings)

-- a link in memory
pub record LinkState : Type 0 where
  -- the bytes that reads will give
  pub left : List ℕ
  -- the most bytes that each read gives
  pub cuts : List ℕ
  pub reads : Counted
  pub written : List ℕ
  -- the most bytes that are written
  pub room : ℕ
  pub writes : Counted
  pub watch : Watch
  -- what happened on it
  pub trace : List Event

-- what the link tells
abbrev pub told_of : LinkState → Told
told_of link = record {
  trace = link.trace;
  left = Some link.left;
  fixed = link.watch.fixed;
  read_faults = link.reads.faults;
  write_faults = link.writes.faults;
}

-- the most bytes that the read of that number gives: one at least, and past the list any number
abbrev pub piece_limit : List ℕ → ℕ → ℕ
piece_limit cuts read = max (unwrap_or (slice_get cuts read) (2 ^ 64 - 1)) 1

-- how many bytes the next read gives to so many places, where it doesn't fail
abbrev pub given_count : LinkState → ℕ → ℕ
given_count link places = min (min (length link.left) places) (piece_limit link.cuts link.reads.made)

-- how many bytes of so many the next write takes, where it doesn't fail
abbrev pub taken_count : LinkState → ℕ → ℕ
taken_count link bytes = min bytes (link.room - length link.written)

-- the calls after a write that took n bytes of so many: to take none of some is a fault
abbrev pub after_write : Counted → ℕ → ℕ → Counted
after_write calls bytes n = if (n == 0) && not (bytes == 0) then faulted (called calls) else called calls

-- the link after a write of a piece that took n bytes
abbrev pub after_taking : LinkState → List ℕ → ℕ → LinkState
after_taking link piece n = record link {
  written = link.written ++ take n piece;
  writes = after_write link.writes (length piece) n;
  trace = link.trace ++ Took (take n piece) ∷ [];
}

-- a link in memory, and the number of the write that takes nothing
pub record SinkState : Type 0 where
  pub link : LinkState
  pub empty_at : ℕ

-- what such a link tells
abbrev pub sink_told_of : SinkState → Told
sink_told_of sink = told_of sink.link

-- The next write takes nothing.
abbrev pub TakesNone : SinkState → Type 0
TakesNone sink = sink.link.writes.made ≡ sink.empty_at
