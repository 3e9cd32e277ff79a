-- What links over streams tell.
use Rattle.std.specs.Prelude.{ℕ, ◌+◌, ◌*◌, ◌<◌, List, [], Option, Some, None}
use Rattle.std.specs.Duration.{as_nanos}
use Rattle.std.specs.declared.time.Duration.{Duration}
use Rattle.osm_outside.specs.Told.{Told}
use Rattle.osm_real.specs.declared.stream.StreamLink.{StreamLink}
use Rattle.osm_real.specs.declared.patient.PatientStream.{PatientStream}

-- the stream that a link is over
abbrev pub link_stream : {S C : Type 0} → StreamLink S C → S
link_stream link = link.stream

-- what a link tells, by what is known of the bytes that its stream will give
abbrev pub stream_told : {S C : Type 0} → (S → Option (List ℕ)) → StreamLink S C → Told
stream_told left link = record {
  trace = link.trace.events;
  left = left link.stream;
  fixed = link.fixed;
  read_faults = link.read_faults;
  write_faults = link.write_faults;
}

-- what a link tells before its first call
abbrev pub unused : Option (List ℕ) → Told
unused left = record { trace = []; left = left; fixed = None; read_faults = 0; write_faults = 0 }

-- the stream that a patient one is over
abbrev pub patient_over : {S C : Type 0} → PatientStream S C → S
patient_over patient = patient.stream

-- More than so many seconds lie between two moments that are both known.
abbrev pub HasPassed : Option Duration → Option Duration → ℕ → Type 0
HasPassed (Some since) (Some now) seconds = as_nanos since + seconds * 1_000_000_000 < as_nanos now
HasPassed (Some since) None seconds = ⊥
HasPassed None now seconds = ⊥
