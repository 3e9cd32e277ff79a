use Rattle.std.specs.Io.KnownBytes.{Keeps}
use Rattle.osm_real.specs.Stream.{patient_over}
use Rattle.osm_real.proofs.patient.PatientStreamDuplex.receive.Given as goal

abbrev pub invariant-looks : goal.invariant-looks
invariant-looks g l = Keeps (g.S.Read.remaining (patient_over l.fn.self)) (g.S.Read.remaining (patient_over l.self))
