use Rattle.std.specs.Io.KnownBytes.{Keeps}
use Rattle.osm_real.specs.Stream.{patient_over}
use Rattle.osm_real.proofs.patient.PatientStreamDuplex.send.Given as goal

abbrev pub invariant-looks : goal.invariant-looks
invariant-looks g l = Keeps (g.S.Write.contents (patient_over l.fn.self)) (g.S.Write.contents (patient_over l.self))
