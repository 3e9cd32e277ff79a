use Rattle.std.proofs.Common.{refl}
use Rattle.osm_words.specs.Words.{HasSessions}
use Rattle.osm_serve.proofs.top.run_words_over.Goals as goal

pub returns-in-Pipe : goal.returns-in-Pipe
returns-in-Pipe g c = rw c.in-Pipe.is (record { files = refl; comes = c.run_standard.ensures })

pub measure-requires : goal.measure-requires
measure-requires g c =
    let has : HasSessions c.in-Measure.load = rw c.in-Measure.is at c.requires.sessions in
    record { some = has.some; few = has.few; empty = c.requires.empty }

pub returns-in-Measure : goal.returns-in-Measure
returns-in-Measure g c = rw c.in-Measure.is (record { files = refl; comes = record { host_stays = refl; tells = c.measure.ensures } })

pub export-requires : goal.export-requires
export-requires g c =
    let has : HasSessions c.in-Export.load = rw c.in-Export.is at c.requires.sessions in
    record { some = has.some; few = has.few; empty = c.requires.empty }

pub returns-in-Export : goal.returns-in-Export
returns-in-Export g c = rw c.in-Export.is (record { files = refl; comes = record { host_stays = refl; tells = c.export.ensures } })

pub returns-in-Replay : goal.returns-in-Replay
returns-in-Replay g c = rw c.in-Replay.is (record { files = refl; comes = record { host_stays = refl; replays = c.replay.ensures } })

pub returns-in-Notes : goal.returns-in-Notes
returns-in-Notes g c = rw c.in-Notes.is (record { files = refl; comes = c.run_standard-in-Notes.ensures })

pub returns-in-ServeNotes : goal.returns-in-ServeNotes
returns-in-ServeNotes g c = rw c.in-ServeNotes.is c.listen_for_notes.ensures

pub returns-in-Serve : goal.returns-in-Serve
returns-in-Serve g c = rw c.in-Serve.is c.listen_for_the_map.ensures
