use Rattle.std.proofs.Common.{◌∙◌, inr, map, refl, string_bytes, subst}
use Rattle.osm_words.specs.Words.{mirror_reading_of}
use Rattle.server_frame.specs.Exit.{TellsExit}
use Rattle.server_frame.specs.declared.exit.Exit.TheVariants.{NoMemory}
use Rattle.mirror_serve.specs.Run.{Runs}
use Rattle.osm_mirror.proofs.start.status_on.Goals as goal

pub returns-in-Ok : goal.returns-in-Ok
returns-in-Ok g c =
    subst (λ words. TellsExit (Runs g.J.File.Device.seen g.J.File.Device.moment g.J.File.Device.left_since g.J.File.Device.faults (mirror_reading_of (map string_bytes words)) (g.J.Journals.told c.args.journals.now)
    (g.J.Journals.told c.mirror.new.journals) (g.H.Host.told c.args.host.now) (g.H.Host.told c.mirror.new.host) (g.L.Outside.told c.args.standard.now) (g.L.Outside.told c.mirror.new.standard))
    c.mirror.result) (c.as_slice.ensures.value ∙ c.in-Ok.ensures) c.mirror.ensures

pub returns-in-Err : goal.returns-in-Err
returns-in-Err g c = record {
  exit = NoMemory;
  comes = inr (record { files = refl; comes = record { host_stays = refl; link_stays = refl; exit_is = refl } });
  status_is = c.status.ensures;
}
