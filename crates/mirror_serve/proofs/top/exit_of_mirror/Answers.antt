use Rattle.std.proofs.Common.{◌≡◌, inl, inr, refl, subst, sym, map, None, Option, string_bytes}
use Rattle.osm_words.specs.Words.{MirrorReading, mirror_reading_of}
use Rattle.server_frame.specs.declared.exit.Exit.TheVariants.{NoReading}
use Rattle.mirror_serve.specs.Run.{ComesTo}
use Rattle.mirror_serve.proofs.top.exit_of_mirror.Goals as goal

pub returns-in-Ok : goal.returns-in-Ok
returns-in-Ok g c =
    inl (subst
    (λ (reading : Option MirrorReading). ComesTo g.J.File.Device.seen g.J.File.Device.moment g.J.File.Device.left_since g.J.File.Device.faults reading (g.J.Journals.told c.args.journals.now) (g.J.Journals.told c.run_words.new.journals) (g.H.Host.told c.args.host.now) (g.H.Host.told c.run_words.new.host)
    (g.L.Outside.told c.args.standard.now) (g.L.Outside.told c.run_words.new.standard) c.run_words.result)
    (sym c.in-Ok.ensures.gives) c.run_words.ensures)

pub returns-in-Err-NoReading : goal.returns-in-Err-NoReading
returns-in-Err-NoReading g c =
    let none : mirror_reading_of (map string_bytes c.args.words.now) ≡ None = rw c.in-Err-NoReading.field-0-is at c.in-Err-NoReading.ensures.gives in
    inl (subst
    (λ (reading : Option MirrorReading). ComesTo g.J.File.Device.seen g.J.File.Device.moment g.J.File.Device.left_since g.J.File.Device.faults reading (g.J.Journals.told c.args.journals.now) (g.J.Journals.told c.args.journals.now) (g.H.Host.told c.args.host.now) (g.H.Host.told c.args.host.now)
    (g.L.Outside.told c.args.standard.now) (g.L.Outside.told c.args.standard.now) NoReading)
    (sym none) (record { files = refl; comes = record { host_stays = refl; link_stays = refl; exit_is = refl } }))

pub returns-in-Err-Memory : goal.returns-in-Err-Memory
returns-in-Err-Memory g c = inr (record { files = refl; comes = record { host_stays = refl; link_stays = refl; exit_is = refl } })
