-- What replaying a text comes to, from its parts.
use Rattle.std.proofs.Common.{◌≡◌, List, Ok, inl, subst}
use Rattle.osm_model.specs.declared.commands.Entry.{Entry}
use Rattle.osm_outside.specs.Told.{Told}
use Rattle.journal_input.specs.Input.{IsRead}
use Rattle.server_frame.specs.declared.exit.Exit.{Exit}
use Rattle.osm_serve.specs.Replay.{AreReplayLines, Replays}
use Rattle.osm_serve.specs.Tell.{Tells}

pub told : (journal shown : List Entry) (before between after : Told) (exit : Exit) → IsRead {X = Unit {0}} before between journal (Ok tt)
    → shown ≡ journal → Tells (AreReplayLines shown) between after exit → Replays before after exit
told journal shown before between after exit read same tells = inl (record {
  journal = journal;
  between = between;
  read = read;
  tells = subst (λ j. Tells (AreReplayLines j) between after exit) same tells;
})
