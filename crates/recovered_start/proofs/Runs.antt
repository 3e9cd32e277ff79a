-- What a run comes to by its beginning, and by what was served.
use Rattle.std.proofs.Common.{◌≡◌, ℕ, List, refl, inl, inr}
use Rattle.osm_outside.specs.Told.{Told}
use Rattle.osm_outside.specs.Host.{HostTold}
use Rattle.osm_outside.specs.Port.{PortTold}
use Rattle.journal_host.specs.Told.{JournalsTold, taken_back}
use Rattle.user_table.specs.Users.{Users}
use Rattle.link_workers.specs.Back.{take_all}
use Rattle.link_workers.specs.declared.outcome.Outcome.{Outcome}
use Rattle.server_frame.specs.Listening.{exit_of_outcome}
use Rattle.server_frame.specs.declared.exit.Exit.{Exit}
use Rattle.recovered_start.specs.Run.{Serving, BeginsKept, BeginsNone, RunsKept}

module _ {F : Type 0} (moment : F → ℕ) (left_since : F → ℕ → List ℕ → Type 0) (faults : F → ℕ)
    {E : Type 0} (text : List E → List ℕ) (is_entry : E → Type 0) (is_legal fits : List E → Type 0) (serves : Serving E F) where
  -- ports were opened and served so, and everything was given back
  pub served : (users address : List ℕ) (workers : ℕ) (path : List ℕ) (journals lent journals' : JournalsTold F) (host opened host' : HostTold)
      (link : Told) (exit : Exit) (journal : List E) (table : Users) (ports returned : List PortTold) (file : F) (outcome : Outcome)
      → BeginsKept text is_entry is_legal fits users address workers path journals lent host opened journal table ports
      → serves journal file table ports returned outcome → journals' ≡ taken_back lent file
      → host' ≡ record opened { lent = take_all opened.lent returned } → exit ≡ exit_of_outcome outcome
      → RunsKept moment left_since faults text is_entry is_legal fits serves users address workers path journals journals' host host' link link exit
  served users address workers path journals lent journals' host opened host' link exit journal table ports returned file outcome begins serve back closed is = inl (record {
    journal = journal;
    lent = lent;
    taken = begins.taken;
    fit = begins.fit;
    file = file;
    back = back;
    served = record {
      opened = opened;
      users = table;
      ports = ports;
      opens = begins.opens;
      returned = returned;
      back = closed;
      outcome = outcome;
      served = serve;
      exit_is = is;
    };
    link_stays = refl;
  })
