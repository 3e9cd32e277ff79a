-- No two exits have the same status.
use Rattle.std.proofs.Common.{◌≡◌, ◌∙◌, ℕ, ap, refl, sym}
use Rattle.std.specs.Prelude.{◌==◌, cond}
use Rattle.server_frame.specs.Exit.{status_of_exit}
use Rattle.server_frame.specs.declared.exit.Exit.{Exit}
use Rattle.server_frame.specs.declared.exit.Exit.TheVariants.{Done, NoReading, UsersRefused, NotRead, NotWritten, NoMemory, NoLinks, MessageRefused, JournalRefused, NotKept}

abbrev exit_at : ℕ → Exit
exit_at status =
    cond (status == 0) Done
    (cond (status == 1) NoReading
    (cond (status == 2) UsersRefused
    (cond (status == 3) NotRead
    (cond (status == 4) NotWritten
    (cond (status == 5) NoMemory
    (cond (status == 6) NoLinks
    (cond (status == 7) MessageRefused
    (cond (status == 8) JournalRefused NotKept))))))))

told : (exit : Exit) → exit_at (status_of_exit exit) ≡ exit
told Done = refl
told NoReading = refl
told UsersRefused = refl
told NotRead = refl
told NotWritten = refl
told NoMemory = refl
told NoLinks = refl
told MessageRefused = refl
told JournalRefused = refl
told NotKept = refl

pub differ : (one other : Exit) → status_of_exit one ≡ status_of_exit other → one ≡ other
differ one other same = sym (told one) ∙ ap exit_at same ∙ told other
