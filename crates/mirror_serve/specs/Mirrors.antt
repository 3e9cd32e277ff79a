-- What serving the links of ports by a mirror does: the headline for many workers.
use Rattle.std.specs.Prelude.{ℕ, List}
use Rattle.osm_outside.specs.Port.{PortTold}
use Rattle.journal_text.specs.Text.{text_of}
use Rattle.kept_serve.specs.Ports.{EndsSealed}
use Rattle.kept_steps.specs.KeptPorts.{ServesKeptPorts}
use Rattle.osm_model.specs.Journal.{IsLegal}
use Rattle.osm_model.specs.declared.commands.Entry.{Entry}
use Rattle.mirror_desk.specs.Answers.{MirrorAnswers}
use Rattle.mirror_desk.specs.declared.setting.MirrorSetting.{MirrorSetting}
use Rattle.step_hub.specs.ServePorts.{ServesPorts}
use Rattle.link_workers.specs.declared.outcome.Outcome.{Outcome}

-- There is one list of the entries of all pieces that were folded, which is legal. One worker a port serves its links, and each
-- message is answered by the mirror's rules on a beginning of that list, whoever posted what it has. The beginnings never go back.
abbrev pub MirrorsPorts : MirrorSetting → List PortTold → List PortTold → Outcome → Type 0
MirrorsPorts setting before after outcome = ServesPorts MirrorAnswers IsLegal setting before after outcome

-- The same on from this journal, where the list goes on in this file, as it was at last: each reply that was sent was sent with a receipt in
-- hand for the beginning of the list that it was answered on, and the file is sealed where no call of it failed.
abbrev pub MirrorsKeptPorts : {F : Type 0} → (F → List ℕ) → (F → ℕ) → (F → ℕ → List ℕ → Type 0) → (F → ℕ) → List Entry → F → MirrorSetting → List PortTold → List PortTold → Outcome → Type 0
MirrorsKeptPorts seen moment left_since faults journal file setting before after outcome =
    ServesKeptPorts MirrorAnswers IsLegal text_of moment left_since faults setting journal file before after outcome × EndsSealed text_of seen file outcome
