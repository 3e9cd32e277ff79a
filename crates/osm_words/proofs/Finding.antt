-- What a parse of a simple command comes to.
use Rattle.std.proofs.Common.{◌≡◌, ◌⊎◌, ◌∙◌, ap, sym, refl, inl, inr, List, [], ◌∷◌, Some, None, Err}
use Rattle.clap.specs.Words.{IsAmong, Kinds, Row}
use Rattle.clap.specs.declared.error.kind.ErrorKind.{ErrorKind}
use Rattle.clap.specs.declared.error.kind.ErrorKind.TheVariants.{OutOfMemory}
use Rattle.osm_words.specs.declared.words.WordsFault.{WordsFault}
use Rattle.osm_words.specs.declared.words.WordsFault.TheVariants.{NoReading, Memory}
use Rattle.osm_words.specs.Commands.{unless_faulty}
use Rattle.osm_words.specs.Found.{Finds, Tells}

-- there is no fault, so the matches are these
pub matched : (kinds : Kinds) (rows given : List Row) → kinds ≡ [] → given ≡ rows → unless_faulty kinds rows ≡ Some given
matched kinds rows given none same = ap (λ (k : Kinds). unless_faulty k rows) none ∙ ap (λ (r : List Row). Some r) (sym same)

-- there is a fault, so there are none
pub faulty : (kind : ErrorKind) (kinds : Kinds) (rows : List Row) → IsAmong kind kinds → unless_faulty kinds rows ≡ None
faulty kind [] rows among = absurd among
faulty kind (k ∷ kinds) rows among = refl

-- what a fault of the parse comes to
pub refused : (kinds : Kinds) (rows : List Row) (kind : ErrorKind) (fault : WordsFault) → (kind ≡ OutOfMemory) ⊎ IsAmong kind kinds → Tells kind fault
    → Finds (unless_faulty kinds rows) (Err fault)
refused kinds rows kind NoReading (inl memory) other = absurd (other memory)
refused kinds rows kind NoReading (inr among) other = faulty kind kinds rows among
refused kinds rows kind Memory why memory = tt
