-- What is read of an input in pieces is what the whole input says.
use Rattle.std.proofs.Common.{◌≡◌, ℕ, List, ◌++◌, Option, Some, None, Ok, Err, refl, sym, ap, subst, ◌∙◌, append_assoc, append-nil}
use Rattle.std.specs.List.{concat}
use Rattle.std.specs.Io.KnownBytes.{Consumes, IsAtEnd}
use Rattle.osm_outside.specs.Told.{Told}
use Rattle.http_wire.specs.declared.end.WireEnd.{WireEnd}
use Rattle.http_wire.specs.declared.end.WireEnd.TheVariants.{End, Truncated, BadHead, HeadLong, BadLength, BodyLong, Coded, ReadFault, Memory}
use Rattle.http_wire.specs.declared.message.Message.{Message}
use Rattle.http_wire.specs.End.{EndsAs, IsTold, IsSettled}
use Rattle.http_wire.specs.Received.{AgreesWithInput}
use Rattle.http_wire.specs.Message.{BeginsWithin}
use Rattle.http_wire.specs.Wire.{Reads}
use Rattle.http_wire.proofs.EndLemmas.{BeginsWith-append, EndsAs-append}

-- `body_limit` is the most bytes that a body may have.
module _ (body_limit : ℕ) where
  message_of_whole : (before after bytes input : List ℕ) (left : Option (List ℕ)) (m : Message) → Consumes (Some input) left bytes
      → BeginsWithin body_limit (before ++ bytes) m after → (rest : List ℕ) × (left ≡ Some rest) × BeginsWithin body_limit (before ++ input) m (after ++ rest)
  message_of_whole before after bytes input None m taken begins = absurd taken
  message_of_whole before after bytes input (Some rest) m taken begins = (
    rest,
    refl,
    rw (taken, ← append_assoc before bytes rest) (BeginsWith-append body_limit (before ++ bytes) rest after m begins),
  )

  pub message_in_any_pieces : (old new : Told) (before after input : List ℕ) (m : Message) → old.left ≡ Some input
      → Reads body_limit old new before (Ok m) after
      → (left : List ℕ) × (new.left ≡ Some left) × BeginsWithin body_limit (before ++ input) m (after ++ left)
  message_in_any_pieces old new before after input m known reads =
      message_of_whole before after (concat reads.pieces) input new.left m
      (subst (λ (o : Option (List ℕ)). Consumes o new.left (concat reads.pieces)) known reads.taken.input) reads.gives

  settled_end : (before bytes input : List ℕ) (left : Option (List ℕ)) (e : WireEnd) → IsSettled e → Consumes (Some input) left bytes
      → EndsAs body_limit (before ++ bytes) e → EndsAs body_limit (before ++ input) e
  settled_end before bytes input None e settled taken ends = absurd taken
  settled_end before bytes input (Some rest) e settled taken ends =
      subst (λ (l : List ℕ). EndsAs body_limit l e) (append_assoc before bytes rest ∙ ap (λ (l : List ℕ). before ++ l) (sym taken))
      (EndsAs-append body_limit (before ++ bytes) rest e settled ends)

  last_end : (before bytes input : List ℕ) (left : Option (List ℕ)) (e : WireEnd) → IsAtEnd left → Consumes (Some input) left bytes
      → EndsAs body_limit (before ++ bytes) e → EndsAs body_limit (before ++ input) e
  last_end before bytes input None e done taken ends = absurd taken
  last_end before bytes input (Some rest) e done taken ends =
      let same : bytes ≡ input = sym (taken ∙ ap (λ (l : List ℕ). bytes ++ l) done ∙ append-nil bytes) in
      subst (λ (l : List ℕ). EndsAs body_limit (before ++ l) e) same ends

  end_of_whole : (before bytes : List ℕ) (pieces : List (List ℕ)) (input : List ℕ) (left : Option (List ℕ)) (e : WireEnd) → IsTold e → AgreesWithInput e pieces left
      → Consumes (Some input) left bytes → EndsAs body_limit (before ++ bytes) e → EndsAs body_limit (before ++ input) e
  end_of_whole before bytes pieces input left End told agrees taken ends = last_end before bytes input left End agrees.at_end taken ends
  end_of_whole before bytes pieces input left Truncated told agrees taken ends = last_end before bytes input left Truncated agrees.at_end taken ends
  end_of_whole before bytes pieces input left HeadLong told agrees taken ends = settled_end before bytes input left HeadLong tt taken ends
  end_of_whole before bytes pieces input left BadHead told agrees taken ends = settled_end before bytes input left BadHead tt taken ends
  end_of_whole before bytes pieces input left Coded told agrees taken ends = settled_end before bytes input left Coded tt taken ends
  end_of_whole before bytes pieces input left BadLength told agrees taken ends = settled_end before bytes input left BadLength tt taken ends
  end_of_whole before bytes pieces input left BodyLong told agrees taken ends = settled_end before bytes input left BodyLong tt taken ends
  end_of_whole before bytes pieces input left ReadFault told agrees taken ends = absurd told
  end_of_whole before bytes pieces input left Memory told agrees taken ends = absurd told

  pub end_in_any_pieces : (old new : Told) (before after input : List ℕ) (e : WireEnd) → old.left ≡ Some input → IsTold e
      → Reads body_limit old new before (Err e) after → EndsAs body_limit (before ++ input) e
  end_in_any_pieces old new before after input e known told reads =
      end_of_whole before (concat reads.pieces) reads.pieces input new.left e told reads.stops
      (subst (λ (o : Option (List ℕ)). Consumes o new.left (concat reads.pieces)) known reads.taken.input) reads.gives
