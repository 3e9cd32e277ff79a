-- The invariants of the loops over an input.
use Rattle.std.proofs.Common.{◌≡◌, ℕ, ◌+◌, ◌<◌, ◌≤◌, Bool, true, false, List, [], ◌++◌, length, refl, sym, ap, ◌∙◌, subst, append_assoc, append-nil, length-append, arith}
use Rattle.std.proofs.lemmas.Bool.{true≢false}
use Rattle.osm_model.specs.declared.commands.Entry.{Entry}
use Rattle.osm_outside.specs.Told.{Told}
use Rattle.http_wire.specs.Received.{Fills}
use Rattle.journal_text.specs.Text.{header}
use Rattle.journal_input.specs.declared.lines.Lines.{Lines}
use Rattle.journal_text.specs.declared.faults.JournalFault.{JournalFault}
use Rattle.journal_text.specs.declared.limits.TheConstants.{TEXT_LIMIT}
use Rattle.journal_text.specs.declared.versions.Version.{Version}
use Rattle.journal_input.specs.declared.gate.Place.{Place}
use Rattle.journal_input.specs.Gate.{before_gate}
use Rattle.journal_input.specs.Going.{SoFar, Stands, Closes, LinesFail, Fails, Gone, RestIs}
use Rattle.journal_input.specs.Input.{IsInput}
use Rattle.journal_input.specs.Place.{IsOpen, Sees}
use Rattle.journal_input.proofs.Ends.{lines_fail}
use Rattle.journal_input.proofs.Gates.{no_longer_text}
use Rattle.journal_input.proofs.SoFarLemmas.{one_more, behind}

-- more of a text was read, so many bytes of it are read now, and this is what the next one is
pub record Longer (before now : Told) (text : List ℕ) (count : ℕ) (place : Place) : Type 0 where
  pub more : List ℕ
  pub so_far : SoFar before now (text ++ more)
  pub size : count ≡ length (text ++ more)
  pub sees : Sees place (text ++ more)

pub no_longer : (a b : Told) (text : List ℕ) (count : ℕ) (place : Place) → SoFar a b text → count ≡ length text → Sees place text → Longer a b text count place
no_longer a b text count place so_far size sees = record {
  more = [];
  so_far = subst (λ (t : List ℕ). SoFar a b t) (sym (append-nil text)) so_far;
  size = size ∙ ap length (sym (append-nil text));
  sees = subst (λ (t : List ℕ). Sees place t) (sym (append-nil text)) sees;
}

-- the text with one more piece, and its length
pub with_piece : (a b c : Told) (text more piece : List ℕ) (n : ℕ) → SoFar a b (text ++ more) → 0 < n → Fills b c [] piece n → SoFar a c (text ++ (more ++ piece))
with_piece a b c text more piece n so_far some f =
    one_more a b c (text ++ more) (text ++ (more ++ piece)) n some so_far
    (behind b c (text ++ more) (text ++ (more ++ piece)) piece n f (sym (append_assoc text more piece)))

pub size_with_piece : (b c : Told) (text more piece : List ℕ) (n count next : ℕ) → Fills b c [] piece n → count ≡ length (text ++ more) → next ≡ count + n → next ≡ length (text ++ (more ++ piece))
size_with_piece b c text more piece n count next f size is =
    let one : length piece ≡ n = ap length f.joined ∙ f.size in
    omega (arith, size, is, one, length-append text more, length-append text (more ++ piece), length-append more piece)

pub longer : (a b c : Told) (text piece other : List ℕ) (count n : ℕ) (place next : Place) → Longer a b text count place → 0 < n → Fills b c [] other n → piece ≡ other
    → ((t : List ℕ) → Sees place t → Sees next (t ++ piece)) → Longer a c text (count + n) next
longer a b c text piece other count n place next l some f same sees =
    let filled = subst (λ (p : List ℕ). Fills b c [] p n) (sym same) f in
    record {
      more = l.more ++ piece;
      so_far = with_piece a b c text l.more piece n l.so_far some filled;
      size = size_with_piece b c text l.more piece n count (count + n) filled l.size refl;
      sees = subst (λ (t : List ℕ). Sees next t) (append_assoc text l.more piece) (sees (text ++ l.more) l.sees);
    }

-- ---- the rest of an input

-- it was read to its end
pub rest_ended : (a c : Told) (text more : List ℕ) → IsInput a c (text ++ more) → length (text ++ more) ≤ TEXT_LIMIT → RestIs false a c text
rest_ended a c text more input within = record {
  more = more;
  input = input;
  long = λ e. absurd (true≢false (sym e));
  within = λ e. omega (arith, within, no_longer_text (text ++ more));
}

-- it was read to the limit
pub rest_at_limit : (a c : Told) (text more : List ℕ) (is_open : Bool) → IsInput a c (text ++ more) → length (text ++ more) ≡ TEXT_LIMIT + 1 → IsOpen is_open (text ++ more) → RestIs is_open a c text
rest_at_limit a c text more true input size counts = record {
  more = more;
  input = input;
  long = λ e. omega (arith, size, ap length counts);
  within = λ e. absurd (true≢false e);
}
rest_at_limit a c text more false input size counts = record {
  more = more;
  input = input;
  long = λ e. absurd (true≢false (sym e));
  within = λ e. omega (arith, size, counts);
}

module _ (version : Version) where
  -- the lines behind a header, before the first one
  pub gone_nowhere : (a b : Told) (journal : List Entry) (lines : Lines) (count : ℕ) → SoFar a b (header version) → count ≡ length (header version) → Stands version [] journal lines [] → Gone version a b journal lines count
  gone_nowhere a b journal lines count so_far size stands =
      let same = sym (append-nil (header version)) in
      record { bytes = []; so_far = subst (λ (text : List ℕ). SoFar a b text) same so_far; size = size ∙ ap length same; stands = stands }

  pub gone_on : (a b c : Told) (old new : List Entry) (lines next : Lines) (piece other : List ℕ) (count n : ℕ) → (gone : Gone version a b old lines count) → 0 < n → Fills b c [] other n
      → Stands version (gone.bytes ++ piece) new next [] → piece ≡ other → Gone version a c new next (count + n)
  gone_on a b c old new lines next piece other count n gone some f stands same =
      let filled = subst (λ (p : List ℕ). Fills b c [] p n) (sym same) f in
      record {
        bytes = gone.bytes ++ piece;
        so_far = with_piece a b c (header version) gone.bytes piece n gone.so_far some filled;
        size = size_with_piece b c (header version) gone.bytes piece n count (count + n) filled gone.size refl;
        stands = stands;
      }

  -- a fault of the lines is the text's, as whoever reads its rest asks for it
  pub fails_there : (a b c : Told) (old : List Entry) (lines : Lines) (piece other : List ℕ) (count n : ℕ) (why : JournalFault) (place next : Place) (Result : Type 0) → (gone : Gone version a b old lines count)
      → 0 < n → Fills b c [] other n → LinesFail version why (gone.bytes ++ piece) → Sees place (header version ++ gone.bytes) → ((t : List ℕ) → Sees place t → Sees next (t ++ piece))
      → ((text : List ℕ) → SoFar a c text → count + n ≡ length text → Sees next text → Fails why text → Result) → piece ≡ other → Result
  fails_there a b c old lines piece other count n why place next Result gone some f fail sees goes refuse same =
      let filled = subst (λ (p : List ℕ). Fills b c [] p n) (sym same) f in
      let text = header version ++ (gone.bytes ++ piece) in
      refuse text (with_piece a b c (header version) gone.bytes piece n gone.so_far some filled)
      (size_with_piece b c (header version) gone.bytes piece n count (count + n) filled gone.size refl)
      (subst (λ (t : List ℕ). Sees next t) (append_assoc (header version) gone.bytes piece) (goes (header version ++ gone.bytes) sees))
      (lines_fail version why (gone.bytes ++ piece) fail)

  -- and so is a gate in a piece
  pub closes_there : (a b c : Told) (old new : List Entry) (lines : Lines) (piece other : List ℕ) (count n : ℕ) (Result : Type 0) → (gone : Gone version a b old lines count)
      → 0 < n → Fills b c [] other n
      → ((bytes : List ℕ) → SoFar a c (header version ++ bytes) → count + n ≡ length (header version ++ bytes) → Closes version bytes new → Result) → Closes version (gone.bytes ++ piece) new → piece ≡ other → Result
  closes_there a b c old new lines piece other count n Result gone some f go closes same =
      let filled = subst (λ (p : List ℕ). Fills b c [] p n) (sym same) f in
      go (gone.bytes ++ piece) (with_piece a b c (header version) gone.bytes piece n gone.so_far some filled)
      (size_with_piece b c (header version) gone.bytes piece n count (count + n) filled gone.size refl) closes
