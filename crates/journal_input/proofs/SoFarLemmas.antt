-- An input that is read piece by piece.
use Rattle.std.proofs.Common.{◌≡◌, ℕ, ◌+◌, ◌<◌, ◌≤◌, ◌==◌, false, List, [], ◌∷◌, ◌++◌, length, take, Result, Ok, Err, inl, inr, refl, sym, ap, ◌∙◌, append-nil, arith, ne_eqb, length-append}
use Rattle.std.specs.Prelude.{IfOk, OnErr}
use Rattle.std.specs.Io.KnownBytes.{ReadConsumes}
use Rattle.std.proofs.lemmas.List.{length-take-le}
use Rattle.osm_outside.specs.Told.{Told, AddsRead, OnlyReads, Rose}
use Rattle.osm_outside.specs.declared.outside.Failed.{Failed}
use Rattle.http_wire.specs.Received.{Fills, Taken}
use Rattle.journal_text.specs.declared.faults.JournalFault.TheVariants as fault
use Rattle.journal_text.specs.Text.{header}
use Rattle.journal_text.specs.declared.limits.TheConstants.{TEXT_LIMIT}
use Rattle.journal_text.specs.declared.versions.Version.TheVariants.{Two}
use Rattle.journal_input.specs.declared.faults.InputFault.{InputFault}
use Rattle.journal_input.specs.declared.faults.InputFault.TheVariants as why
use Rattle.journal_input.specs.Going.{SoFar, IsFront, Stops}
use Rattle.journal_input.specs.Input.{IsInput, IsStopped, IsInputFault}
use Rattle.journal_input.proofs.Received.{concat-push, Taken-nil, Taken-trans, HaveBytes-push, GaveAll-push, Consumes-kept_none}

-- ---- a read

pub filled : (r : Result ℕ Failed) (old new : Told) (into : List ℕ) → 0 < length into → IfOk r (λ n. n ≤ length into)
    → AddsRead old new r into → ReadConsumes old.left new.left r into → OnlyReads old new → IfOk r (λ n. Fills old new [] (take n into) n)
filled (Ok n) old new into room count adds read keeps =
    let some : (length into == 0) ≡ false = ne_eqb (length into) 0 (λ none. omega (arith, none, room)) in
    record {
      piece = take n into;
      taken = record { trace = rw some at adds; input = rw (append-nil (take n into)) read.0; others = keeps };
      joined = refl;
      size = length-take-le n into count;
      at_end = λ none. read.1 none room;
    }
filled (Err e) old new into room count adds read keeps = tt

pub nothing_read : (r : Result ℕ Failed) (old new : Told) (into : List ℕ) → AddsRead old new r into
    → ReadConsumes old.left new.left r into → OnlyReads old new → OnErr r (Taken old new [])
nothing_read (Ok n) old new into adds read keeps = tt
nothing_read (Err e) old new into adds read keeps =
    record { trace = adds ∙ sym (append-nil old.trace); input = Consumes-kept_none old.left new.left read; others = keeps }

-- a piece behind what was read before
pub behind : (b c : Told) (text longer piece : List ℕ) (n : ℕ) → Fills b c [] piece n → longer ≡ text ++ piece → Fills b c text longer n
behind b c text longer piece n f is = record {
  piece = f.piece;
  taken = f.taken;
  joined = is ∙ ap (λ (xs : List ℕ). text ++ xs) f.joined;
  size = f.size;
  at_end = f.at_end;
}

-- ---- the text so far

pub nothing_yet : (told : Told) → SoFar told told []
nothing_yet told = record { pieces = []; taken = Taken-nil told; joined = refl; some = tt }

pub one_more : (a b c : Told) (text longer : List ℕ) (n : ℕ) → 0 < n → SoFar a b text → Fills b c text longer n → SoFar a c longer
one_more a b c text longer n some so_far f = record {
  pieces = so_far.pieces ++ f.piece ∷ [];
  taken = Taken-trans a b c so_far.pieces (f.piece ∷ []) so_far.taken f.taken;
  joined = f.joined ∙ ap (λ l. l ++ f.piece) so_far.joined ∙ sym (concat-push so_far.pieces f.piece);
  some = HaveBytes-push so_far.pieces f.piece so_far.some (omega (arith, f.size, some));
}

pub ended : (a b c : Told) (text same : List ℕ) (n : ℕ) → n ≡ 0 → SoFar a b text → Fills b c text same n → IsInput a c same
ended a b c text same n none so_far f = record {
  pieces = so_far.pieces ++ f.piece ∷ [];
  taken = Taken-trans a b c so_far.pieces (f.piece ∷ []) so_far.taken f.taken;
  joined = f.joined ∙ ap (λ l. l ++ f.piece) so_far.joined ∙ sym (concat-push so_far.pieces f.piece);
  ends = inl (GaveAll-push so_far.pieces f.piece c.left so_far.some (f.size ∙ none) (f.at_end none));
}

-- nothing more came
pub ended_at : (a b c : Told) (text into : List ℕ) (n : ℕ) → n ≡ 0 → SoFar a b text → Fills b c [] (take n into) n → IsInput a c text
ended_at a b c text into n none so_far f =
    ended a b c text text n none so_far
    (behind b c text text (take n into) n f (sym (append-nil text) ∙ ap (λ (k : ℕ). text ++ take k into) (sym none)))

pub at_limit : (a b : Told) (text : List ℕ) → length text ≡ TEXT_LIMIT + 1 → SoFar a b text → IsInput a b text
at_limit a b text size so_far = record {
  pieces = so_far.pieces;
  taken = so_far.taken;
  joined = so_far.joined;
  ends = inr (so_far.some, size);
}

-- ---- the front

pub fills_length : (b c : Told) (text longer : List ℕ) (n : ℕ) → Fills b c text longer n → length longer ≡ length text + n
fills_length b c text longer n f = ap length f.joined ∙ length-append text f.piece ∙ ap (λ (k : ℕ). length text + k) f.size

pub front_whole : (a b : Told) (text : List ℕ) → SoFar a b text → length (header Two) ≤ length text → length text ≤ length (header Two) → IsFront a b text
front_whole a b text so_far long within = record { within = within; whole = λ same. so_far; short = λ short. absurd (omega (arith, short, long)) }

pub front_ended : (a b c : Told) (text same : List ℕ) (n : ℕ) → n ≡ 0 → length text < length (header Two) → SoFar a b text → Fills b c text same n → IsFront a c same
front_ended a b c text same n none short so_far f =
    let size = fills_length b c text same n f in
    record {
      within = omega (arith, size, none, short);
      whole = λ is. absurd (omega (arith, size, none, short, is));
      short = λ is. ended a b c text same n none so_far f;
    }

-- ---- where it stops

pub stands_still : (a b : Told) (text : List ℕ) → SoFar a b text → IsStopped a b
stands_still a b text so_far = record { pieces = so_far.pieces; taken = so_far.taken }

pub stopped : (a b c : Told) (text : List ℕ) (y : List (List ℕ)) → SoFar a b text → Taken b c y → IsStopped a c
stopped a b c text y so_far taken = record { pieces = so_far.pieces ++ y; taken = Taken-trans a b c so_far.pieces y so_far.taken taken }

pub failed : (a b c : Told) (text : List ℕ) → SoFar a b text → Taken b c [] → Rose b.read_faults c.read_faults → IsStopped a c × Rose a.read_faults c.read_faults
failed a b c text so_far taken rose =
    let more = so_far.taken.others.read_faults in
    (stopped a b c text [] so_far taken, omega (arith, more, rose))

-- memory ran out behind a piece
pub piece_stops : (a b : Told) (piece : List ℕ) (n : ℕ) → Fills a b [] piece n → Stops (why.Text fault.Memory) a b
piece_stops a b piece n f = record { pieces = f.piece ∷ []; taken = f.taken }

pub stops_later : (e : InputFault) (a b c : Told) (text : List ℕ) → SoFar a b text → Stops e b c → Stops e a c
stops_later why.Failed a b c text so_far is =
    let more = so_far.taken.others.read_faults in
    (stopped a b c text is.0.pieces so_far is.0.taken, omega (arith, more, is.1))
stops_later (why.Text fault.Memory) a b c text so_far is = stopped a b c text is.pieces so_far is.taken
stops_later (why.Text fault.Long) a b c text so_far is = absurd is
stops_later (why.Text fault.Header) a b c text so_far is = absurd is
stops_later (why.Text (fault.Line n)) a b c text so_far is = absurd is
stops_later (why.Text (fault.Illegal n)) a b c text so_far is = absurd is

pub stops_is_fault : (e : InputFault) (a c : Told) → Stops e a c → IsInputFault e a c
stops_is_fault why.Failed a c is = is
stops_is_fault (why.Text fault.Memory) a c is = is
stops_is_fault (why.Text fault.Long) a c is = absurd is
stops_is_fault (why.Text fault.Header) a c is = absurd is
stops_is_fault (why.Text (fault.Line n)) a c is = absurd is
stops_is_fault (why.Text (fault.Illegal n)) a c is = absurd is
