-- What the lines behind a header give is what the text gives.
use Rattle.std.proofs.Common.{◌≡◌, ℕ, ◌≤◌, List, ◌∷◌, ◌++◌, length, get_or, refl, sym, ap, ◌∙◌, subst, append_assoc, arith}
use Rattle.std.proofs.lemmas.List.{append_cancel_left}
use Rattle.std.specs.Prelude.{All}
use Rattle.osm_model.specs.declared.commands.Entry.{Entry}
use Rattle.journal_text.specs.Faults.{Begins, IsFault}
use Rattle.journal_text.specs.Line.{line, IsEntry}
use Rattle.journal_text.specs.Lines.{IsLinesFault}
use Rattle.journal_text.specs.Text.{header, lines, IsTextOf}
use Rattle.journal_text.specs.Version.{IsEntryIn}
use Rattle.osm_model.specs.Journal.{IsLegal}
use Rattle.journal_text.specs.declared.faults.JournalFault.{JournalFault}
use Rattle.journal_text.specs.declared.faults.JournalFault.TheVariants.{Long, Header, Line, Illegal, Memory}
use Rattle.journal_text.specs.declared.limits.TheConstants.{TEXT_LIMIT}
use Rattle.journal_text.specs.declared.versions.Version.{Version}
use Rattle.journal_text.specs.declared.versions.Version.TheVariants.{One, Two}

module _ (version : Version) where
  begins : (text behind : List ℕ) (journal : List Entry) (rest : List ℕ) → length text ≤ TEXT_LIMIT → text ≡ header version ++ behind → IsLegal journal → All (IsEntryIn version) journal → behind ≡ lines journal ++ rest → Begins version text journal rest
  begins text behind journal rest within is legal typed lines_are = record {
    within = within;
    legal = legal;
    typed = typed;
    is = is ∙ ap (λ ts. header version ++ ts) lines_are ∙ sym (append_assoc (header version) (lines journal) rest);
  }

  pub fault_behind : (f : JournalFault) (text behind : List ℕ) → length text ≤ TEXT_LIMIT → text ≡ header version ++ behind → IsLinesFault version f behind → IsFault f text
  fault_behind Long text behind within is fault = absurd fault
  fault_behind Header text behind within is fault = absurd fault
  fault_behind Memory text behind within is fault = tt
  fault_behind (Line n) text behind within is fault = record {
    version = version;
    journal = fault.journal;
    rest = fault.rest;
    begins = begins text behind fault.journal fault.rest within is fault.legal fault.typed fault.is;
    number = fault.number;
    some = fault.some;
    none = fault.none;
  }
  fault_behind (Illegal n) text behind within is fault = record {
    version = version;
    journal = fault.journal;
    entry = fault.entry;
    rest = fault.rest;
    begins = begins text behind fault.journal (line fault.entry ++ 10 ∷ fault.rest) within is fault.legal fault.typed fault.is;
    typed = fault.typed_too;
    number = fault.number;
    illegal = fault.illegal;
  }

-- ---- a text is of one version

pub same_version : (a b : Version) (xs ys : List ℕ) → header a ++ xs ≡ header b ++ ys → a ≡ b
same_version One One xs ys e = refl
same_version Two Two xs ys e = refl
same_version One Two xs ys e = let byte : 49 ≡ 50 = ap (λ text. get_or text 12 0) e in absurd (omega (arith, byte))
same_version Two One xs ys e = let byte : 50 ≡ 49 = ap (λ text. get_or text 12 0) e in absurd (omega (arith, byte))

-- version 2 has a member for each part of any entry
pub typed_in_two : (es : List Entry) → All IsEntry es → All (IsEntryIn Two) es
typed_in_two es typed = λ k d lt. record { typed = typed k d lt; fits = refl }

-- the lines of a journal whose text this is, behind the header
pub lines_of : (version : Version) (text behind : List ℕ) (journal : List Entry) → text ≡ header version ++ behind → IsTextOf text journal → (behind ≡ lines journal) × All (IsEntryIn version) journal
lines_of version text behind journal is of =
    let same : of.version ≡ version = same_version of.version version (lines journal) behind (sym of.is ∙ is) in
    let written : text ≡ header version ++ lines journal = of.is ∙ ap (λ v. header v ++ lines journal) same in (
      append_cancel_left (header version) behind (lines journal) (sym is ∙ written),
      subst (λ v. All (IsEntryIn v) journal) same of.typed,
    )
