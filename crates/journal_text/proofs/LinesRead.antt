-- A text that is read line by line.
use Rattle.std.proofs.Common.{◌≡◌, ℕ, ◌+◌, true, List, [], ◌∷◌, ◌++◌, length, Some, None, refl, sym, ap, ◌∙◌, subst, append_assoc, append-nil}
use Rattle.std.specs.Prelude.{All}
use Rattle.std.proofs.lemmas.List.Elements.{All-head, All-nil, All-push, All-tail}
use Rattle.osm_base.specs.Parts.{parted}
use Rattle.line_text.specs.OneLine.{is_one_line}
use Rattle.line_text.proofs.LineCuts.{cut_is, line_cut, not_empty, not_uncut}
use Rattle.line_text.proofs.LinesOf.{one_more, some_line}
use Rattle.osm_model.specs.Journal.{IsLegal}
use Rattle.osm_model.specs.declared.commands.Entry.{Entry}
use Rattle.journal_text.specs.Faults.{BeginsWithLine}
use Rattle.journal_text.specs.Line.{line, IsEntry}
use Rattle.journal_text.specs.Lines.{Follows, FollowsAlone, IsNoLine, IsLineFault, Reads, StopsAtLine, IsLinesFault, IsRefused, AreOfNone}
use Rattle.journal_text.specs.Text.{lines}
use Rattle.journal_text.specs.Version.{IsEntryIn}
use Rattle.journal_text.specs.declared.faults.JournalFault.{JournalFault}
use Rattle.journal_text.specs.declared.faults.JournalFault.TheVariants.{Long, Header, Line, Illegal, Memory}
use Rattle.journal_text.specs.declared.versions.Version.{Version}
use Rattle.journal_text.proofs.Legal.{front_legal, legal_more, not_legal}

pub nothing_read : (version : Version) (text : List ℕ) → Reads version text [] text
nothing_read version text = record {
  legal = record { taken = refl; numbered = refl };
  typed = All-nil (IsEntryIn version);
  is = refl;
  only = λ es typed is. (es, refl, is, typed);
}

module _ (one_line : (e : Entry) → IsEntry e → is_one_line (line e) ≡ true) (version : Version) where
  -- one line more
  pub line_read : (text : List ℕ) (old new : List Entry) (rest bytes behind : List ℕ) → Reads version text old rest → parted 10 rest ≡ Some (bytes, behind) → Follows version old bytes new → FollowsAlone old bytes new → Reads version text new behind
  line_read text old new rest bytes behind reads cut follows only = record {
    legal = subst IsLegal (sym follows.appended) (legal_more old follows.entry reads.legal follows.follows);
    typed = subst (All (IsEntryIn version)) (sym follows.appended) (All-push (IsEntryIn version) old follows.entry reads.typed follows.typed);
    is = one_more line text rest bytes behind old follows.entry reads.is cut follows.is ∙ ap (λ es. lines es ++ behind) (sym follows.appended);
    only = λ es typed is. let more = reads.only es typed is in goes_on es more.0 more.1 more.2 more.3;
  }
    where
      goes_on : (es more : List Entry) → es ≡ old ++ more → rest ≡ lines more → All (IsEntryIn version) more → (left : List Entry) × (es ≡ new ++ left) × (behind ≡ lines left) × All (IsEntryIn version) left
      goes_on es [] same e typed = absurd (not_empty rest bytes behind cut e)
      goes_on es (m ∷ ms) same e typed =
          let is = (All-head (IsEntryIn version) m ms typed).typed in
          let parts = line_cut (line m) (lines ms) rest bytes behind (one_line m is) e cut in (
            ms,
            same ∙ sym (append_assoc old (m ∷ []) ms) ∙ ap (λ js. js ++ ms) (sym (only m is parts.0)),
            parts.1,
            All-tail (IsEntryIn version) m ms typed,
          )

  -- a rest without a byte 10 begins with no line
  no_line : (rest : List ℕ) → parted 10 rest ≡ None → BeginsWithLine version rest → ⊥
  no_line rest cut begins = not_uncut (line begins.entry) begins.behind rest (one_line begins.entry begins.typed.typed) begins.is cut

  -- a first line that is that of no entry
  other_line : (rest bytes behind : List ℕ) → parted 10 rest ≡ Some (bytes, behind) → IsNoLine version bytes → BeginsWithLine version rest → ⊥
  other_line rest bytes behind cut none begins = none begins.entry begins.typed (line_cut (line begins.entry) begins.behind rest bytes behind (one_line begins.entry begins.typed.typed) begins.is cut).0

  -- ---- where it stops

  begins : (m : Entry) (ms : List Entry) (rest : List ℕ) → IsEntryIn version m → rest ≡ lines (m ∷ ms) → BeginsWithLine version rest
  begins m ms rest is e = record { entry = m; typed = is; behind = lines ms; is = e }

  refused_at : (text : List ℕ) (journal : List Entry) (rest : List ℕ) → Reads version text journal rest → (rest ≡ [] → ⊥) → (BeginsWithLine version rest → ⊥) → AreOfNone version text
  refused_at text journal rest reads some none es typed legal is = let more = reads.only es typed is in by more.0 more.2 more.3
    where
      by : (more : List Entry) → rest ≡ lines more → All (IsEntryIn version) more → ⊥
      by [] e typed = some e
      by (m ∷ ms) e typed = none (begins m ms rest (All-head (IsEntryIn version) m ms typed) e)

  stops : (text : List ℕ) (journal : List Entry) (rest : List ℕ) (n : ℕ) → Reads version text journal rest → (rest ≡ [] → ⊥) → (BeginsWithLine version rest → ⊥) → n ≡ length journal + 2 → StopsAtLine version n text
  stops text journal rest n reads some none e = record { journal = journal; rest = rest; legal = reads.legal; typed = reads.typed; is = reads.is; number = e; some = some; none = none }

  -- a rest that no byte 10 ends
  pub left_open : (text : List ℕ) (journal : List Entry) (rest : List ℕ) → Reads version text journal rest → (rest ≡ [] → ⊥) → parted 10 rest ≡ None → StopsAtLine version (length journal + 2) text × AreOfNone version text
  left_open text journal rest reads some cut = (stops text journal rest (length journal + 2) reads some (no_line rest cut) refl, refused_at text journal rest reads some (no_line rest cut))

  pub stopped : (f : JournalFault) (text : List ℕ) (journal : List Entry) (rest bytes behind : List ℕ) → Reads version text journal rest → parted 10 rest ≡ Some (bytes, behind) → IsLineFault version f (length journal + 2) journal bytes → IsLinesFault version f text × IsRefused version f text
  stopped Long text journal rest bytes behind reads cut fault = absurd fault
  stopped Header text journal rest bytes behind reads cut fault = absurd fault
  stopped Memory text journal rest bytes behind reads cut fault = (tt, tt)
  stopped (Line n) text journal rest bytes behind reads cut fault =
      let none = other_line rest bytes behind cut fault.1 in
      let some = not_empty rest bytes behind cut in
      (stops text journal rest n reads some none fault.0, refused_at text journal rest reads some none)
  stopped (Illegal n) text journal rest bytes behind reads cut fault = (
    record {
      journal = journal;
      entry = fault.1.entry;
      rest = behind;
      legal = reads.legal;
      typed = reads.typed;
      is = reads.is ∙ ap (λ ts. lines journal ++ ts) (cut_is rest bytes behind cut ∙ ap (λ ts. ts ++ 10 ∷ behind) fault.1.is);
      typed_too = fault.1.typed;
      number = fault.0;
      illegal = not_legal journal fault.1.entry fault.1.illegal;
    },
    λ es typed legal is. let more = reads.only es typed is in by es legal more.0 more.1 more.2 more.3,
  )
    where
      by : (es : List Entry) → IsLegal es → (more : List Entry) → es ≡ journal ++ more → rest ≡ lines more → All (IsEntryIn version) more → ⊥
      by es legal [] same e typed = not_empty rest bytes behind cut e
      by es legal (m ∷ ms) same e typed =
          let is = (All-head (IsEntryIn version) m ms typed).typed in
          let parts = line_cut (line m) (lines ms) rest bytes behind (one_line m is) e cut in
          let entry : fault.1.entry ≡ m = fault.1.only m is parts.0 in
          let whole : es ≡ (journal ++ fault.1.entry ∷ []) ++ ms = same ∙ sym (append_assoc journal (m ∷ []) ms) ∙ ap (λ x. (journal ++ x ∷ []) ++ ms) (sym entry) in
          not_legal journal fault.1.entry fault.1.illegal (front_legal (journal ++ fault.1.entry ∷ []) ms (subst IsLegal whole legal))

  -- the lines are all read
  only_read : (text : List ℕ) (journal : List Entry) → Reads version text journal [] → (es : List Entry) → All (IsEntryIn version) es → text ≡ lines es → journal ≡ es
  only_read text journal reads es typed is = let more = reads.only es typed is in by more.0 more.1 more.2
    where
      by : (more : List Entry) → es ≡ journal ++ more → [] ≡ lines more → journal ≡ es
      by [] same e = sym (same ∙ append-nil journal)
      by (m ∷ ms) same e = absurd (some_line line m ms (sym e))

  pub all_read : (text : List ℕ) (journal : List Entry) → Reads version text journal [] → (text ≡ lines journal) × ((es : List Entry) → All (IsEntryIn version) es → text ≡ lines es → journal ≡ es)
  all_read text journal reads = (reads.is ∙ append-nil (lines journal), only_read text journal reads)
