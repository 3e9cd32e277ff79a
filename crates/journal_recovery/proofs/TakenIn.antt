-- A text that is taken in part by part.
use Rattle.std.proofs.Common.{◌≡◌, ℕ, ◌+◌, ◌<◌, true, List, [], ◌∷◌, ◌++◌, length, refl, sym, ap, ◌∙◌, subst, arith, inl, inr, ◌⊎◌, append_assoc, append-nil, length-append}
use Rattle.std.specs.Prelude.{All, Result, Ok, Err}
use Rattle.std.specs.Result.{IsErrAnd}
use Rattle.std.proofs.lemmas.List.Elements.{All-append}
use Rattle.journal_recovery.specs.Intakes.{AreOfNoLegal, HasFollowed, IsTakenIn}
use Rattle.journal_recovery.specs.Judged.{IsJudged}
use Rattle.line_text.specs.Cut.{IsCut}
use Rattle.line_text.specs.Lines.{lines_of}
use Rattle.line_text.specs.OneLine.{is_one_line}
use Rattle.journal_recovery.specs.Parts.{AreOf, AreOfNone}
use Rattle.journal_recovery.specs.declared.faults.TextFault.{TextFault}
use Rattle.journal_recovery.specs.declared.intake.Followed.{Followed}
use Rattle.journal_recovery.specs.declared.faults.TextFault.TheVariants.{NoJournal}
use Rattle.journal_recovery.proofs.InParts.{lines-append, goes_on}

-- what is behind a cut is shorter
pub shorter : (text front back : List ℕ) → IsCut text front back → length back < length text
shorter text front back cut =
    let long : length text ≡ length cut.before + length (10 ∷ back) = ap length cut.is ∙ length-append cut.before (10 ∷ back) in
    omega arith

-- over the line of an entry, those of entries, and what the fields of an entry allow
module _ {E : Type 0} (line : E → List ℕ) (lines : List E → List ℕ) (is_entry : E → Type 0) (lines_are : (es : List E) → lines es ≡ lines_of line es) where
  more_lines : (text part behind : List ℕ) (es more all : List E) → text ≡ lines es ++ (part ++ behind) → AreOf lines is_entry part more → all ≡ es ++ more
      → text ≡ lines all ++ behind
  more_lines text part behind es more all is read same =
      is
      ∙ sym (append_assoc (lines es) part behind)
      ∙ ap (λ (l : List ℕ). (lines es ++ l) ++ behind) read.is
      ∙ ap (λ (l : List ℕ). l ++ behind) (sym (lines-append line lines is_entry lines_are es more) ∙ ap lines (sym same))

  pub typed_all : (part : List ℕ) (es more all : List E) → All is_entry es → AreOf lines is_entry part more → all ≡ es ++ more → All is_entry all
  typed_all part es more all typed read same = subst (All is_entry) (sym same) (All-append is_entry es more typed read.typed)

  -- a part more was read
  pub read_part : (text rest part behind : List ℕ) (es more all : List E) → text ≡ lines es ++ rest → rest ≡ part ++ behind → AreOf lines is_entry part more
      → all ≡ es ++ more → text ≡ lines all ++ behind
  read_part text rest part behind es more all is both = more_lines text part behind es more all (is ∙ ap (λ (l : List ℕ). lines es ++ l) both)

  -- the rest was read
  pub read_rest : (text rest : List ℕ) (es more all : List E) → text ≡ lines es ++ rest → All is_entry es → AreOf lines is_entry rest more → all ≡ es ++ more
      → AreOf lines is_entry text all
  read_rest text rest es more all is typed read same = record {
    is =
        more_lines text rest [] es more all (is ∙ ap (λ (l : List ℕ). lines es ++ l) (sym (append-nil rest))) read same
        ∙ append-nil (lines all);
    typed = typed_all rest es more all typed read same;
  }

  module _ (one : (e : E) → is_entry e → is_one_line (line e) ≡ true) (tell : (e o : E) → is_entry e → is_entry o → line e ≡ line o → e ≡ o)
      (is_legal : List E → Type 0) where
    -- nothing legal begins with the entries that were read, or the rest is the lines of none
    pub no_rest : (text rest : List ℕ) (es : List E) → text ≡ lines es ++ rest → All is_entry es → ((more : List E) → is_legal (es ++ more) → ⊥) ⊎ AreOfNone lines is_entry rest
        → AreOfNoLegal lines is_entry is_legal text
    no_rest text rest es is typed cause os are legal =
        let more = goes_on line lines is_entry lines_are one tell es os rest typed are.typed (sym is ∙ are.is) in
        by cause more.0 more.1 (record { is = more.2; typed = more.3 })
      where
        by : ((more : List E) → is_legal (es ++ more) → ⊥) ⊎ AreOfNone lines is_entry rest → (more : List E) → os ≡ es ++ more → AreOf lines is_entry rest more → ⊥
        by (inl never) more same read = never more (subst is_legal same legal)
        by (inr none) more same read = none more read

    -- the same of a part, where the rest is the lines of none if that is
    pub no_part : (text rest part : List ℕ) (es : List E) → text ≡ lines es ++ rest → All is_entry es → (AreOfNone lines is_entry part → AreOfNone lines is_entry rest)
        → ((more : List E) → is_legal (es ++ more) → ⊥) ⊎ AreOfNone lines is_entry part → AreOfNoLegal lines is_entry is_legal text
    no_part text rest part es is typed refused cause = no_rest text rest es is typed (by cause)
      where
        by : ((more : List E) → is_legal (es ++ more) → ⊥) ⊎ AreOfNone lines is_entry part → ((more : List E) → is_legal (es ++ more) → ⊥) ⊎ AreOfNone lines is_entry rest
        by (inl never) = inl never
        by (inr none) = inr (refused none)

-- entries that were followed are those that are kept
pub at_rest : {E W K : Type 0} → (keeps : K → List E) (follows : W → List E → Type 0) (followed : Followed W K) (entries : List E)
    → HasFollowed keeps follows followed entries → HasFollowed keeps follows followed (keeps followed.kept)
at_rest keeps follows followed entries has = record {
  kept = refl;
  first = subst (follows followed.worlds.first) (sym has.kept) has.first;
  second = subst (follows followed.worlds.second) (sym has.kept) has.second;
}

-- ---- with a fault that is handed on

module _ {E Y : Type 0} (lines : List E → List ℕ) (is_entry : E → Type 0) (is_legal : List E → Type 0) (entries : Y → List E) (text : List ℕ) where
  pub at_end : (result : Result Y TextFault) (fault : TextFault) → IsErrAnd result (λ told. told ≡ fault)
      → (fault ≡ NoJournal → AreOfNoLegal lines is_entry is_legal text) → IsTakenIn lines is_entry is_legal entries text result
  at_end (Ok y) fault is cause = absurd is
  at_end (Err told) fault is cause = subst (λ (f : TextFault). f ≡ NoJournal → AreOfNoLegal lines is_entry is_legal text) (sym is) cause

  -- what is judged of all entries of the text
  pub at_journal : (result : Result Y TextFault) (read : List E) → AreOf lines is_entry text read → ((es : List E) → AreOf lines is_entry text es → read ≡ es)
      → IsJudged entries is_legal read result → IsTakenIn lines is_entry is_legal entries text result
  at_journal (Ok journal) read are alone is = record {
    read = subst (AreOf lines is_entry text) (sym is.kept) are;
    legal = subst is_legal (sym is.kept) is.legal;
  }
  at_journal (Err told) read are alone is = λ so es other legal. is so (subst is_legal (sym (alone es other)) legal)

module _ {E Y : Type 0} (entries : Y → List E) (is_legal : List E → Type 0) (read : List E) where
  pub at_judged : (result : Result Y TextFault) (fault : TextFault) → IsErrAnd result (λ told. told ≡ fault)
      → (fault ≡ NoJournal → (more : List E) → is_legal (read ++ more) → ⊥) → IsJudged entries is_legal read result
  at_judged (Ok y) fault is cause = absurd is
  at_judged (Err told) fault is cause =
      subst (λ (f : TextFault). f ≡ NoJournal → is_legal read → ⊥) (sym is) (λ so legal. cause so [] (subst is_legal (sym (append-nil read)) legal))
