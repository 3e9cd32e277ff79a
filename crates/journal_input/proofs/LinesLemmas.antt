-- Lines that are judged while more of them are read.
use Rattle.std.proofs.Common.{◌≡◌, ℕ, ◌+◌, Bool, true, false, List, [], ◌∷◌, ◌++◌, length, Some, None, refl, sym, ap, ◌∙◌, subst, append_assoc, append-nil, length-append, arith}
use Rattle.std.specs.Prelude.{◌==◌, ◌&&◌}
use Rattle.std.proofs.lemmas.Bool.{and_parts, eqb-true}
use Rattle.osm_base.specs.Parts.{parted}
use Rattle.osm_model.specs.declared.commands.Entry.{Entry}
use Rattle.journal_text.specs.Line.{line, IsEntry}
use Rattle.journal_text.specs.Lines.{Follows, FollowsAlone, IsLineFault, IsLinesFault, IsRefused, Reads}
use Rattle.journal_text.specs.Text.{lines as lines_of}
use Rattle.journal_text.specs.declared.faults.JournalFault.{JournalFault}
use Rattle.journal_text.specs.declared.faults.JournalFault.TheVariants as fault
use Rattle.journal_text.specs.declared.versions.Version.{Version}
use Rattle.journal_input.specs.declared.lines.Lines.{Lines}
use Rattle.journal_input.specs.Gate.{before_gate}
use Rattle.journal_input.specs.Going.{Closes, LinesFail, Stands}
use Rattle.journal_input.specs.Place.{has_gate_first}
use Rattle.line_text.specs.OneLine.{is_one_line}
use Rattle.line_text.proofs.Cuts.{cut_begun, uncut_both}
use Rattle.line_text.proofs.LineCuts.{cut_at, cut_is, first_line}
use Rattle.journal_input.proofs.Texts.{all_typed, line_counts, lines_count}

-- ---- the first byte of a line

-- no gate is at the front of a begun line, whatever follows
not_yet : (begun rest : List ℕ) → has_gate_first begun ≡ false → ((length begun == 0) && has_gate_first rest) ≡ false → has_gate_first (begun ++ rest) ≡ false
not_yet [] rest open_line other = other
not_yet (b ∷ bs) rest open_line other = open_line

front_has_none : (bytes rest : List ℕ) → has_gate_first (bytes ++ rest) ≡ false → has_gate_first bytes ≡ false
front_has_none [] rest other = refl
front_has_none (b ∷ bs) rest other = other

-- where a gate stands
record IsAtGate (begun rest : List ℕ) : Type 0 where
  none : begun ≡ []
  behind : List ℕ
  is : rest ≡ 35 ∷ behind

empty : (begun : List ℕ) → length begun ≡ 0 → begun ≡ []
empty [] none = refl
empty (b ∷ bs) none = absurd (omega (arith, none))

gate_is : (begun rest : List ℕ) → ((length begun == 0) && has_gate_first rest) ≡ true → IsAtGate begun rest
gate_is begun rest is = let p = and_parts (length begun == 0) (has_gate_first rest) is in by rest p.1 (empty begun (eqb-true (length begun) 0 p.0))
  where
    by : (rest : List ℕ) → has_gate_first rest ≡ true → begun ≡ [] → IsAtGate begun rest
    by [] gate none = absurd (cc)
    by (b ∷ bs) gate none = record { none = none; behind = bs; is = ap (λ (x : ℕ). x ∷ bs) (eqb-true b 35 gate) }

-- ---- a line that is cut

-- what was before a line, and the line
moved : (front first more : List ℕ) → (front ++ (first ++ 10 ∷ [])) ++ more ≡ front ++ (first ++ 10 ∷ more)
moved front first more = append_assoc front (first ++ 10 ∷ []) more ∙ ap (λ (l : List ℕ). front ++ l) (append_assoc first (10 ∷ []) more)

whole_line : (begun rest first left : List ℕ) → parted 10 begun ≡ None → parted 10 rest ≡ Some (first, left) → is_one_line (begun ++ first) ≡ true
whole_line begun rest first left open_line is = first_line (begun ++ rest) (begun ++ first) left (cut_begun 10 begun rest first left open_line is)

-- a line ends the begun one, whatever follows
cut : (begun first more : List ℕ) → is_one_line (begun ++ first) ≡ true → parted 10 (begun ++ (first ++ 10 ∷ more)) ≡ Some (begun ++ first, more)
cut begun first more one = ap (parted 10) (sym (append_assoc begun first (10 ∷ more))) ∙ cut_at (begun ++ first) more one

module _ (version : Version) where
  reads_at : (text other : List ℕ) (journal : List Entry) (rest left : List ℕ) → text ≡ other → rest ≡ left → Reads version text journal rest → Reads version other journal left
  reads_at text other journal rest left same also reads =
      subst (λ (t : List ℕ). Reads version t journal left) same (subst (λ (r : List ℕ). Reads version text journal r) also reads)

  -- before the first line
  pub none_judged : ((text : List ℕ) → Reads version text [] text) → (journal : List Entry) (lines : Lines) → journal ≡ [] → lines.begun.items ≡ [] → lines.number ≡ 2 → Stands version [] journal lines []
  none_judged start journal lines none empty number = record {
    front = [];
    is = refl;
    reads =
        λ more. subst (λ (es : List Entry). Reads version more es (lines.begun.items ++ more)) (sym none)
        (subst (λ (b : List ℕ). Reads version more [] (b ++ more)) (sym empty) (start more));
    open_line = subst (λ (b : List ℕ). parted 10 b ≡ None) (sym empty) refl;
    no_gate = subst (λ (b : List ℕ). has_gate_first b ≡ false) (sym empty) refl;
    number = number ∙ ap (λ (es : List Entry). length es + 2) (sym none);
  }

  -- a piece comes behind the begun line
  pub piece_comes : (bytes piece : List ℕ) (journal : List Entry) (lines : Lines) → Stands version bytes journal lines [] → Stands version (bytes ++ piece) journal lines piece
  piece_comes bytes piece journal lines stands = record {
    front = stands.front;
    is = ap (λ (l : List ℕ). l ++ piece) (stands.is ∙ append-nil stands.front);
    reads = stands.reads;
    open_line = stands.open_line;
    no_gate = stands.no_gate;
    number = stands.number;
  }

  -- its rest without a byte 10 begins the next line, where it is no gate
  pub piece_goes : (bytes : List ℕ) (journal : List Entry) (lines next : Lines) (rest : List ℕ) → Stands version bytes journal lines rest → parted 10 rest ≡ None
      → next.begun.items ≡ lines.begun.items ++ rest → next.number ≡ lines.number → ((length lines.begun.items == 0) && has_gate_first rest) ≡ false → Stands version bytes journal next []
  piece_goes bytes journal lines next rest stands uncut joined same other =
      let begun = lines.begun.items in
      record {
        front = stands.front ++ rest;
        is = stands.is ∙ sym (append-nil (stands.front ++ rest));
        reads =
            λ more. reads_at (stands.front ++ (rest ++ more)) ((stands.front ++ rest) ++ more) journal (begun ++ (rest ++ more)) (next.begun.items ++ more)
            (sym (append_assoc stands.front rest more))
            (sym (append_assoc begun rest more) ∙ ap (λ (b : List ℕ). b ++ more) (sym joined))
            (stands.reads (rest ++ more));
        open_line = subst (λ (b : List ℕ). parted 10 b ≡ None) (sym joined) (uncut_both 10 begun rest stands.open_line uncut);
        no_gate = subst (λ (b : List ℕ). has_gate_first b ≡ false) (sym joined) (not_yet begun rest stands.no_gate other);
        number = same ∙ stands.number;
      }

  -- a gate ends the lines
  pub piece_closes : (bytes : List ℕ) (journal : List Entry) (lines : Lines) (rest : List ℕ) → Stands version bytes journal lines rest → ((length lines.begun.items == 0) && has_gate_first rest) ≡ true
      → Closes version bytes journal
  piece_closes bytes journal lines rest stands gate =
      let at = gate_is lines.begun.items rest gate in
      record {
        front = stands.front;
        behind = at.behind;
        is = stands.is ∙ ap (λ (l : List ℕ). stands.front ++ l) at.is;
        reads = reads_at (stands.front ++ []) stands.front journal (lines.begun.items ++ []) [] (append-nil stands.front) (append-nil lines.begun.items ∙ at.none) (stands.reads []);
      }

  pub line_goes :
      ((text : List ℕ) (old new : List Entry) (rest first left : List ℕ) → Reads version text old rest → parted 10 rest ≡ Some (first, left) → Follows version old first new → FollowsAlone old first new → Reads version text new left)
      → (bytes : List ℕ) (old new : List Entry) (lines next : Lines) (rest first left : List ℕ) → Stands version bytes old lines rest → parted 10 rest ≡ Some (first, left)
      → Follows version old (lines.begun.items ++ first) new → FollowsAlone old (lines.begun.items ++ first) new → next.begun.items ≡ [] → next.number ≡ lines.number + 1
      → Stands version bytes new next left
  line_goes law bytes old new lines next rest first left stands is follows alone none number =
      let begun = lines.begun.items in
      let front = stands.front in
      let one = whole_line begun rest first left stands.open_line is in
      let longer : length new ≡ length old + 1 = ap length follows.appended ∙ length-append old (follows.entry ∷ []) in
      let before : lines.number ≡ length old + 2 = stands.number in
      record {
        front = front ++ (first ++ 10 ∷ []);
        is = stands.is ∙ ap (λ (l : List ℕ). front ++ l) (cut_is rest first left is) ∙ sym (moved front first left);
        reads =
            λ more. reads_at (front ++ (first ++ 10 ∷ more)) ((front ++ (first ++ 10 ∷ [])) ++ more) new more (next.begun.items ++ more)
            (sym (moved front first more))
            (ap (λ (b : List ℕ). b ++ more) (sym none))
            (law (front ++ (first ++ 10 ∷ more)) old new (begun ++ (first ++ 10 ∷ more)) (begun ++ first) more
            (stands.reads (first ++ 10 ∷ more)) (cut begun first more one) follows alone);
        open_line = subst (λ (b : List ℕ). parted 10 b ≡ None) (sym none) refl;
        no_gate = subst (λ (b : List ℕ). has_gate_first b ≡ false) (sym none) refl;
        number = omega (arith, number, longer, before);
      }

  -- what was judged is the lines of the entries, and the begun line
  pub front_is : (bytes : List ℕ) (journal : List Entry) (lines : Lines) (rest : List ℕ) → (stands : Stands version bytes journal lines rest) → stands.front ≡ lines_of journal ++ lines.begun.items
  front_is bytes journal lines rest stands =
      sym (append-nil stands.front) ∙ (stands.reads []).is ∙ ap (λ (l : List ℕ). lines_of journal ++ l) (append-nil lines.begun.items)

  module _ (begins : (e : Entry) → (rest : List ℕ) × (line e ≡ 123 ∷ rest)) (one : (e : Entry) → IsEntry e → is_one_line (line e) ≡ true) where
    -- a line that is no gate counts with all before it
    line_stands : (bytes : List ℕ) (journal : List Entry) (lines : Lines) (rest first left more : List ℕ) → (stands : Stands version bytes journal lines rest) → parted 10 rest ≡ Some (first, left)
        → ((length lines.begun.items == 0) && has_gate_first rest) ≡ false → before_gate (bytes ++ more) ≡ stands.front ++ (first ++ 10 ∷ before_gate (left ++ more))
    line_stands bytes journal lines rest first left more stands is other =
        let begun = lines.begun.items in
        let front = stands.front in
        let behind = 10 ∷ (left ++ more) in
        let rest_is : rest ≡ first ++ 10 ∷ left = cut_is rest first left is in
        let joined : begun ++ rest ≡ (begun ++ first) ++ 10 ∷ left = ap (λ (l : List ℕ). begun ++ l) rest_is ∙ sym (append_assoc begun first (10 ∷ left)) in
        let no_gate : has_gate_first (begun ++ first) ≡ false = front_has_none (begun ++ first) (10 ∷ left) (ap has_gate_first (sym joined) ∙ not_yet begun rest stands.no_gate other) in
        let front_are = front_is bytes journal lines rest stands in
        let regrouped : (tail : List ℕ) → front ++ (first ++ tail) ≡ lines_of journal ++ ((begun ++ first) ++ tail) =
        λ tail. ap (λ (l : List ℕ). l ++ (first ++ tail)) front_are ∙ append_assoc (lines_of journal) begun (first ++ tail) ∙ ap (λ (l : List ℕ). lines_of journal ++ l) (sym (append_assoc begun first tail)) in
        let bytes_are : bytes ++ more ≡ front ++ (first ++ behind) =
        ap (λ (l : List ℕ). l ++ more) (stands.is ∙ ap (λ (l : List ℕ). front ++ l) rest_is) ∙ append_assoc front (first ++ 10 ∷ left) more
        ∙ ap (λ (l : List ℕ). front ++ l) (append_assoc first (10 ∷ left) more) in
        ap before_gate (bytes_are ∙ regrouped behind)
        ∙ lines_count begins one journal ((begun ++ first) ++ behind) (all_typed version journal (stands.reads []).typed)
        ∙ ap (λ (l : List ℕ). lines_of journal ++ l) (line_counts (begun ++ first) (left ++ more) no_gate (whole_line begun rest first left stands.open_line is))
        ∙ sym (regrouped (10 ∷ before_gate (left ++ more)))

    pub line_fails :
        ((why : JournalFault) (text : List ℕ) (journal : List Entry) (rest first left : List ℕ) → Reads version text journal rest → parted 10 rest ≡ Some (first, left)
        → IsLineFault version why (length journal + 2) journal first → IsLinesFault version why text × IsRefused version why text)
        → (why : JournalFault) (bytes : List ℕ) (journal : List Entry) (lines : Lines) (rest first left : List ℕ) → Stands version bytes journal lines rest → parted 10 rest ≡ Some (first, left)
        → ((length lines.begun.items == 0) && has_gate_first rest) ≡ false → IsLineFault version why lines.number journal (lines.begun.items ++ first) → LinesFail version why bytes
    line_fails law why bytes journal lines rest first left stands is other fault = record {
      fails =
          λ more.
          let begun = lines.begun.items in
          let behind = before_gate (left ++ more) in
          subst (λ (t : List ℕ). IsLinesFault version why t × IsRefused version why t) (sym (line_stands bytes journal lines rest first left more stands is other))
          (law why (stands.front ++ (first ++ 10 ∷ behind)) journal (begun ++ (first ++ 10 ∷ behind)) (begun ++ first) behind
          (stands.reads (first ++ 10 ∷ behind)) (cut begun first behind (whole_line begun rest first left stands.open_line is))
          (subst (λ (n : ℕ). IsLineFault version why n journal (begun ++ first)) stands.number fault));
    }

  -- want of memory is a fault of any text
  pub memory_fails : (why : JournalFault) (bytes : List ℕ) → why ≡ fault.Memory → LinesFail version why bytes
  memory_fails why bytes is = rw is (record { fails = λ more. (tt, tt) })
