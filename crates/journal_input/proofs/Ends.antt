-- What a text comes to at its end.
use Rattle.std.proofs.Common.{◌≡◌, ℕ, ◌+◌, ◌<◌, ◌≤◌, true, List, [], ◌∷◌, ◌++◌, length, take, None, refl, sym, ap, ◌∙◌, subst, append_assoc, append-nil, length-append, arith, lit≤}
use Rattle.std.specs.Prelude.{All}
use Rattle.std.proofs.Math.Seq.{take-append_seam}
use Rattle.osm_base.specs.Parts.{parted}
use Rattle.osm_model.specs.Journal.{IsLegal}
use Rattle.osm_model.specs.declared.commands.Entry.{Entry}
use Rattle.osm_outside.specs.Told.{Told}
use Rattle.journal_text.specs.Faults.{IsFault, LacksHeader}
use Rattle.journal_text.specs.Line.{line, IsEntry}
use Rattle.journal_text.specs.Lines.{IsLinesFault, IsRefused, Reads}
use Rattle.journal_text.specs.Text.{header, lines, text_in, IsTextOf}
use Rattle.journal_text.specs.Version.{IsEntryIn}
use Rattle.journal_text.specs.declared.faults.JournalFault.{JournalFault}
use Rattle.journal_text.specs.declared.faults.JournalFault.TheVariants.{Long, Header, Line, Illegal, Memory}
use Rattle.journal_text.specs.declared.limits.TheConstants.{TEXT_LIMIT}
use Rattle.journal_text.specs.declared.versions.Version.{Version}
use Rattle.journal_text.specs.declared.versions.Version.TheVariants.{One, Two}
use Rattle.journal_text.proofs.Whole.{fault_behind, lines_of}
use Rattle.journal_input.specs.declared.faults.InputFault.TheVariants.{Text}
use Rattle.journal_input.specs.declared.lines.Lines.{Lines}
use Rattle.journal_input.specs.declared.gate.Place.TheVariants.{LineStart, InLine, BehindGate}
use Rattle.journal_input.specs.Gate.{before_gate}
use Rattle.journal_input.specs.Going.{SoFar, IsFront, Stands, Closes, LinesFail, Fails}
use Rattle.journal_input.specs.Input.{IsInput, IsOfJournal, IsOfNone, IsInputFault}
use Rattle.journal_input.specs.Place.{place_of, Sees}
use Rattle.line_text.specs.OneLine.{is_one_line}
use Rattle.line_text.proofs.LineCuts.{uncut_line}
use Rattle.journal_input.proofs.Gates.{front_of, no_longer_text}
use Rattle.journal_input.proofs.LinesLemmas.{front_is}
use Rattle.journal_input.proofs.Places.{before_closed, begun_counts, sees_begun, sees_closed}
use Rattle.journal_input.proofs.Texts.{all_typed, header_counts, text_counts}

-- ---- faults

refused_by : (version : Version) (text behind : List ℕ) → text ≡ header version ++ behind → ((es : List Entry) → All (IsEntryIn version) es → IsLegal es → behind ≡ lines es → ⊥)
    → (es : List Entry) → IsTextOf text es → ⊥
refused_by version text behind is refused es of = let parts = lines_of version text behind es is of in refused es parts.1 of.legal parts.0

-- a fault of the lines behind a header is the text's
none_behind : (version : Version) (why : JournalFault) (text behind : List ℕ) → text ≡ header version ++ behind → IsRefused version why behind → IsOfNone why text
none_behind version Memory text behind is refused = tt
none_behind version Long text behind is refused = refused_by version text behind is refused
none_behind version Header text behind is refused = refused_by version text behind is refused
none_behind version (Line n) text behind is refused = refused_by version text behind is refused
none_behind version (Illegal n) text behind is refused = refused_by version text behind is refused

pub lines_fail : (version : Version) (why : JournalFault) (bytes : List ℕ) → LinesFail version why bytes → Fails why (header version ++ bytes)
lines_fail version why bytes fail = record {
  fails =
      λ more within.
      let text = before_gate ((header version ++ bytes) ++ more) in
      let behind = before_gate (bytes ++ more) in
      let is : text ≡ header version ++ behind = ap before_gate (append_assoc (header version) bytes more) ∙ header_counts version (bytes ++ more) in
      let both = fail.fails more in
      (fault_behind version why text behind within is both.0, none_behind version why text behind is both.1);
}

-- ---- the header

-- each version's header has the same length
pub one_length : (version : Version) → length (header version) ≡ length (header Two)
one_length One = refl
one_length Two = refl

lacking : (text : List ℕ) → length text ≤ TEXT_LIMIT → LacksHeader text → IsFault Header text × IsOfNone Header text
lacking text within lacks = ((within, lacks), λ es of. lacks of.version (lines es) of.is)

other_front : (version : Version) (front more rest : List ℕ) → length front ≡ length (header Two) → front ++ more ≡ header version ++ rest → front ≡ header version
other_front version front more rest size is =
    sym (take-append_seam front more) ∙ ap (λ (xs : List ℕ). take (length front) xs) is
    ∙ ap (λ (n : ℕ). take n (header version ++ rest)) (size ∙ sym (one_length version)) ∙ take-append_seam (header version) rest

pub header_fails : (front : List ℕ) → length front ≡ length (header Two) → LacksHeader front → Fails Header front
header_fails front size lacks = record {
  fails =
      λ more within.
      let counts = front_of (front ++ more) in
      lacking (before_gate (front ++ more)) within
      (λ version rest is.
      let same : front ++ more ≡ header version ++ (rest ++ counts.rest) = counts.is ∙ ap (λ (l : List ℕ). l ++ counts.rest) is ∙ append_assoc (header version) rest counts.rest in
      lacks version [] (other_front version front more (rest ++ counts.rest) size same ∙ sym (append-nil (header version))));
}

pub short_fails : (front : List ℕ) → length front < length (header Two) → IsFault Header front × IsOfNone Header front
short_fails front short =
    lacking front (let few : length (header Two) ≤ TEXT_LIMIT = lit≤ tt in omega (arith, short, few))
    (λ version rest is. let same = one_length version in omega (arith, short, same, ap length is, length-append (header version) rest))

-- ---- the end

pub refused : (why : JournalFault) (a c : Told) (text : List ℕ) → IsInput a c text → IsFault why (before_gate text) → IsOfNone why (before_gate text) → IsInputFault (Text why) a c
refused Memory a c text input fault none = record { pieces = input.pieces; taken = input.taken }
refused Long a c text input fault none = record { text = text; input = input; fault = fault; none = none }
refused Header a c text input fault none = record { text = text; input = input; fault = fault; none = none }
refused (Line n) a c text input fault none = record { text = text; input = input; fault = fault; none = none }
refused (Illegal n) a c text input fault none = record { text = text; input = input; fault = fault; none = none }

-- the input has fewer bytes than a header
pub short_input : (a c : Told) (front : List ℕ) → IsFront a c front → length front < length (header Two) → IsInputFault (Text Header) a c
short_input a c front is short =
    let both = short_fails (before_gate front) (omega (arith, short, no_longer_text front)) in
    refused Header a c front (is.short short) both.0 both.1

-- what begins with a header is that header
pub whole_front : (version : Version) (a c : Told) (front rest : List ℕ) → IsFront a c front → front ≡ header version ++ rest → SoFar a c (header version)
whole_front version a c front rest is same =
    let within = is.within in
    let size = one_length version in
    let both = length-append (header version) rest in
    let whole : length front ≡ length (header Two) = omega (arith, within, size, both, ap length same) in
    subst (λ (t : List ℕ). SoFar a c t) (other_front version front [] rest whole (append-nil front ∙ same)) (is.whole whole)

pub too_long : (a c : Told) (text : List ℕ) → IsInput a c text → TEXT_LIMIT < length (before_gate text) → IsInputFault (Text Long) a c
too_long a c text input long = record {
  text = text;
  input = input;
  fault = long;
  none = λ es of. omega (arith, long, of.within);
}

-- this is what counts of the input
pub of_journal : (a c : Told) (text whole : List ℕ) (journal : List Entry) → IsInput a c text → before_gate text ≡ whole → IsTextOf whole journal → ((es : List Entry) → IsTextOf whole es → journal ≡ es)
    → IsOfJournal a c journal
of_journal a c text whole journal input counts is only = record {
  text = text;
  input = input;
  is = subst (λ (t : List ℕ). IsTextOf t journal) (sym counts) is;
  only = λ es of. only es (subst (λ (t : List ℕ). IsTextOf t es) counts of);
}

module _ (version : Version) where
  -- where the lines of the text are read, what is kept is the journal
  lines_read :
      ((text : List ℕ) (journal : List Entry) → Reads version text journal [] → (text ≡ lines journal) × ((es : List Entry) → All (IsEntryIn version) es → text ≡ lines es → journal ≡ es))
      → (a c : Told) (text bytes : List ℕ) (journal : List Entry) → IsInput a c text → before_gate text ≡ header version ++ bytes → length (header version ++ bytes) ≤ TEXT_LIMIT
      → Reads version bytes journal [] → IsOfJournal a c journal
  lines_read law a c text bytes journal input counts within at_end =
      let both = law bytes journal at_end in
      of_journal a c text (header version ++ bytes) journal input counts
      (record { version = version; legal = at_end.legal; typed = at_end.typed; is = ap (λ ts. header version ++ ts) both.0; within = within })
      (λ es of. let parts = lines_of version (header version ++ bytes) bytes es refl of in both.1 es parts.1 parts.0)

  -- and so they are at the end, where no line is begun
  reads_all : (bytes : List ℕ) (journal : List Entry) (next : Lines) → Stands version bytes journal next [] → Reads version bytes journal next.begun.items
  reads_all bytes journal next stands =
      subst (λ (t : List ℕ). Reads version t journal next.begun.items) (sym stands.is)
      (subst (λ (r : List ℕ). Reads version (stands.front ++ []) journal r) (append-nil next.begun.items) (stands.reads []))

  module _ (begins : (e : Entry) → (rest : List ℕ) × (line e ≡ 123 ∷ rest)) (one : (e : Entry) → IsEntry e → is_one_line (line e) ≡ true) where
    -- all that was judged counts
    pub stands_there : (bytes : List ℕ) (journal : List Entry) (next : Lines) → Stands version bytes journal next [] → Sees (place_of next.begun.items) (header version ++ bytes)
    stands_there bytes journal next stands =
        let begun = next.begun.items in
        let reads = stands.reads [] in
        let is : text_in version journal ++ begun ≡ header version ++ bytes =
        append_assoc (header version) (lines journal) begun ∙ ap (λ (l : List ℕ). header version ++ l) (sym (front_is version bytes journal next [] stands) ∙ sym (append-nil stands.front) ∙ sym stands.is) in
        subst (λ (t : List ℕ). Sees (place_of begun) t) is
        (sees_begun (text_in version journal) begun (uncut_line begun stands.open_line) stands.no_gate (text_counts begins one version journal (all_typed version journal reads.typed)))

    pub all_read :
        ((text : List ℕ) (journal : List Entry) → Reads version text journal [] → (text ≡ lines journal) × ((es : List Entry) → All (IsEntryIn version) es → text ≡ lines es → journal ≡ es))
        → (a c : Told) (bytes : List ℕ) (journal : List Entry) (next : Lines) → IsInput a c (header version ++ bytes) → length (header version ++ bytes) ≤ TEXT_LIMIT
        → Stands version bytes journal next [] → next.begun.items ≡ [] → IsOfJournal a c journal
    all_read law a c bytes journal next input within stands none =
        lines_read law a c (header version ++ bytes) bytes journal input
        (begun_counts next.begun.items (header version ++ bytes) (stands_there bytes journal next stands)) within
        (subst (λ (r : List ℕ). Reads version bytes journal r) none (reads_all bytes journal next stands))

    -- where one is begun, it is a fault
    pub left_open :
        ((text : List ℕ) (journal : List Entry) (rest : List ℕ) → Reads version text journal rest → (rest ≡ [] → ⊥) → parted 10 rest ≡ None
        → IsLinesFault version (Line (length journal + 2)) text × IsRefused version (Line (length journal + 2)) text)
        → (a c : Told) (bytes : List ℕ) (journal : List Entry) (next : Lines) (why : JournalFault) → IsInput a c (header version ++ bytes) → length (header version ++ bytes) ≤ TEXT_LIMIT
        → Stands version bytes journal next [] → (next.begun.items ≡ [] → ⊥) → why ≡ Line next.number → IsInputFault (Text why) a c
    left_open law a c bytes journal next why input within stands some is =
        let text = header version ++ bytes in
        let both = law bytes journal next.begun.items (reads_all bytes journal next stands) some stands.open_line in
        let number : Line (length journal + 2) ≡ why = ap Line (sym stands.number) ∙ sym is in
        let fault = subst (λ (f : JournalFault). IsLinesFault version f bytes) number both.0 in
        let none = subst (λ (f : JournalFault). IsRefused version f bytes) number both.1 in
        let counts : text ≡ before_gate text = sym (begun_counts next.begun.items text (stands_there bytes journal next stands)) in
        refused why a c text input
        (subst (λ (t : List ℕ). IsFault why t) counts (fault_behind version why text bytes within refl fault))
        (subst (λ (t : List ℕ). IsOfNone why t) counts (none_behind version why text bytes refl none))

    -- a text of one byte past the limit is too long, where it has no gate
    pub long_stands : (a c : Told) (bytes : List ℕ) (journal : List Entry) (next : Lines) → IsInput a c (header version ++ bytes) → TEXT_LIMIT < length (header version ++ bytes)
        → Stands version bytes journal next [] → IsInputFault (Text Long) a c
    long_stands a c bytes journal next input long stands =
        too_long a c (header version ++ bytes) input
        (omega (arith, long, ap length (begun_counts next.begun.items (header version ++ bytes) (stands_there bytes journal next stands))))

    -- ---- a gate

    -- the text before a gate
    closed_is : (bytes : List ℕ) (journal : List Entry) → (closes : Closes version bytes journal) → (header version ++ closes.front) ++ 35 ∷ closes.behind ≡ header version ++ bytes
    closed_is bytes journal closes = append_assoc (header version) closes.front (35 ∷ closes.behind) ∙ ap (λ (l : List ℕ). header version ++ l) (sym closes.is)

    closed_sees : (bytes : List ℕ) (journal : List Entry) → (closes : Closes version bytes journal) → Sees LineStart (header version ++ closes.front)
    closed_sees bytes journal closes =
        subst (λ (t : List ℕ). Sees LineStart t) (ap (λ (l : List ℕ). header version ++ l) (sym (closes.reads.is ∙ append-nil (lines journal))))
        (text_counts begins one version journal (all_typed version journal closes.reads.typed))

    pub closed_there : (bytes : List ℕ) (journal : List Entry) → Closes version bytes journal → Sees BehindGate (header version ++ bytes)
    closed_there bytes journal closes =
        subst (λ (t : List ℕ). Sees BehindGate t) (closed_is bytes journal closes)
        (sees_closed (header version ++ closes.front) closes.behind (closed_sees bytes journal closes))

    pub closed_read :
        ((text : List ℕ) (journal : List Entry) → Reads version text journal [] → (text ≡ lines journal) × ((es : List Entry) → All (IsEntryIn version) es → text ≡ lines es → journal ≡ es))
        → (a c : Told) (bytes more : List ℕ) (journal : List Entry) → IsInput a c ((header version ++ bytes) ++ more) → length (header version ++ bytes) ≤ TEXT_LIMIT + 1
        → Closes version bytes journal → IsOfJournal a c journal
    closed_read law a c bytes more journal input within closes =
        let front = header version ++ closes.front in
        let is : (header version ++ bytes) ++ more ≡ front ++ 35 ∷ (closes.behind ++ more) =
        ap (λ (l : List ℕ). l ++ more) (sym (closed_is bytes journal closes)) ∙ append_assoc front (35 ∷ closes.behind) more in
        let size : length (header version ++ bytes) ≡ length front + length (35 ∷ closes.behind) = ap length (sym (closed_is bytes journal closes)) ∙ length-append front (35 ∷ closes.behind) in
        lines_read law a c ((header version ++ bytes) ++ more) closes.front journal input
        (ap before_gate is ∙ before_closed front (closes.behind ++ more) (closed_sees bytes journal closes))
        (omega (arith, within, size)) closes.reads
