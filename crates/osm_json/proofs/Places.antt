-- Names and texts at their places in one text.
use Rattle.std.proofs.Common.{◌≡◌, ℕ, ◌+◌, ◌-◌, ◌≤◌, List, [], ◌∷◌, ◌++◌, length, take, drop, map, Bool, if◌then◌else◌, Option, Some, None, Bor, is_some, unwrap_or, refl, sym, ap, ap₂, ◌∙◌, subst, arith, append_assoc, length-append}
use Rattle.std.proofs.Math.Seq.{drop-append_seam, take-append_seam, drop-append-add, take-length}
use Rattle.std.proofs.lemmas.List.{take-append-le, drop-append-le, length-drop, map-append}
use Rattle.std.proofs.lemmas.List.Elements.{All-push, All-weaker, All-tail, All-head}
use Rattle.std.proofs.lemmas.Str.{IsUtf8-append, IsUtf8-nil}
use Rattle.std.specs.List.{slice_range, All}
use Rattle.std.specs.Str.{IsUtf8}
use Rattle.osm_element.specs.Tags.{MayCut}
use Rattle.osm_json.specs.Entries.{Entry, entry_at, IsPlace}
use Rattle.osm_json.specs.Found.{text_in}
use Rattle.osm_json.specs.declared.entries.Place.{Place}

-- ---- a text that grows

module _ (text more : List ℕ) where
  range_grown : (from to : ℕ) → MayCut from to text → slice_range (text ++ more) from to ≡ slice_range text from to
  range_grown from to may =
      let rises = may.rises in
      let within = may.within in
      let room : to - from ≤ length (drop from text) = omega (arith, length-drop from text) in
      ap (take (to - from)) (drop-append-le from text more (omega arith)) ∙ take-append-le (to - from) (drop from text) more room

  entry_grown : (p : Place) → IsPlace text p → entry_at (text ++ more) p ≡ entry_at text p
  entry_grown p is =
      ap₂ (λ (name value : List ℕ). (name, if p.is_text then Some value else None)) (range_grown p.start p.middle is.name) (range_grown p.middle p.end is.value)

  rest_grown : (at : ℕ) → at ≤ length text → IsUtf8 more → IsUtf8 (drop at text) → IsUtf8 (drop at (text ++ more))
  rest_grown at within utf8 rest = subst IsUtf8 (sym (drop-append-le at text more within)) (IsUtf8-append (drop at text) more rest utf8)

  cut_grown : (from to : ℕ) → IsUtf8 more → MayCut from to text → MayCut from to (text ++ more)
  cut_grown from to utf8 may =
      record {
        rises = may.rises;
        within = omega (arith, length-append text more, may.within);
        rest = rest_grown to may.within utf8 may.rest;
      }

  place_grown : IsUtf8 more → (p : Place) → IsPlace text p → IsPlace (text ++ more) p
  place_grown utf8 p is =
      record {
        begins = rest_grown p.start (omega (arith, is.name.rises, is.name.within)) utf8 is.begins;
        name = cut_grown p.start p.middle utf8 is.name;
        value = cut_grown p.middle p.end utf8 is.value;
      }

  entries_grown : (ps : List Place) → All (IsPlace text) ps → map (entry_at (text ++ more)) ps ≡ map (entry_at text) ps
  entries_grown [] are = refl
  entries_grown (p ∷ ps) are = ap₂ (λ (e : Entry) (es : List Entry). e ∷ es) (entry_grown p (All-head (IsPlace text) p ps are)) (entries_grown ps (All-tail (IsPlace text) p ps are))

-- ---- one more name, with what is behind it

module _ (text name value : List ℕ) (p : Place) (name_utf8 : IsUtf8 name) (value_utf8 : IsUtf8 value)
    (starts : p.start ≡ length text) (middle : p.middle ≡ length text + length name) (ends : p.end ≡ length text + length name + length value) where
  abbrev longer : List ℕ
  longer = text ++ (name ++ value)

  long : length longer ≡ length text + length name + length value
  long = omega (arith, length-append text (name ++ value), length-append name value)

  from_start : drop p.start longer ≡ name ++ value
  from_start = ap (λ (n : ℕ). drop n longer) starts ∙ drop-append_seam text (name ++ value)

  from_middle : drop p.middle longer ≡ value
  from_middle = ap (λ (n : ℕ). drop n longer) middle ∙ drop-append-add text (name ++ value) (length name) ∙ drop-append_seam name value

  name_there : slice_range longer p.start p.middle ≡ name
  name_there =
      let count : p.middle - p.start ≡ length name = omega arith in
      ap (take (p.middle - p.start)) from_start ∙ ap (λ (n : ℕ). take n (name ++ value)) count ∙ take-append_seam name value

  value_there : slice_range longer p.middle p.end ≡ value
  value_there =
      let count : p.end - p.middle ≡ length value = omega arith in
      ap (take (p.end - p.middle)) from_middle ∙ ap (λ (n : ℕ). take n value) count ∙ take-length value

  nothing_behind : (xs : List ℕ) → drop (length xs) xs ≡ []
  nothing_behind [] = refl
  nothing_behind (x ∷ xs) = nothing_behind xs

  is_place : IsPlace longer p
  is_place =
      record {
        begins = subst IsUtf8 (sym from_start) (IsUtf8-append name value name_utf8 value_utf8);
        name = record { rises = omega arith; within = omega (arith, long); rest = subst IsUtf8 (sym from_middle) value_utf8 };
        value = record {
          rises = omega arith;
          within = omega (arith, long);
          rest = subst IsUtf8 (sym (ap (λ (n : ℕ). drop n longer) (ends ∙ sym long) ∙ nothing_behind longer)) IsUtf8-nil;
        };
      }

  entry_there : entry_at longer p ≡ (name, if p.is_text then Some value else None)
  entry_there = ap₂ (λ (n v : List ℕ). (n, if p.is_text then Some v else None)) name_there value_there

-- a name and what it has were put behind the text
pub record Added (old : List ℕ) (ps : List Place) (name : List ℕ) (given : Option (List ℕ)) (new : List ℕ) (qs : List Place) : Type 0 where
  pub places : All (IsPlace new) qs
  pub entries : map (entry_at new) qs ≡ map (entry_at old) ps ++ (name, given) ∷ []

kept_text : (given : Option (List ℕ)) (b : Bool) (value : List ℕ) → b ≡ is_some given → value ≡ unwrap_or given [] → (if b then Some value else None) ≡ given
kept_text None b value e is = ap (λ (t : Bool). if t then Some value else None) e
kept_text (Some text) b value e is = ap₂ (λ (t : Bool) (v : List ℕ). if t then Some v else None) e is

pub added : (old : List ℕ) (ps : List Place) (name : List ℕ) (given : Option (List ℕ)) (value one new : List ℕ) (p : Place) (qs : List Place)
    → IsUtf8 name → IsUtf8 value → value ≡ unwrap_or given [] → All (IsPlace old) ps → one ≡ old ++ name → new ≡ one ++ value
    → p.start ≡ length old → p.middle ≡ length one → p.end ≡ length new → p.is_text ≡ is_some given → qs ≡ ps ++ p ∷ [] → Added old ps name given new qs
added old ps name given value one new p qs name_utf8 value_utf8 is are first second starts middle ends has all =
    let more = name ++ value in
    let whole : new ≡ old ++ more = second ∙ ap (λ (t : List ℕ). t ++ value) first ∙ append_assoc old name value in
    let at_middle : p.middle ≡ length old + length name = middle ∙ ap length first ∙ length-append old name in
    let at_end : p.end ≡ length old + length name + length value = ends ∙ ap length second ∙ length-append one value ∙ ap (λ (n : ℕ). n + length value) (ap length first ∙ length-append old name) in
    let there = is_place old name value p name_utf8 value_utf8 starts at_middle at_end in
    let entry = entry_there old name value p name_utf8 value_utf8 starts at_middle at_end ∙ ap (λ (o : Option (List ℕ)). (name, o)) (kept_text given p.is_text value has is) in
    let grown = All-weaker (IsPlace old) (IsPlace (old ++ more)) (place_grown old more (IsUtf8-append name value name_utf8 value_utf8)) ps are in
    rw (all, whole) (record {
      places = All-push (IsPlace (old ++ more)) ps p grown there;
      entries = map-append (entry_at (old ++ more)) ps (p ∷ []) ∙ ap₂ (λ (es : List Entry) (e : Entry). es ++ e ∷ []) (entries_grown old more ps are) entry;
    })

-- a text that is lent, where there is one
pub value_or : (o : Option (Bor (List ℕ))) (d x : Bor (List ℕ)) → d.now ≡ [] → x ≡ unwrap_or o d → x.now ≡ unwrap_or (text_in o) []
value_or None d x nothing is = ap (λ (b : Bor (List ℕ)). b.now) is ∙ nothing
value_or (Some b) d x nothing is = ap (λ (b : Bor (List ℕ)). b.now) is

pub has_text : (o : Option (Bor (List ℕ))) (b : Bool) → b ≡ is_some o → b ≡ is_some (text_in o)
has_text None b e = e
has_text (Some t) b e = e
