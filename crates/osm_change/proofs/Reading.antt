-- A reading of operations, step by step.
use Rattle.std.proofs.Common.{◌≡◌, ◌⊎◌, inl, inr, ℕ, suc, ◌+◌, ◌^◌, ◌<◌, ◌≤◌, Bool, true, false, cond, List, [], ◌∷◌, ◌++◌, length, Option, Some, None, is_some, ℤ, pos, negsuc, Result, Ok, Err, refl, sym, ap, ◌∙◌, arith, true≢false}
use Rattle.std.specs.Prelude.{All}
use Rattle.std.proofs.lemmas.List.{length-append, append-nil}
use Rattle.std.proofs.lemmas.List.Elements.{All-head, All-tail}
use Rattle.osm_base.specs.declared.keys.Kind.{Kind}
use Rattle.placeholder_map.specs.Placeholders.{Placeholders, look_of, is_bound}
use Rattle.osm_element.specs.declared.contents.RawContent.{RawContent}
use Rattle.osm_base.specs.Outcome.{◌>>=◌}
use Rattle.osm_change.specs.Outcome.{cons_ok, fault_at, is_memory, out_of_memory, GivesChange}
use Rattle.osm_change.specs.Build.{Look, is_create, created_at, noted, free_placeholder, op_by, op_of, or_fault, operations_after, IsRawOp}
use Rattle.osm_change.specs.declared.causes.Cause.{Cause}
use Rattle.osm_change.specs.declared.causes.Cause.TheVariants.{DoublePlaceholder, Memory}
use Rattle.osm_change.specs.declared.causes.ShapeFault.{ShapeFault}
use Rattle.osm_change.specs.declared.raw.Action.{Action}
use Rattle.osm_change.specs.declared.raw.Action.TheVariants.{Create, Modify, Delete}
use Rattle.osm_change.specs.declared.raw.RawOp.{RawOp}
use Rattle.osm_change.specs.declared.operations.Op.{Op}
use Rattle.osm_change.proofs.Each.{after, after-nil, after-cons}
use Rattle.osm_change.proofs.Looks.{looks-step}

-- what stands after some of the operations were read
pub record IsReading (whole before rest : List RawOp) (m : Placeholders) (ops : List Op) (place : ℕ) : Type 0 where
  pub done : operations_after [] whole ≡ after ops (operations_after before rest)
  pub looks : look_of m ≡ created_at before
  pub count : length before ≡ place
  pub left : length before + length rest ≡ length whole
  pub raw : All IsRawOp rest

free-bound : (look : Look) (kind : Kind) (id placeholder : ℤ) → free_placeholder look kind id ≡ Ok placeholder → is_some (look kind id) ≡ false
free-bound look kind (pos n) placeholder e = absurd (cc)
free-bound look kind (negsuc n) placeholder e = at (is_some (look kind (negsuc n))) refl
  where
    at : (b : Bool) → is_some (look kind (negsuc n)) ≡ b → is_some (look kind (negsuc n)) ≡ false
    at false e₂ = e₂
    at true e₂ =
        let twice : ◌≡◌ {A = Result ℤ Cause} (Err DoublePlaceholder) (Ok placeholder) = sym (ap (λ b. cond b (Err DoublePlaceholder) (Ok (negsuc n))) e₂) ∙ e in
        absurd (cc)

first-ok : (free : Result ℤ Cause) (next : ℤ → Result Op Cause) (o : Op) → (free >>= next) ≡ Ok o → (placeholder : ℤ) × (free ≡ Ok placeholder)
first-ok (Ok placeholder) next o e = (placeholder, refl)
first-ok (Err cause) next o e = absurd (cc)

created-free : (look : Look) (r : RawOp) (action : Action) (content : Option RawContent) (o : Op) → op_by look r action content ≡ Ok o → is_create action ≡ true → is_some (look r.kind r.id) ≡ false
created-free look r Create None o e create = absurd (cc)
created-free look r Create (Some content) o e create =
    let first = first-ok (free_placeholder look r.kind r.id) _ o e in
    free-bound look r.kind r.id first.0 first.1
created-free look r Modify content o e create = absurd (true≢false (sym create))
created-free look r (Delete if_unused) content o e create = absurd (true≢false (sym create))

looked : (m : Placeholders) (before : List RawOp) (r : RawOp) (result : Result Op Cause) → look_of m ≡ created_at before → op_of (look_of m) r ≡ result → op_of (created_at before) r ≡ result
looked m before r result looks e = ap (λ (look : Look). op_of look r) (sym looks) ∙ e

next-ok : (place : ℕ) (first : Result Op Cause) (o : Op) (ops : List Op) (rest : Result (List Op) ShapeFault) → first ≡ Ok o → after ops (or_fault place first >>= (λ o. cons_ok o rest)) ≡ after (ops ++ o ∷ []) rest
next-ok place first o ops rest e = ap (λ first. after ops (or_fault place first >>= (λ o. cons_ok o rest))) e ∙ after-cons ops o rest

next-err : (place : ℕ) (first : Result Op Cause) (cause : Cause) (ops : List Op) (rest : Result (List Op) ShapeFault) → first ≡ Err cause → after ops (or_fault place first >>= (λ o. cons_ok o rest)) ≡ Err (fault_at place cause)
next-err place first cause ops rest e = ap (λ first. after ops (or_fault place first >>= (λ o. cons_ok o rest))) e

none-left : (n : ℕ) → 0 + n ≡ n
none-left n = omega arith

pub reading-starts : (whole : List RawOp) (m : Placeholders) → look_of m ≡ created_at [] → All IsRawOp whole → IsReading whole [] whole m [] 0
reading-starts whole m looks raw = record {
  done = sym (after-nil (operations_after [] whole));
  looks = looks;
  count = refl;
  left = none-left (length whole);
  raw = raw;
}

left-next : (more before rest whole : ℕ) → more ≡ before + 1 → before + suc rest ≡ whole → more + rest ≡ whole
left-next more before rest whole one-more left = omega arith

pub reading-goes : (whole before rest : List RawOp) (m : Placeholders) (ops : List Op) (place : ℕ) (r : RawOp) (o : Op) (next : Placeholders) (more : List Op) → IsReading whole before (r ∷ rest) m ops place → op_of (look_of m) r ≡ Ok o → next ≡ noted m r place → more ≡ ops ++ o ∷ [] → IsReading whole (before ++ r ∷ []) rest next more (place + 1)
reading-goes whole before rest m ops place r o next more was ok notes pushed =
    let here = looked m before r (Ok o) was.looks ok in
    let free : is_create r.action ≡ true → is_bound m r.kind r.id ≡ false = created-free (look_of m) r r.action r.content o ok in
    let one-more : length (before ++ r ∷ []) ≡ length before + 1 = length-append before (r ∷ []) in
    record {
      done = was.done ∙ next-ok (length before) (op_of (created_at before) r) o ops (operations_after (before ++ r ∷ []) rest) here ∙ ap (λ ops. after ops (operations_after (before ++ r ∷ []) rest)) (sym pushed);
      looks = ap look_of notes ∙ looks-step m before r place was.looks was.count free;
      count = one-more ∙ ap (λ n. n + 1) was.count;
      left = left-next (length (before ++ r ∷ [])) (length before) (length rest) (length whole) one-more was.left;
      raw = All-tail IsRawOp r rest was.raw;
    }

pub reading-stops : (whole before rest : List RawOp) (m : Placeholders) (ops : List Op) (place : ℕ) (r : RawOp) (cause : Cause) → IsReading whole before (r ∷ rest) m ops place → op_of (look_of m) r ≡ Err cause → operations_after [] whole ≡ Err (fault_at place cause)
reading-stops whole before rest m ops place r cause was err =
    was.done ∙ next-err (length before) (op_of (created_at before) r) cause ops (operations_after (before ++ r ∷ []) rest) (looked m before r (Err cause) was.looks err) ∙ ap (λ n. Err (fault_at n cause)) was.count

pub reading-ends : (whole before rest : List RawOp) (m : Placeholders) (ops : List Op) (place : ℕ) → length rest ≡ 0 → IsReading whole before rest m ops place → operations_after [] whole ≡ Ok ops
reading-ends whole before [] m ops place none was = was.done ∙ ap Ok (append-nil ops)
reading-ends whole before (r ∷ rest) m ops place none was = absurd (omega arith)

pub reading-raw : (whole before rest : List RawOp) (m : Placeholders) (ops : List Op) (place : ℕ) (r : RawOp) → IsReading whole before (r ∷ rest) m ops place → IsRawOp r
reading-raw whole before rest m ops place r was = All-head IsRawOp r rest was.raw

small-next : (before rest whole place : ℕ) → before ≡ place → before + suc rest ≡ whole → place + 1 ≤ whole
small-next before rest whole place count left = omega arith

pub reading-small : (whole before rest : List RawOp) (m : Placeholders) (ops : List Op) (place : ℕ) (r : RawOp) → IsReading whole before (r ∷ rest) m ops place → place + 1 ≤ length whole
reading-small whole before rest m ops place r was = small-next (length before) (length rest) (length whole) place was.count was.left

-- and its number fits
pub place-fits : (place count : ℕ) → place + 1 ≤ count → count < 2 ^ 32 → place + 1 < 2 ^ 32
place-fits place count small few = omega arith

pub stopped : (expected : Result (List Op) ShapeFault) (place : ℕ) (cause : Cause) (fault : ShapeFault) → fault ≡ cond (is_memory cause) out_of_memory (fault_at place cause) → (cause ≡ Memory) ⊎ (expected ≡ Err (fault_at place cause)) → GivesChange expected (Err fault)
stopped expected place cause fault at (inl m) = inl (at ∙ ap (λ c. cond (is_memory c) out_of_memory (fault_at place c)) m)
stopped expected place cause fault at (inr e) = by (is_memory cause) refl
  where
    by : (b : Bool) → is_memory cause ≡ b → (fault ≡ out_of_memory) ⊎ (expected ≡ Err fault)
    by true m = inl (at ∙ ap (λ b. cond b out_of_memory (fault_at place cause)) m)
    by false m = inr (e ∙ ap Err (sym (at ∙ ap (λ b. cond b out_of_memory (fault_at place cause)) m)))

pub reading-fails : (whole before rest : List RawOp) (m : Placeholders) (ops : List Op) (place : ℕ) (r : RawOp) (cause : Cause) → IsReading whole before (r ∷ rest) m ops place → (cause ≡ Memory) ⊎ (op_of (look_of m) r ≡ Err cause) → (cause ≡ Memory) ⊎ (operations_after [] whole ≡ Err (fault_at place cause))
reading-fails whole before rest m ops place r cause was (inl e) = inl e
reading-fails whole before rest m ops place r cause was (inr e) = inr (reading-stops whole before rest m ops place r cause was e)
