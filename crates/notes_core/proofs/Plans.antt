-- Plans and their looks, and what a command comes to.
use Rattle.std.proofs.Common.{◌≡◌, ℕ, List, Option, Some, None, Result, Ok, Err, refl, sym, ap, ◌∙◌, subst}
use Rattle.std.specs.Prelude.{IsOk, MatchResult}
use Rattle.osm_base.specs.Place.{Position}
use Rattle.osm_base.specs.Stamp.{stamp_after}
use Rattle.machine_law.specs.declared.tags.Settled.{Settled}
use Rattle.machine_law.specs.declared.tags.Tag.{Tag}
use Rattle.notes_core.specs.Act.{Effect, judge, subject_of}
use Rattle.notes_core.specs.Machine.{act_as, entry_if}
use Rattle.notes_core.specs.Plan.{comments_of, StandsAt, Stands, Differs}
use Rattle.notes_core.specs.Shown.{effect_bytes, refusal_bytes}
use Rattle.notes_core.specs.declared.commands.NoteAsked.{NoteAsked}
use Rattle.notes_core.specs.declared.commands.NoteEntry.{NoteEntry}
use Rattle.notes_core.specs.declared.commands.NoteLook.{NoteLook}
use Rattle.notes_core.specs.declared.commands.NotePlan.{NotePlan}
use Rattle.notes_core.specs.declared.commands.NoteSubject.{NoteSubject}
use Rattle.notes_core.specs.declared.commands.NoteSubject.TheVariants.{New, Known}
use Rattle.notes_core.specs.declared.notes.NoteRefusal.{NoteRefusal}
use Rattle.notes_core.specs.declared.notes.Notes.{Notes}

-- a plan that names no note stands
pub stands_alone : (plan : NotePlan) (S : Notes) (at : Position) → subject_of plan.asked.command ≡ New at → Stands plan S
stands_alone plan S at is = subst (λ (o : NoteSubject). StandsAt o plan.count S) (sym is) tt

abbrev look_at : ℕ → ℕ → ℕ → NoteLook
look_at id planned found = record { id = id; planned = planned; found = found }

-- one that names a note stands where its number is the same
pub stands_or_differs :
    (plan : NotePlan) (S : Notes) (id : ℕ) (r : Result (Unit {0}) NoteLook)
    → subject_of plan.asked.command ≡ Known id
    → MatchResult r (λ _. plan.count ≡ comments_of S id) (λ look. (look ≡ look_at id plan.count (comments_of S id)) × (plan.count ≡ comments_of S id → ⊥))
    → MatchResult r (λ _. Stands plan S) (λ look. (Stands plan S → ⊥) × Differs look plan S)
stands_or_differs plan S id (Ok u) is same = subst (λ (o : NoteSubject). StandsAt o plan.count S) (sym is) same
stands_or_differs plan S id (Err look) is told = (
  λ stands. told.1 (subst (λ (o : NoteSubject). StandsAt o plan.count S) is stands),
  record {
    named = is ∙ ap (λ (l : NoteLook). Known l.id) (sym told.0);
    planned = ap (λ (l : NoteLook). l.planned) told.0;
    found = ap (λ (l : NoteLook). l.found) told.0 ∙ ap (λ (l : NoteLook). comments_of S l.id) (sym told.0);
    other = λ same. told.1 (sym (ap (λ (l : NoteLook). l.planned) told.0) ∙ same ∙ ap (λ (l : NoteLook). l.found) told.0);
  },
)

-- an accepted command has its entry
pub entry_there : (r : Result Effect NoteRefusal) (e : NoteEntry) → IsOk r → Some e ≡ entry_if r e
entry_there (Ok done) e ok = refl
entry_there (Err refusal) e ok = cc

abbrev pub settled_with : List ℕ → Option NoteEntry → Settled NoteEntry
settled_with answer entry = record { answer = answer; entry = entry }

abbrev pub entry_as : Tag → NoteAsked → ℕ → NoteEntry
entry_as tag asked at = record { session = tag.session; call = tag.call; caller = asked.caller; stamp = at; command = asked.command }

-- what a command comes to that is accepted, as its entry and its answer are made
pub acts_accepted :
    (S : Notes) (tag : Tag) (moment at : ℕ) (asked : NoteAsked)
    → at ≡ stamp_after S.last moment
    → IsOk (judge S asked.caller at asked.command)
    → settled_with (effect_bytes (judge S asked.caller at asked.command)) (Some (entry_as tag asked at)) ≡ act_as S tag moment asked
acts_accepted S tag moment at asked stamped ok =
    ap (λ (o : Option NoteEntry). settled_with (effect_bytes (judge S asked.caller at asked.command)) o) (entry_there (judge S asked.caller at asked.command) (entry_as tag asked at) ok)
    ∙ ap (λ (t : ℕ). settled_with (effect_bytes (judge S asked.caller t asked.command)) (entry_if (judge S asked.caller t asked.command) (entry_as tag asked t))) stamped

pub acts_refused :
    (S : Notes) (tag : Tag) (moment at : ℕ) (asked : NoteAsked) (refusal : NoteRefusal)
    → at ≡ stamp_after S.last moment
    → judge S asked.caller at asked.command ≡ Err refusal
    → settled_with (refusal_bytes refusal) None ≡ act_as S tag moment asked
acts_refused S tag moment at asked refusal stamped judged =
    ap (λ (r : Result Effect NoteRefusal). settled_with (effect_bytes r) (entry_if r (entry_as tag asked at))) (sym judged)
    ∙ ap (λ (t : ℕ). settled_with (effect_bytes (judge S asked.caller t asked.command)) (entry_if (judge S asked.caller t asked.command) (entry_as tag asked t))) stamped
