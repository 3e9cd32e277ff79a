-- What a plain journal keeps, and a command that was judged on it and isn't kept yet.
use Rattle.std.specs.Prelude.{◌≡◌, ⊤, ◌+◌, true, List, [], ◌∷◌, ◌++◌, Option, Some, None, Ok}
use Rattle.osm_change.specs.declared.answers.Answer.{Answer}
use Rattle.osm_element.specs.Elements.{IsConsistent}
use Rattle.osm_element.specs.Later.{IsBegun}
use Rattle.osm_model.specs.declared.commands.Entry.{Entry}
use Rattle.osm_model.specs.declared.states.State.{State}
use Rattle.plain_model.specs.declared.journals.Judgement.{Judgement}
use Rattle.plain_model.specs.declared.journals.Kept.{Kept}
use Rattle.osm_model.specs.Act.{judge}
use Rattle.osm_model.specs.Journal.{IsLegal, replay, takes, calls_of}
use Rattle.plain_model.specs.Alteration.{effect, CanTake}

-- what a journal keeps
pub record IsJournal (entries : List Entry) (P : State) : Type 0 where
  pub legal : IsLegal entries
  pub replayed : P ≡ replay entries
  pub consistent : IsConsistent P.elements
  pub begun : IsBegun P.elements

-- ---- a judgement

abbrev pub answer_of : Judgement → Answer
answer_of j = j.answer

abbrev pub appended_kept : List Entry → Option Kept → List Entry
appended_kept entries None = entries
appended_kept entries (Some k) = entries ++ k.entry ∷ []

-- the journal that keeps it: a refused command isn't kept
abbrev pub kept_after : List Entry → Judgement → List Entry
kept_after entries j = appended_kept entries j.kept

-- the entry may follow these, and its alteration is what its command does
pub record IsKeptOn (entries : List Entry) (k : Kept) : Type 0 where
  pub taken : takes (replay entries) k.entry ≡ true
  pub numbered : k.entry.call ≡ calls_of k.entry.session entries + 1
  pub answer : Answer
  pub judged : judge (replay entries) k.entry.user k.entry.stamp k.entry.command ≡ Ok (effect (replay entries) k.alteration answer)
  pub can : CanTake (replay entries) k.alteration

abbrev pub OnKept : List Entry → Option Kept → Type 0
OnKept entries None = ⊤
OnKept entries (Some k) = IsKeptOn entries k

-- It was judged on a journal of these entries.
abbrev pub IsJudgedOn : List Entry → Judgement → Type 0
IsJudgedOn entries j = OnKept entries j.kept
