-- The journal: the list of accepted commands.
use Rattle.std.specs.Prelude.{◌≡◌, ℕ, ◌+◌, Bool, true, ◌&&◌, ◌==◌, is_ok, List, [], ◌∷◌, ◌++◌, fold, count_by, Result, Ok, Err}
use Rattle.osm_base.specs.Stamp.{stamp_after}
use Rattle.osm_base.specs.declared.people.User.{User}
use Rattle.osm_change.specs.declared.refusals.Refusal.{Refusal}
use Rattle.osm_model.specs.declared.commands.Command.{Command}
use Rattle.osm_model.specs.declared.commands.Entry.{Entry}
use Rattle.osm_model.specs.declared.states.State.{State}
use Rattle.osm_model.specs.State.{empty}
use Rattle.osm_model.specs.Act.{Effect, act, judge}

-- the state after an entry
abbrev pub after : State → Entry → State
after P e = (act P e.user e.stamp e.command).0

abbrev pub replay : List Entry → State
replay entries = fold after empty entries

abbrev pub calls_of : ℕ → List Entry → ℕ
calls_of session entries = count_by (λ e. e.session == session) entries

-- the state accepts the entry's command at the entry's stamp, which is no earlier than its last one
abbrev pub takes : State → Entry → Bool
takes P e = is_ok (judge P e.user e.stamp e.command) && (stamp_after P.last e.stamp == e.stamp)

-- each entry is taken where it stands
abbrev pub is_legal_from : State → List Entry → Bool
is_legal_from P [] = true
is_legal_from P (e ∷ es) = takes P e && is_legal_from (after P e) es

-- the calls of each session are numbered 1, 2, 3 and so on, in order, those of before among them
abbrev pub is_numbered : List Entry → List Entry → Bool
is_numbered before [] = true
is_numbered before (e ∷ es) = (e.call == calls_of e.session before + 1) && is_numbered (before ++ e ∷ []) es

-- each entry may follow those before it
pub record IsLegal (entries : List Entry) : Type 0 where
  pub taken : is_legal_from empty entries ≡ true
  pub numbered : is_numbered [] entries ≡ true

-- T is S after entries, each of them taken where it stands
pub record Later (S T : State) : Type 0 where
  pub since : List Entry
  pub taken : is_legal_from S since ≡ true
  pub comes_to : T ≡ fold after S since

-- the entry of a command that is accepted at a moment
abbrev pub entry_of : State → ℕ → ℕ → User → ℕ → Command → Entry
entry_of P session call user moment c = record {
  session = session;
  call = call;
  user = user;
  stamp = stamp_after P.last moment;
  command = c;
}

-- the entry that follows the others of its session
abbrev pub next_entry : List Entry → ℕ → User → ℕ → Command → Entry
next_entry entries session user moment c = entry_of (replay entries) session (calls_of session entries + 1) user moment c

abbrev pub appended : List Entry → Entry → Result Effect Refusal → List Entry
appended entries e (Ok done) = entries ++ e ∷ []
appended entries e (Err r) = entries

-- an accepted command appends its entry, and a refused one leaves the journal
abbrev pub journal_after : List Entry → ℕ → User → ℕ → Command → List Entry
journal_after entries session user moment c =
    appended entries (next_entry entries session user moment c) (judge (replay entries) user (stamp_after (replay entries).last moment) c)
