-- What an accepted command tells of its note.
use Rattle.std.proofs.Common.{◌≡◌, ℕ, zero, suc, ◌-◌, ◌<◌, ◌≤◌, Bool, true, false, ◌&&◌, List, [], ◌∷◌, length, Option, Some, None, Result, Ok, Err, refl, sym, ap, ◌∙◌, subst, arith}
use Rattle.std.specs.Prelude.{◌==◌, is_ok, IsOk, MatchResult, nat_lt, slice_get, if◌then◌else◌}
use Rattle.std.specs.Option.{ForSome, option_map_or}
use Rattle.std.proofs.lemmas.Option.{slice_get_within}
use Rattle.std.proofs.lemmas.Bool.{eqb-true}
use Rattle.osm_base.specs.Outcome.{◌>>=◌}
use Rattle.osm_base.specs.Place.{Position}
use Rattle.osm_base.specs.Stamp.{stamp_after}
use Rattle.osm_base.specs.declared.limits.TheConstants.{COMMENT_LIMIT, MOMENT_LIMIT}
use Rattle.osm_base.specs.declared.people.Owner.{Owner}
use Rattle.notes_core.specs.Act.{Effect, note, known, still_open, now_closed, not_full, takes_comment, takes_reopening, judge, changed, with_note, opened, commented, comment_of, takes, after, settled, subject_of}
use Rattle.notes_core.specs.World.{IsTimelyMoment}
use Rattle.notes_core.specs.declared.commands.NoteCommand.{NoteCommand}
use Rattle.notes_core.specs.declared.commands.NoteCommand.TheVariants as command
use Rattle.notes_core.specs.declared.commands.NoteEntry.{NoteEntry}
use Rattle.notes_core.specs.declared.commands.NoteSubject.TheVariants.{New, Known}
use Rattle.notes_core.specs.declared.notes.Note.{Note}
use Rattle.notes_core.specs.declared.notes.NoteRefusal.{NoteRefusal}
use Rattle.notes_core.specs.declared.notes.NoteRefusal.TheVariants as refused
use Rattle.notes_core.specs.declared.notes.Notes.{Notes}
use Rattle.notes_core.proofs.Placed.{not_zero, less_one}

abbrev pick : Notes → Bool → ℕ → Option Note
pick S b k = if b then None else slice_get S.notes k

pub note-suc : (S : Notes) (i : ℕ) → note S (suc i) ≡ slice_get S.notes i
note-suc S i = ap (λ (b : Bool). pick S b (suc i - 1)) (not_zero i) ∙ ap (slice_get S.notes) (less_one i)

-- the note of a number that isn't 0
pub note-at : (S : Notes) (id : ℕ) → 0 < id → note S id ≡ slice_get S.notes (id - 1)
note-at S zero some = absurd (omega (arith, some))
note-at S (suc i) some = note-suc S i ∙ ap (slice_get S.notes) (sym (less_one i))

pub some_at : (ns : List Note) (i : ℕ) → i < length ns → (n : Note) × (slice_get ns i ≡ Some n)
some_at [] i lt = absurd (omega (arith, lt))
some_at (n ∷ ns) zero lt = (n, refl)
some_at (n ∷ ns) (suc i) lt = some_at ns i (omega (arith, lt))

-- a number that has a note is the number of one
pub note_within : (S : Notes) (id : ℕ) (n : Note) → note S id ≡ Some n → (0 < id) × (id ≤ length S.notes)
note_within S zero n is = cc
note_within S (suc i) n is = let within : i < length S.notes = slice_get_within S.notes i n (sym (note-suc S i) ∙ is) in (omega arith, omega (arith, within))

abbrev as_ok : Note → Result Note NoteRefusal
as_ok n = Ok n

abbrev known_if : ℕ → Option Note → Result Note NoteRefusal
known_if id o = option_map_or as_ok o (Err (refused.NoNote id))

both : (a b : Bool) → (a && b) ≡ true → (a ≡ true) × (b ≡ true)
both true true is = (refl, refl)
both true false is = cc
both false b is = cc

-- a test of a note that was passed
record IsPassed (S : Notes) (id : ℕ) (test : Note → Result Note NoteRefusal) : Type 0 where
  found : Note
  at : note S id ≡ Some found
  passed : known S id >>= test ≡ Ok found

passes :
    (S : Notes) (id : ℕ) (test : Note → Result Note NoteRefusal) (f : Note → Result Effect NoteRefusal)
    → ((n : Note) (m : Note) → test n ≡ Ok m → m ≡ n)
    → IsOk ((known S id >>= test) >>= f)
    → IsPassed S id test
passes S id test f same ok = go (note S id) refl ok where
  told : (n : Note) (r : Result Note NoteRefusal) → test n ≡ r → IsOk (r >>= f) → test n ≡ Ok n
  told n (Ok m) is ok = is ∙ ap as_ok (same n m is)
  told n (Err r) is ok = cc

  go : (o : Option Note) → note S id ≡ o → IsOk ((known_if id o >>= test) >>= f) → IsPassed S id test
  go None is ok = cc
  go (Some n) is ok = record { found = n; at = is; passed = ap (λ (o : Option Note). known_if id o >>= test) is ∙ told n (test n) refl ok }

abbrev open_if : ℕ → Note → Option ℕ → Result Note NoteRefusal
open_if id n closed = option_map_or (λ at. Err (refused.NoteClosed at id)) closed (Ok n)

open_same : (id : ℕ) (n m : Note) → still_open id n ≡ Ok m → m ≡ n
open_same id n m is = go n.closed is where
  go : (closed : Option ℕ) → open_if id n closed ≡ Ok m → m ≡ n
  go None is = cc
  go (Some at) is = cc

abbrev closed_if : ℕ → Note → Option ℕ → Result Note NoteRefusal
closed_if id n closed = option_map_or (λ at. Ok n) closed (Err (refused.NoteOpen id))

closed_same : (id : ℕ) (n m : Note) → now_closed id n ≡ Ok m → m ≡ n
closed_same id n m is = go n.closed is where
  go : (closed : Option ℕ) → closed_if id n closed ≡ Ok m → m ≡ n
  go None is = cc
  go (Some at) is = cc

room_same : (id : ℕ) (n m : Note) → not_full id n ≡ Ok m → m ≡ n
room_same id n m is = go (nat_lt (length n.comments) COMMENT_LIMIT) is where
  go : (b : Bool) → (if b then Ok n else Err (refused.NoteFull id)) ≡ Ok m → m ≡ n
  go true is = cc
  go false is = cc

-- two tests, of which each answers the note that it passes
two_same :
    (first second : Note → Result Note NoteRefusal) (n m : Note)
    → ((x : Note) → first n ≡ Ok x → x ≡ n)
    → ((y x : Note) → second y ≡ Ok x → x ≡ y)
    → first n >>= second ≡ Ok m
    → m ≡ n
two_same first second n m one two is = go (first n) refl is where
  go : (r : Result Note NoteRefusal) → first n ≡ r → r >>= second ≡ Ok m → m ≡ n
  go (Ok x) at is = two x m is ∙ one x at
  go (Err e) at is = cc

comment_same : (id : ℕ) (n m : Note) → takes_comment id n ≡ Ok m → m ≡ n
comment_same id n m is = two_same (still_open id) (not_full id) n m (λ x h. open_same id n x h) (λ y x h. room_same id y x h) is

reopening_same : (id : ℕ) (n m : Note) → takes_reopening id n ≡ Ok m → m ≡ n
reopening_same id n m is = two_same (now_closed id) (not_full id) n m (λ x h. closed_same id n x h) (λ y x h. room_same id y x h) is

-- the note of an accepted command, and what that comes to
pub record IsOnNote (S : Notes) (caller : Option Owner) (t : ℕ) (c : NoteCommand) (id : ℕ) : Type 0 where
  pub found : Note
  pub at : note S id ≡ Some found
  pub judged : judge S caller t c ≡ Ok (changed S id (commented found (comment_of caller t c)))

pub on_note : (S : Notes) (caller : Option Owner) (t : ℕ) (c : NoteCommand) (id : ℕ) → subject_of c ≡ Known id → IsOk (judge S caller t c) → IsOnNote S caller t c id
on_note S caller t (command.OpenNote at text) id named ok = cc
on_note S caller t (command.Comment i text) id named ok = subst (λ (j : ℕ). IsOnNote S caller t (command.Comment i text) j) here (record { found = p.found; at = p.at; judged = ap (λ (r : Result Note NoteRefusal). r >>= done) p.passed }) where
  here : i ≡ id
  here = cc

  done : Note → Result Effect NoteRefusal
  done n = Ok (changed S i (commented n (comment_of caller t (command.Comment i text))))

  p : IsPassed S i (takes_comment i)
  p = passes S i (takes_comment i) done (comment_same i) ok
on_note S caller t (command.CloseNote i text) id named ok = subst (λ (j : ℕ). IsOnNote S caller t (command.CloseNote i text) j) here (record { found = p.found; at = p.at; judged = ap (λ (r : Result Note NoteRefusal). r >>= done) p.passed }) where
  here : i ≡ id
  here = cc

  done : Note → Result Effect NoteRefusal
  done n = Ok (changed S i (commented n (comment_of caller t (command.CloseNote i text))))

  p : IsPassed S i (still_open i)
  p = passes S i (still_open i) done (open_same i) ok
on_note S caller t (command.Reopen i text) id named ok = subst (λ (j : ℕ). IsOnNote S caller t (command.Reopen i text) j) here (record { found = p.found; at = p.at; judged = ap (λ (r : Result Note NoteRefusal). r >>= done) p.passed }) where
  here : i ≡ id
  here = cc

  done : Note → Result Effect NoteRefusal
  done n = Ok (changed S i (commented n (comment_of caller t (command.Reopen i text))))

  p : IsPassed S i (takes_reopening i)
  p = passes S i (takes_reopening i) done (reopening_same i) ok

-- ---- entries

abbrev pub notes_with : List Note → ℕ → Notes
notes_with notes last = record { notes = notes; last = last }

pub taken_ok : (S : Notes) (e : NoteEntry) → takes S e ≡ true → IsOk (judge S e.caller e.stamp e.command)
taken_ok S e taken = (both (is_ok (judge S e.caller e.stamp e.command)) (stamp_after S.last e.stamp == e.stamp) taken).0

pub taken_stamp : (S : Notes) (e : NoteEntry) → takes S e ≡ true → stamp_after S.last e.stamp ≡ e.stamp
taken_stamp S e taken = eqb-true (stamp_after S.last e.stamp) e.stamp (both (is_ok (judge S e.caller e.stamp e.command)) (stamp_after S.last e.stamp == e.stamp) taken).1

-- its stamp is bounded where the last one is
pub stamp_timely : (S : Notes) (e : NoteEntry) → takes S e ≡ true → IsTimelyMoment S.last → IsTimelyMoment e.stamp
stamp_timely S e taken last = let is = taken_stamp S e taken in let bound : stamp_after S.last e.stamp ≤ MOMENT_LIMIT = omega (arith, last) in omega (arith, is, bound)

-- what it leaves
pub after-is : (S : Notes) (e : NoteEntry) (done : Effect) → takes S e ≡ true → judge S e.caller e.stamp e.command ≡ Ok done → after S e ≡ record done.state { last = e.stamp }
after-is S e done taken judged =
    ap (λ (t : ℕ). settled S t (judge S e.caller t e.command)) (taken_stamp S e taken) ∙ ap (λ (r : Result Effect NoteRefusal). settled S e.stamp r) judged

-- an entry that names a note has it
pub taken_within : (S : Notes) (e : NoteEntry) (id : ℕ) → subject_of e.command ≡ Known id → takes S e ≡ true → (0 < id) × (id ≤ length S.notes)
taken_within S e id named taken =
    let on = on_note S e.caller e.stamp e.command id named (taken_ok S e taken) in
    note_within S id on.found on.at

-- ---- answers of tests

-- a command that is accepted where a test of its note is passed
pub judged_by :
    (r : Result (Unit {0}) NoteRefusal) (first : Result Note NoteRefusal) (f : Note → Effect)
    → MatchResult r (λ _. IsOk first) (λ refusal. first ≡ Err refusal)
    → MatchResult r (λ _. IsOk (first >>= λ n. Ok (f n))) (λ refusal. first >>= (λ n. Ok (f n)) ≡ Err refusal)
judged_by (Ok u) (Ok n) f h = refl
judged_by (Ok u) (Err e) f h = cc
judged_by (Err e) first f h = ap (λ (x : Result Note NoteRefusal). x >>= accept) h where
  accept : Note → Result Effect NoteRefusal
  accept n = Ok (f n)

-- a command that opens a note is accepted
pub opens :
    (S : Notes) (caller : Option Owner) (t : ℕ) (c : NoteCommand) (at : Position)
    → subject_of c ≡ New at
    → judge S caller t c ≡ Ok (with_note S (opened at (comment_of caller t c)))
opens S caller t (command.OpenNote here text) at named = let same : here ≡ at = cc in ap (λ (p : Position). done p) same where
  done : Position → Result Effect NoteRefusal
  done p = Ok (with_note S (opened p (comment_of caller t (command.OpenNote here text))))
opens S caller t (command.Comment id text) at named = cc
opens S caller t (command.CloseNote id text) at named = cc
opens S caller t (command.Reopen id text) at named = cc

-- the moment of an entry that is there
pub moment_of : (e : NoteEntry) → IsTimelyMoment e.stamp → ForSome (Some e) (λ x. IsTimelyMoment x.stamp)
moment_of e timely x is = let same : e ≡ x = cc in subst (λ (y : NoteEntry). IsTimelyMoment y.stamp) same timely

-- a number has one note
pub same_note : (S : Notes) (id : ℕ) (m n : Note) → note S id ≡ Some m → note S id ≡ Some n → m ≡ n
same_note S id m n one other = let both : Some m ≡ Some n = sym one ∙ other in cc
