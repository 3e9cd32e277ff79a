-- The laws of the notes' rules that no call has to meet.
use Rattle.std.proofs.Common.{◌≡◌, ℕ, ◌+◌, ◌-◌, ◌<◌, ◌≤◌, Bool, true, false, List, [], ◌∷◌, ◌++◌, length, Option, Some, None, Result, Ok, Err, refl, ap, subst, arith}
use Rattle.std.specs.Prelude.{IfSome, ◌&&◌, ◌==◌, is_ok, nat_lt, slice_get, if◌then◌else◌}
use Rattle.std.specs.Option.{option_map_or}
use Rattle.std.proofs.lemmas.Bool.Decides.{nat_tests}
use Rattle.std.proofs.lemmas.List.Elements.{All-nil, All-get_or, All-push, All-set}
use Rattle.std.proofs.lemmas.Option.{get_or_from_slice_get, slice_get_within}
use Rattle.osm_base.specs.Outcome.{◌>>=◌}
use Rattle.osm_base.specs.Stamp.{stamp_after}
use Rattle.osm_base.specs.declared.limits.TheConstants.{COMMENT_LIMIT}
use Rattle.osm_base.specs.declared.people.Owner.{Owner}
use Rattle.machine_law.specs.declared.tags.Tag.{Tag}
use Rattle.notes_core.specs.Act.{Effect, note, known, still_open, not_full, now_closed, takes_comment, takes_reopening, changed, commented, closed_by, comment_of, opened, judge, settled, empty, after, takes, entry_of}
use Rattle.notes_core.specs.Bound.{IsBounded, AreBounded, most_comments}
use Rattle.notes_core.specs.Machine.{act_as, entry_if, tag_of}
use Rattle.notes_core.specs.declared.commands.NoteAsked.{NoteAsked}
use Rattle.notes_core.specs.declared.commands.NoteCommand.{NoteCommand}
use Rattle.notes_core.specs.declared.commands.NoteCommand.TheVariants as command
use Rattle.notes_core.specs.declared.commands.NoteEntry.{NoteEntry}
use Rattle.notes_core.specs.declared.notes.Note.{Note}
use Rattle.notes_core.specs.declared.notes.NoteComment.{NoteComment}
use Rattle.notes_core.specs.declared.notes.NoteRefusal.{NoteRefusal}
use Rattle.notes_core.specs.declared.notes.NoteRefusal.TheVariants as refused
use Rattle.notes_core.specs.declared.notes.Notes.{Notes}

both : (a b : Bool) → a ≡ true → b ≡ true → (a && b) ≡ true
both true b is also = also
both false b is also = is

stamp_again : (last moment : ℕ) → (stamp_after last (stamp_after last moment) == stamp_after last moment) ≡ true
stamp_again last moment = same _ _ (omega arith) where
  same : (a b : ℕ) → a ≡ b → (a == b) ≡ true
  same a b e = grind (arith, nat_tests)

-- the entry of an accepted command may come next, and carries the tag
pub accepted_taken :
    (S : Notes) (tag : Tag) (moment : ℕ) (asked : NoteAsked)
    → IfSome (act_as S tag moment asked).entry (λ e. (takes S e ≡ true) × (tag_of e ≡ tag))
accepted_taken S tag moment asked = go (judge S asked.caller at asked.command) refl where
  at : ℕ
  at = stamp_after S.last moment

  entry : NoteEntry
  entry = entry_of S tag.session tag.call asked.caller moment asked.command

  go : (judged : Result Effect NoteRefusal) → judge S asked.caller at asked.command ≡ judged → IfSome (entry_if judged entry) (λ e. (takes S e ≡ true) × (tag_of e ≡ tag))
  go (Ok done) is = (both (is_ok (judge S asked.caller at asked.command)) (stamp_after S.last at == at) (ap (λ (r : Result Effect NoteRefusal). is_ok r) is) (stamp_again S.last moment), refl)
  go (Err r) is = tt

-- ---- how many comments a note has

abbrev as_ok : Note → Result Note NoteRefusal
as_ok n = Ok n

abbrev pick : Notes → Bool → ℕ → Option Note
pick S b k = if b then None else slice_get S.notes k

bounded_at : (S : Notes) (id : ℕ) (n : Note) → AreBounded S → note S id ≡ Some n → IsBounded n
bounded_at S id n all is = go (id == 0) (id - 1) is where
  go : (b : Bool) (k : ℕ) → pick S b k ≡ Some n → IsBounded n
  go true k at = cc
  go false k at = subst IsBounded (get_or_from_slice_get S.notes k n n at) (All-get_or IsBounded S.notes k n (slice_get_within S.notes k n at) all)

-- a step that was passed behind another
record IsBehind {A B : Type 0} (first : Result A NoteRefusal) (second : A → Result B NoteRefusal) (end : B) : Type 0 where
  between : A
  before : first ≡ Ok between
  behind : second between ≡ Ok end

is_behind : {A B : Type 0} (first : Result A NoteRefusal) (second : A → Result B NoteRefusal) (end : B) → first >>= second ≡ Ok end → IsBehind first second end
is_behind (Ok a) second end is = record { between = a; before = refl; behind = is }
is_behind (Err e) second end is = cc

known_there : (S : Notes) (id : ℕ) (n : Note) → known S id ≡ Ok n → note S id ≡ Some n
known_there S id n is = go (note S id) refl is where
  go : (o : Option Note) → note S id ≡ o → option_map_or as_ok o (Err (refused.NoNote id)) ≡ Ok n → note S id ≡ Some n
  go None at is = cc
  go (Some m) at is = let same : m ≡ n = cc in subst (λ (x : Note). note S id ≡ Some x) same at

-- one that passes as open is so, and is the same note
open_there : (id : ℕ) (n m : Note) → still_open id n ≡ Ok m → (n ≡ m) × (n.closed ≡ None)
open_there id n m is = go n.closed is where
  go : (closed : Option ℕ) → option_map_or (λ at. Err (refused.NoteClosed at id)) closed (as_ok n) ≡ Ok m → (n ≡ m) × (closed ≡ None)
  go None is = let same : n ≡ m = cc in (same, refl)
  go (Some at) is = cc

room_there : (id : ℕ) (n m : Note) → not_full id n ≡ Ok m → length m.comments < COMMENT_LIMIT
room_there id n m is = go (nat_lt (length n.comments) COMMENT_LIMIT) refl is where
  go : (b : Bool) → nat_lt (length n.comments) COMMENT_LIMIT ≡ b → (if b then Ok n else Err (refused.NoteFull id)) ≡ Ok m → length m.comments < COMMENT_LIMIT
  go true few is = let same : n ≡ m = cc in subst (λ (x : Note). length x.comments < COMMENT_LIMIT) same (grind (arith, nat_tests, few))
  go false few is = cc

length_more : (cs : List NoteComment) (c : NoteComment) → length (cs ++ c ∷ []) ≡ length cs + 1
length_more [] c = refl
length_more (d ∷ cs) c = let more = length_more cs c in omega (arith, more)

-- a note that passes a test is put back with one comment more
changed_bounded :
    (S : Notes) (id t : ℕ) (tested : Result Note NoteRefusal) (c : NoteComment)
    → AreBounded S
    → ((n : Note) → tested ≡ Ok n → length n.comments + 1 ≤ most_comments (closed_by c))
    → AreBounded (settled S t (tested >>= λ n. Ok (changed S id (commented n c))))
changed_bounded S id t (Ok n) c all few =
    let enough = few n refl in
    let more = length_more n.comments c in
    let bounded : IsBounded (commented n c) = omega (arith, enough, more) in
    All-set IsBounded S.notes (id - 1) (commented n c) bounded all
changed_bounded S id t (Err e) c all few = all

judged_bounded : (S : Notes) (caller : Option Owner) (t : ℕ) (c : NoteCommand) → AreBounded S → AreBounded (settled S t (judge S caller t c))
judged_bounded S caller t (command.OpenNote at text) all =
    let first = comment_of caller t (command.OpenNote at text) in
    let one : IsBounded (opened at first) = omega arith in
    All-push IsBounded S.notes (opened at first) all one
judged_bounded S caller t (command.Comment id text) all = changed_bounded S id t (known S id >>= takes_comment id) (comment_of caller t (command.Comment id text)) all few where
  few : (n : Note) → known S id >>= takes_comment id ≡ Ok n → length n.comments + 1 ≤ COMMENT_LIMIT
  few n is =
      let one = is_behind (known S id) (takes_comment id) n is in
      let two = is_behind (still_open id one.between) (not_full id) n one.behind in
      let less = room_there id two.between n two.behind in
      omega (arith, less)
judged_bounded S caller t (command.CloseNote id text) all = changed_bounded S id t (known S id >>= still_open id) (comment_of caller t (command.CloseNote id text)) all few where
  few : (n : Note) → known S id >>= still_open id ≡ Ok n → length n.comments + 1 ≤ COMMENT_LIMIT + 1
  few n is =
      let one = is_behind (known S id) (still_open id) n is in
      let is_open = open_there id one.between n one.behind in
      let bounded = bounded_at S id one.between all (known_there S id one.between one.before) in
      let so_far : length one.between.comments ≤ most_comments None = subst (λ (closed : Option ℕ). length one.between.comments ≤ most_comments closed) is_open.1 bounded in
      let enough : length n.comments ≤ COMMENT_LIMIT = subst (λ (x : Note). length x.comments ≤ COMMENT_LIMIT) is_open.0 so_far in
      omega (arith, enough)
judged_bounded S caller t (command.Reopen id text) all = changed_bounded S id t (known S id >>= takes_reopening id) (comment_of caller t (command.Reopen id text)) all few where
  few : (n : Note) → known S id >>= takes_reopening id ≡ Ok n → length n.comments + 1 ≤ COMMENT_LIMIT
  few n is =
      let one = is_behind (known S id) (takes_reopening id) n is in
      let two = is_behind (now_closed id one.between) (not_full id) n one.behind in
      let less = room_there id two.between n two.behind in
      omega (arith, less)

-- no note has more comments than it may have at the start, nor after any entry
pub empty_bounded : AreBounded empty
empty_bounded = All-nil IsBounded

pub after_bounded : (S : Notes) (e : NoteEntry) → takes S e ≡ true → AreBounded S → AreBounded (after S e)
after_bounded S e taken all = judged_bounded S e.caller (stamp_after S.last e.stamp) e.command all
