-- One request after another.
use Rattle.std.proofs.Common.{◌≡◌, ℕ, ◌+◌, Bool, true, false, List, [], ◌∷◌, ◌++◌, length, Option, refl, sym, ap, subst, ◌∙◌, append_assoc, length-append, arith}
use Rattle.std.specs.Int.{from_bool}
use Rattle.std.specs.Prelude.{count_by, cond}
use Rattle.std.proofs.lemmas.List.{append-nil}
use Rattle.std.proofs.lemmas.List.Sums.{sum_by-append}
use Rattle.osm_model.specs.declared.commands.Entry.{Entry}
use Rattle.user_table.specs.Users.{Users}
use Rattle.workload.specs.declared.sent.Sent.{Sent}
use Rattle.osm_serve.specs.Sending.{IsSent, AreSent, refuses, lacks_memory}
use Rattle.osm_serve.specs.Played.{AreReplied}
use Rattle.osm_serve.specs.declared.sending.Replies.{Replies}

-- Whatever the rest comes to from here, the whole comes to from the start.
abbrev pub Goes : Users → List Sent → List Entry → List Sent → List Entry → List (Option ℕ) → Type 0
Goes users all old rest now done =
    (new : List Entry) (later : List (Option ℕ)) → AreSent users rest now new later → AreSent users all old new (done ++ later)

-- so many requests were sent, and these are the numbers of their replies so far
pub record IsAt (users : Users) (all : List Sent) (old : List Entry) (rest : List Sent) (now : List Entry) (replies : Replies) : Type 0 where
  pub done : List (Option ℕ)
  pub goes : Goes users all old rest now done
  pub counted : length done + length rest ≡ replies.all
  pub refused : replies.refused ≡ count_by refuses done
  pub lacking : replies.lacking ≡ count_by lacks_memory done

-- nothing is sent yet
pub begun : (users : Users) (all : List Sent) (old : List Entry) (replies : Replies) → replies.all ≡ length all
    → replies.refused ≡ 0 → replies.lacking ≡ 0 → IsAt users all old all old replies
begun users all old replies counted refused lacking = record {
  done = [];
  goes = λ new later sent. sent;
  counted = omega (arith, counted);
  refused = refused;
  lacking = lacking;
}

-- nothing is left
pub all_sent : (users : Users) (all : List Sent) (old : List Entry) (rest : List Sent) (now : List Entry) (replies : Replies)
    → rest ≡ [] → IsAt users all old rest now replies → AreReplied users all old now replies
all_sent users all old rest now replies is at =
    let none : AreSent users rest now now [] = rw is refl in
    let counted = at.counted in
    let size = ap length is in
    record {
      statuses = at.done;
      sent = subst (λ (statuses : List (Option ℕ)). AreSent users all old now statuses) (append-nil at.done) (at.goes now [] none);
      all = omega (arith, counted, size);
      refused = at.refused;
      lacking = at.lacking;
    }

more_counted : (p : Option ℕ → Bool) (done : List (Option ℕ)) (status : Option ℕ) (count : ℕ) → count ≡ count_by p done
    → count + cond (p status) 1 0 ≡ count_by p (done ++ status ∷ [])
more_counted p done status count is =
    let sum : count_by p (done ++ status ∷ []) ≡ count_by p done + (0 + cond (p status) 1 0) = sum_by-append (λ (x : Option ℕ). cond (p x) 1 0) done (status ∷ []) in
    omega (arith, is, sum)

one_if : (holds : Bool) → from_bool holds ≡ 0 + cond holds 1 0
one_if true = refl
one_if false = refl

-- a test that is added as a number
pub added : (count byte : ℕ) (said holds : Bool) → byte ≡ from_bool said → said ≡ holds → count + byte ≡ count + cond holds 1 0
added count byte said holds is same =
    let number : byte ≡ 0 + cond holds 1 0 = is ∙ ap from_bool same ∙ one_if holds in
    omega (arith, number)

-- one request more
pub one_more : (users given : Users) (all : List Sent) (old : List Entry) (rest : List Sent) (before : List Entry) (replies later : Replies)
    (sent : Sent) (more : List Sent) (now : List Entry) (status : Option ℕ) → given ≡ users → rest ≡ sent ∷ more
    → IsSent given sent before now status → later.all ≡ replies.all → later.refused ≡ replies.refused + cond (refuses status) 1 0
    → later.lacking ≡ replies.lacking + cond (lacks_memory status) 1 0
    → IsAt users all old rest before replies → IsAt users all old more now later
one_more users given all old rest before replies later sent more now status same is one all_is refused lacking at =
    let one_is : IsSent users sent before now status = subst (λ (rows : Users). IsSent rows sent before now status) same one in
    let counted = at.counted in
    let size = ap length is in
    let longer = length-append at.done (status ∷ []) in
    record {
      done = at.done ++ status ∷ [];
      goes = λ new statuses sent_more.
          let whole : AreSent users rest before new (status ∷ statuses) = rw is (now, one_is, sent_more) in
          subst (λ (list : List (Option ℕ)). AreSent users all old new list) (sym (append_assoc at.done (status ∷ []) statuses)) (at.goes new (status ∷ statuses) whole);
      counted = omega (arith, counted, size, longer, all_is);
      refused = refused ∙ more_counted refuses at.done status replies.refused at.refused;
      lacking = lacking ∙ more_counted lacks_memory at.done status replies.lacking at.lacking;
    }
