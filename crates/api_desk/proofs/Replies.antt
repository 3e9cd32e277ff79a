-- What one request is answered, whatever it comes to.
use Rattle.std.proofs.Common.{◌≡◌, ℕ, ◌+◌, length, arith, List, [], ◌∷◌, ◌++◌, Some, None, Result, Ok, Err, refl, sym, ap, ◌∙◌, subst, inl, append-nil}
use Rattle.std.specs.Prelude.{IfOk, OnOk, OnErr}
use Rattle.osm_base.specs.declared.memory.Memory.{Memory}
use Rattle.osm_base.specs.declared.people.User.{User}
use Rattle.osm_change.specs.declared.answers.Answer.TheVariants.{Refused}
use Rattle.osm_change.specs.declared.refusals.Refusal.{Refusal}
use Rattle.osm_model.specs.declared.commands.Command.{Command}
use Rattle.osm_model.specs.declared.commands.Entry.{Entry}
use Rattle.osm_model.specs.Act.{Effect, act, judge}
use Rattle.osm_model.specs.Journal.{replay, calls_of, appended, journal_after, next_entry}
use Rattle.osm_model.specs.Ask.{ask}
use Rattle.osm_model.specs.Answered.{refused, does, reads, Place, all_of, stamp_on}
use Rattle.osm_model.specs.declared.queries.Query.{Query}
use Rattle.http_wire.specs.declared.message.Message.{Message}
use Rattle.http_link.specs.declared.desk.Reply.{Reply}
use Rattle.http_link.specs.Desk.{counted_reply}
use Rattle.user_table.specs.Users.{Users}
use Rattle.api_desk.specs.Request.{Ask, of_map, request_of}
use Rattle.api_desk.specs.Answered.{IsRow}
use Rattle.api_desk.specs.Answers.{Answers, AnswersAlone, reply_of}
use Rattle.api_desk.specs.Feed.{says}
use Rattle.api_desk.proofs.Answered.{lacks}
use Rattle.api_desk.proofs.Rows.{row_of_act, row_of_ask, calls_of-next}

-- what is refused by itself, and want of memory, leave a session where it stands

pub memory_stays : (users : Users) (s : ℕ) (F : List Entry) (p : Place) (message : Message) (moment : ℕ) → Answers users s F p message moment (reply_of None) p
memory_stays users s F p message moment = record { answer = None; row = lacks F s p (request_of users message) moment; text = refl }

pub refusal_stays :
    (users : Users) (s : ℕ) (F : List Entry) (p : Place) (message : Message) (moment : ℕ) (r : Refusal) (result : Result Reply Memory)
    → request_of users message ≡ of_map (refused r)
    → IfOk result (λ reply. reply ≡ reply_of (Some (says (Refused r))))
    → Answers users s F p message moment (counted_reply result) p
refusal_stays users s F p message moment r (Ok reply) asks text = record {
  answer = Some (says (Refused r));
  row = subst
      (λ (q : Ask). IsRow F s p q moment (Some (says (Refused r))) p)
      (sym asks)
      (record { answer = Some (Refused r); told = refl; row = inl (record { told = refl; stays = refl }) });
  text = text;
}
refusal_stays users s F p message moment r (Err memory) asks text = memory_stays users s F p message moment

-- a journal keeps what it had, and gets no entry but one of the session
record Grows (s : ℕ) (old new : List Entry) : Type 0 where
  more : List Entry
  grown : new ≡ old ++ more
  own : calls_of s new ≡ calls_of s old + length more

grows_by_nothing : (s : ℕ) (es : List Entry) → Grows s es es
grows_by_nothing s es = record { more = []; grown = sym (append-nil es); own = omega arith }

grows_by_nothing_own : (s : ℕ) (es : List Entry) → calls_of s es ≡ calls_of s es + length {A = Entry} []
grows_by_nothing_own s es = omega arith

appended_grows :
    (es : List Entry) (e : Entry) (j : Result Effect Refusal)
    → Grows e.session es (appended es e j)
appended_grows es e (Ok done) = record { more = e ∷ []; grown = refl; own = calls_of-next es e }
appended_grows es e (Err r) = grows_by_nothing e.session es

-- who stays where it stands, on all of a journal that stays
pub stays_alone :
    (users : Users) (s : ℕ) (es : List Entry) (message : Message) (moment : ℕ) (reply : Reply)
    → Answers users s es (all_of s es) message moment reply (all_of s es)
    → AnswersAlone users s es es message moment reply
stays_alone users s es message moment reply answers = record {
  answers = answers;
  more = [];
  grown = sym (append-nil es);
  own = grows_by_nothing_own s es;
}

-- want of memory leaves the journal
memory_answers :
    (users : Users) (s : ℕ) (old new : List Entry) (message : Message) (moment : ℕ)
    → new ≡ old
    → AnswersAlone users s old new message moment (reply_of None)
memory_answers users s old new message moment same =
    subst
    (λ (es : List Entry). AnswersAlone users s old es message moment (reply_of None))
    (sym same)
    (stays_alone users s old message moment (reply_of None) (memory_stays users s old (all_of s old) message moment))

-- a command
pub change_answers :
    (users : Users) (s : ℕ) (old new : List Entry) (message : Message) (moment : ℕ) (user : User) (c : Command)
    (result : Result Reply Memory)
    → request_of users message ≡ of_map (does user c)
    → IfOk result (λ reply. reply ≡ reply_of (Some (says (act (replay old) user moment c).1)))
    → OnOk result (new ≡ journal_after old s user moment c)
    → OnErr result (new ≡ old)
    → AnswersAlone users s old new message moment (counted_reply result)
change_answers users s old new message moment user c (Ok reply) asks text after same =
    let grows = appended_grows old (next_entry old s user moment c) (judge (replay old) user (stamp_on (replay old) moment) c) in
    record {
      answers = record {
        answer = Some (says (act (replay old) user moment c).1);
        row = subst
            (λ (es : List Entry). IsRow es s (all_of s old) (request_of users message) moment (Some (says (act (replay old) user moment c).1)) (all_of s es))
            (sym after)
            (subst
            (λ (q : Ask). IsRow (journal_after old s user moment c) s (all_of s old) q moment (Some (says (act (replay old) user moment c).1)) (all_of s (journal_after old s user moment c)))
            (sym asks)
            (record { answer = Some (act (replay old) user moment c).1; told = refl; row = row_of_act old s user moment c }));
        text = text;
      };
      more = grows.more;
      grown = after ∙ grows.grown;
      own = ap (calls_of s) after ∙ grows.own;
    }
change_answers users s old new message moment user c (Err memory) asks text after same = memory_answers users s old new message moment same

-- a query
pub query_answers :
    (users : Users) (s : ℕ) (es : List Entry) (message : Message) (moment : ℕ) (q : Query) (result : Result Reply Memory)
    → request_of users message ≡ of_map (reads q)
    → IfOk result (λ reply. reply ≡ reply_of (Some (says (ask (replay es) moment q))))
    → AnswersAlone users s es es message moment (counted_reply result)
query_answers users s es message moment q (Ok reply) asks text = stays_alone users s es message moment reply (record {
  answer = Some (says (ask (replay es) moment q));
  row = subst
      (λ (r : Ask). IsRow es s (all_of s es) r moment (Some (says (ask (replay es) moment q))) (all_of s es))
      (sym asks)
      (record { answer = Some (ask (replay es) moment q); told = refl; row = row_of_ask es s moment q });
  text = text;
})
query_answers users s es message moment q (Err memory) asks text = memory_answers users s es es message moment refl
