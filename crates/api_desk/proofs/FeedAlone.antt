-- A call of the feed, answered by all of a journal that stays.
use Rattle.std.proofs.Common.{◌≡◌, ℕ, List, Some, None, Result, Ok, Err, refl, sym, ap, ◌∙◌, subst, inl, arith}
use Rattle.std.specs.Prelude.{IfOk}
use Rattle.std.proofs.Math.Seq.{take-length}
use Rattle.osm_base.specs.declared.memory.Memory.{Memory}
use Rattle.osm_model.specs.Answered.{all_of}
use Rattle.osm_model.specs.declared.commands.Entry.{Entry}
use Rattle.http_link.specs.declared.desk.Reply.{Reply}
use Rattle.http_link.specs.Desk.{counted_reply}
use Rattle.http_wire.specs.declared.message.Message.{Message}
use Rattle.user_table.specs.Users.{Users}
use Rattle.api_desk.specs.declared.feed.FeedCall.{FeedCall}
use Rattle.api_desk.specs.Answered.{IsRow}
use Rattle.api_desk.specs.Answers.{AnswersAlone, reply_of}
use Rattle.api_desk.specs.Feed.{fed}
use Rattle.api_desk.specs.Request.{Ask, of_feed, request_of}
use Rattle.api_desk.proofs.Replies.{stays_alone, memory_stays}

pub feed_answers :
    (users : Users) (s : ℕ) (es : List Entry) (message : Message) (moment : ℕ) (call : FeedCall) (result : Result Reply Memory)
    → request_of users message ≡ of_feed call
    → IfOk result (λ reply. reply ≡ reply_of (Some (fed es call)))
    → AnswersAlone users s es es message moment (counted_reply result)
feed_answers users s es message moment call (Ok reply) asks text = stays_alone users s es message moment reply (record {
  answer = Some (fed es call);
  row = subst
      (λ (q : Ask). IsRow es s (all_of s es) q moment (Some (fed es call)) (all_of s es))
      (sym asks)
      (inl (record {
        later = omega arith;
        told = ap (λ (seen : List Entry). Some (fed seen call)) (sym (take-length es));
        calls = refl;
        debts = refl;
      }));
  text = text;
})
feed_answers users s es message moment call (Err memory) asks text =
    stays_alone users s es message moment (reply_of None) (memory_stays users s es (all_of s es) message moment)
