-- What a load comes to, from what its requests do.
use Rattle.std.proofs.Common.{◌≡◌, ℕ, List, [], Result, Ok, Err, IfOk, length, sym, ap, subst, ◌∙◌}
use Rattle.osm_base.specs.declared.memory.Memory.{Memory}
use Rattle.osm_model.specs.declared.commands.Entry.{Entry}
use Rattle.osm_model.specs.Journal.{IsLegal, replay}
use Rattle.workload.specs.Figures.{figures_of}
use Rattle.user_table.specs.Users.{Users}
use Rattle.journal_text.specs.Text.{text_of}
use Rattle.workload.specs.declared.sent.Sent.{Sent}
use Rattle.workload.specs.Request.{requests}
use Rattle.workload.specs.Users.{AreUsersOf}
use Rattle.osm_serve.specs.declared.play.Played.{Played}
use Rattle.osm_serve.specs.declared.sending.Replies.{Replies}
use Rattle.osm_serve.proofs.DoneLemmas.{all_done}
use Rattle.osm_serve.specs.Played.{AreReplied, IsPlayed, Plays}
use Rattle.osm_serve.specs.Export.{IsExport}

pub plays : (seed sessions uploads : ℕ) (users given : Users) (load : List Sent) (old new : List Entry) (replies : Replies)
    → AreUsersOf sessions users → given ≡ users → load ≡ requests seed sessions uploads → old ≡ []
    → IsLegal new → AreReplied given load old new replies → Plays seed sessions uploads new replies
plays seed sessions uploads users given load old new replies table same load_is old_is legal sent =
    let by_users = subst (λ (rows : Users). AreReplied rows load old new replies) same sent in
    let of_load = subst (λ (list : List Sent). AreReplied users list old new replies) load_is by_users in
    let from_start = subst (λ (entries : List Entry). AreReplied users (requests seed sessions uploads) entries new replies) old_is of_load in
    record {
      users = users;
      table = table;
      legal = legal;
      sent = from_start;
      done = λ none. all_done users (requests seed sessions uploads) [] new from_start.statuses from_start.sent (sym from_start.lacking ∙ none);
    }

-- its numbers, from what was sent to a desk over a book that was empty
pub played_of : (seed sessions uploads : ℕ) (users given : Users) (load : List Sent) (old new : List Entry) (result : Result Played Memory)
    → AreUsersOf sessions users → given ≡ users → load ≡ requests seed sessions uploads → old ≡ []
    → IfOk result (λ played. IsLegal new × AreReplied given load old new played.replies × (played.figures ≡ figures_of (replay new).elements (length new)))
    → IfOk result (IsPlayed seed sessions uploads)
played_of seed sessions uploads users given load old new (Ok played) table same load_is old_is (legal, sent, figures) = record {
  journal = new;
  plays = plays seed sessions uploads users given load old new played.replies table same load_is old_is legal sent;
  figures = figures;
}
played_of seed sessions uploads users given load old new (Err memory) table same load_is old_is made = tt

-- the text of a desk's journal, where no reply told of want of memory
pub text_at : (given : Users) (load : List Sent) (old new shown : List Entry) (replies : Replies) (result : Result (List ℕ) Memory)
    → AreReplied given load old new replies → replies.lacking ≡ 0 → IsLegal new → shown ≡ new
    → IfOk result (λ bytes. bytes ≡ text_of shown)
    → IfOk result (λ bytes. (r : Replies) × (r.lacking ≡ 0) × IsLegal new × AreReplied given load old new r × (bytes ≡ text_of new))
text_at given load old new shown replies (Ok bytes) sent none legal same is = (replies, none, legal, sent, is ∙ ap text_of same)
text_at given load old new shown replies (Err memory) sent none legal same is = tt

-- and the text of the journal of the run
pub exported : (seed sessions uploads : ℕ) (users given : Users) (load : List Sent) (old new : List Entry) (result : Result (List ℕ) Memory)
    → AreUsersOf sessions users → given ≡ users → load ≡ requests seed sessions uploads → old ≡ []
    → IfOk result (λ bytes. (r : Replies) × (r.lacking ≡ 0) × IsLegal new × AreReplied given load old new r × (bytes ≡ text_of new))
    → IfOk result (IsExport seed sessions uploads)
exported seed sessions uploads users given load old new (Ok bytes) table same load_is old_is (replies, none, legal, sent, is) =
    let played = plays seed sessions uploads users given load old new replies table same load_is old_is legal sent in
    record {
      journal = new;
      replies = replies;
      plays = played;
      none_lacking = none;
      done = played.done none;
      text_is = is;
    }
exported seed sessions uploads users given load old new (Err memory) table same load_is old_is made = tt
