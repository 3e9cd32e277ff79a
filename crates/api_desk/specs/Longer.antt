-- What is answered against the entries of a journal is so against more: a row stays a row.
use Rattle.std.proofs.Common.{◌≡◌, ℕ, suc, zero, ◌+◌, ◌<◌, ◌≤◌, inl, inr, ⊎_elim, List, [], ◌∷◌, ◌++◌, length, Option, Some, Ok, Err, sym, ap, ◌∙◌, subst, arith}
use Rattle.std.specs.Prelude.{slice_get}
use Rattle.std.proofs.lemmas.List.{take-append-le}
use Rattle.std.proofs.lemmas.Option.{slice_get_within}
use Rattle.osm_base.specs.declared.people.User.{User}
use Rattle.osm_change.specs.declared.answers.Answer.{Answer}
use Rattle.osm_model.specs.declared.commands.Command.{Command}
use Rattle.osm_model.specs.declared.commands.Entry.{Entry}
use Rattle.osm_model.specs.declared.queries.Query.{Query}
use Rattle.osm_model.specs.declared.states.State.{State}
use Rattle.osm_model.specs.Act.{judge}
use Rattle.osm_model.specs.Ask.{ask}
use Rattle.osm_model.specs.Journal.{replay}
use Rattle.osm_model.specs.Answered.{Request, refused, does, reads, Place, map_at, stamp_on, RefusesCommand, AcceptsCommand, AnswersQuery, IsRow as IsMapsRow}
use Rattle.api_desk.specs.declared.feed.FeedCall.{FeedCall}
use Rattle.api_desk.specs.Answered.{AnswersFeed, IsRow}
use Rattle.api_desk.specs.Feed.{Told, fed}
use Rattle.api_desk.specs.Request.{Ask, of_map, of_feed}

-- an item stays where it is when others follow
slice_get-append : {A : Type 0} (xs ys : List A) (n : ℕ) (x : A) → slice_get xs n ≡ Some x → slice_get (xs ++ ys) n ≡ Some x
slice_get-append [] ys n x found = cc
slice_get-append (z ∷ xs) ys zero x found = found
slice_get-append (z ∷ xs) ys (suc n) x found = slice_get-append xs ys n x found

map_at-append : (es more : List Entry) (n : ℕ) → n ≤ length es → map_at (es ++ more) n ≡ map_at es n
map_at-append es more n h = ap replay (take-append-le n es more h)

refuses-append :
    (F more : List Entry) (before after : Place) (user : User) (c : Command) (m : ℕ) (reply : Option Answer)
    → after.point ≤ length F
    → RefusesCommand F before user c m reply after
    → RefusesCommand (F ++ more) before user c m reply after
refuses-append F more before after user c m reply within row = record {
  refusal = row.refusal;
  later = row.later;
  judged = subst
      (λ (P : State). judge P user (stamp_on P m) c ≡ Err row.refusal)
      (sym (map_at-append F more after.point within))
      row.judged;
  told = row.told;
  calls = row.calls;
  debts = row.debts;
}

accepts-append :
    (F more : List Entry) (s : ℕ) (before after : Place) (user : User) (c : Command) (m : ℕ) (reply : Option Answer)
    → AcceptsCommand F s before user c m reply after
    → AcceptsCommand (F ++ more) s before user c m reply after
accepts-append F more s before after user c m reply row =
    let there : row.at < length F = slice_get_within F row.at _ row.entry in
    let within : row.at ≤ length F = omega (arith, there) in
    let same : map_at (F ++ more) row.at ≡ map_at F row.at = map_at-append F more row.at within in
    record {
      at = row.at;
      done = row.done;
      later = row.later;
      judged = subst (λ (P : State). judge P user (stamp_on P m) c ≡ Ok row.done) (sym same) row.judged;
      told = row.told;
      entry = slice_get-append F more row.at _ row.entry ∙ ap
          (λ (P : State). Some (record { session = s; call = before.calls + 1; user = user; stamp = stamp_on P m; command = c }))
          (sym same);
      comes_to = row.comes_to;
    }

answers-append :
    (F more : List Entry) (before after : Place) (q : Query) (m : ℕ) (reply : Option Answer)
    → after.point ≤ length F
    → AnswersQuery F before q m reply after
    → AnswersQuery (F ++ more) before q m reply after
answers-append F more before after q m reply within row = record {
  later = row.later;
  told = row.told ∙ ap (λ (P : State). Some (ask P m q)) (sym (map_at-append F more after.point within));
  calls = row.calls;
  debts = row.debts;
}

-- a row of the map
pub row-append :
    (F more : List Entry) (s : ℕ) (before after : Place) (q : Request) (m : ℕ) (reply : Option Answer)
    → after.point ≤ length F
    → IsMapsRow F s before q m reply after
    → IsMapsRow (F ++ more) s before q m reply after
row-append F more s before after (refused r) m reply within row = row
row-append F more s before after (does user c) m reply within row =
    ⊎_elim
    (λ refuses. inl (refuses-append F more before after user c m reply within refuses))
    (λ other. inr (⊎_elim (λ accepts. inl (accepts-append F more s before after user c m reply accepts)) (λ lacks. inr lacks) other))
    row
row-append F more s before after (reads q) m reply within row =
    ⊎_elim (λ answers. inl (answers-append F more before after q m reply within answers)) (λ lacks. inr lacks) row

feed-append : (F more : List Entry) (before after : Place) (call : FeedCall) (reply : Option Told)
    → after.point ≤ length F → AnswersFeed F before call reply after → AnswersFeed (F ++ more) before call reply after
feed-append F more before after call reply within row = record {
  later = row.later;
  told = row.told ∙ ap (λ (es : List Entry). Some (fed es call)) (sym (take-append-le after.point F more within));
  calls = row.calls;
  debts = row.debts;
}

-- a row of a journal is a row of each longer one
pub row-longer : (F more : List Entry) (s : ℕ) (before after : Place) (q : Ask) (m : ℕ) (reply : Option Told)
    → after.point ≤ length F → IsRow F s before q m reply after → IsRow (F ++ more) s before q m reply after
row-longer F more s before after (of_map request) m reply within row = record {
  answer = row.answer;
  told = row.told;
  row = row-append F more s before after request m row.answer within row.row;
}
row-longer F more s before after (of_feed call) m reply within row =
    ⊎_elim (λ answers. inl (feed-append F more before after call reply within answers)) (λ lacks. inr lacks) row
