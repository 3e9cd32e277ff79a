-- A whole session of a desk.
use Rattle.std.proofs.Common.{◌≡◌, ℕ, ◌+◌, List, [], ◌∷◌, ◌++◌, length, refl, sym, ap, ◌∙◌, subst, arith, append_assoc, append-nil, length-append}
use Rattle.osm_model.specs.declared.commands.Entry.{Entry}
use Rattle.osm_model.specs.Journal.{calls_of}
use Rattle.osm_model.specs.Answered.{all_of}
use Rattle.http_link.specs.Exchange.{Exchange, Chain}
use Rattle.user_table.specs.Users.{Users}
use Rattle.api_desk.specs.declared.desk.OneDesk.{OneDesk}
use Rattle.api_desk.specs.Request.{request_of}
use Rattle.api_desk.specs.Answered.{IsRow}
use Rattle.api_desk.specs.Answers.{AreAnswered}
use Rattle.api_desk.specs.Desk.{Allows, HasServed, entries_of, users_of, session_of}
use Rattle.api_desk.specs.Longer.{row-longer}

-- no exchange
none_answered : (old new : OneDesk) → new ≡ old → HasServed old [] new
none_answered old new same = subst (λ (d : OneDesk). HasServed old [] d) (sym same) (record {
  answered = record { asked = []; told = tt; answered = (refl, omega arith) };
  legal = λ legal. legal;
  more = [];
  grown = sym (append-nil (entries_of old));
  own = omega arith;
})

-- one exchange, and then what a session of the desk that it left has done
one_more :
    (old mid new : OneDesk) (e : Exchange) (es : List Exchange)
    → Allows old e.message e.moment e.answer mid
    → HasServed mid es new
    → HasServed old (e ∷ es) new
one_more old mid new e es allowed rest =
    let alone = allowed.answers in
    let a = alone.answers in
    let s : ℕ = session_of old in
    let grown : entries_of new ≡ entries_of mid ++ rest.more = rest.grown in
    let row : IsRow (entries_of new) s (all_of s (entries_of old)) (request_of (users_of old) e.message) e.moment a.answer (all_of s (entries_of mid)) =
    subst
    (λ (F : List Entry). IsRow F s (all_of s (entries_of old)) (request_of (users_of old) e.message) e.moment a.answer (all_of s (entries_of mid)))
    (sym grown)
    (row-longer (entries_of mid) rest.more s _ _ _ _ _ (omega arith) a.row)
    in
    let later : AreAnswered (users_of old) (session_of mid) (entries_of new) (all_of (session_of mid) (entries_of mid)) es (all_of (session_of mid) (entries_of new)) =
    subst
    (λ (users : Users). AreAnswered users (session_of mid) (entries_of new) (all_of (session_of mid) (entries_of mid)) es (all_of (session_of mid) (entries_of new)))
    allowed.users
    rest.answered
    in
    let then_on : AreAnswered (users_of old) s (entries_of new) (all_of s (entries_of mid)) es (all_of s (entries_of new)) =
    subst
    (λ (n : ℕ). AreAnswered (users_of old) n (entries_of new) (all_of n (entries_of mid)) es (all_of n (entries_of new)))
    allowed.session
    later
    in
    let rest_own : calls_of s (entries_of new) ≡ calls_of s (entries_of mid) + length rest.more =
    subst
    (λ (n : ℕ). calls_of n (entries_of new) ≡ calls_of n (entries_of mid) + length rest.more)
    allowed.session
    rest.own
    in
    let own : calls_of s (entries_of new) ≡ calls_of s (entries_of old) + length (alone.more ++ rest.more) =
    omega (arith, rest_own, alone.own, length-append alone.more rest.more)
    in
    record {
      answered = record {
        asked = record { request = request_of (users_of old) e.message; moment = e.moment; reply = a.answer } ∷ then_on.asked;
        told = (record { request = refl; moment = refl; reply = a.text }, then_on.told);
        answered = (all_of s (entries_of mid), row, then_on.answered);
      };
      legal = λ legal. rest.legal (allowed.legal legal);
      more = alone.more ++ rest.more;
      grown = grown ∙ ap (λ (es : List Entry). es ++ rest.more) alone.grown ∙ append_assoc (entries_of old) alone.more rest.more;
      own = own;
    }

-- whatever the exchanges are
pub chain_serves : (old : OneDesk) (exchanges : List Exchange) (new : OneDesk) → Chain Allows old exchanges new → HasServed old exchanges new
chain_serves old [] new chain = none_answered old new chain
chain_serves old (e ∷ es) new chain = one_more old chain.0 new e es chain.1 (chain_serves chain.0 es new chain.2)
