-- What a map accepts makes an entry that it takes.
use Rattle.std.proofs.Common.{◌≡◌, ℕ, true, Ok, ap, arith}
use Rattle.std.specs.Prelude.{Result, is_ok, ◌==◌}
use Rattle.std.proofs.lemmas.Bool.{and_from, eq-eqb}
use Rattle.osm_base.specs.Stamp.{stamp_after}
use Rattle.osm_base.specs.declared.people.User.{User}
use Rattle.osm_change.specs.declared.refusals.Refusal.{Refusal}
use Rattle.osm_model.specs.declared.commands.Command.{Command}
use Rattle.osm_model.specs.declared.states.State.{State}
use Rattle.osm_model.specs.Act.{Effect, judge}
use Rattle.osm_model.specs.Journal.{takes, entry_of}

stamped_again : (last m : ℕ) → stamp_after last (stamp_after last m) ≡ stamp_after last m
stamped_again last m = omega arith

pub entry_taken :
    (P : State) (session call : ℕ) (user : User) (m : ℕ) (c : Command) (done : Effect)
    → judge P user (stamp_after P.last m) c ≡ Ok done
    → takes P (entry_of P session call user m c) ≡ true
entry_taken P session call user m c done accepted =
    and_from
    (is_ok (judge P user (stamp_after P.last m) c))
    (stamp_after P.last (stamp_after P.last m) == stamp_after P.last m)
    (ap (λ (judged : Result Effect Refusal). is_ok judged) accepted)
    (eq-eqb (stamp_after P.last (stamp_after P.last m)) (stamp_after P.last m) (stamped_again P.last m))
