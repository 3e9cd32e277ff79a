-- What an exit of a fault gives.
use Rattle.std.proofs.Common.{◌≡◌, Bool, List, ℕ}
use Rattle.std.specs.Prelude.{Result, Ok, Err, IfErr}
use Rattle.std.specs.Result.{IsErrAnd}
use Rattle.osm_model.specs.declared.commands.Entry.{Entry}
use Rattle.osm_outside.specs.Told.{Told, Rose}
use Rattle.osm_outside.specs.declared.outside.Failed.{Failed}
use Rattle.journal_input.specs.declared.faults.InputFault.{InputFault}
use Rattle.journal_input.specs.Going.{IsRestRead}
use Rattle.journal_input.specs.Input.{IsInputFault, IsRead, IsStopped}

pub at_exit : {X E : Type 0} (P : E → Type 0) (result : Result X E) (f : E) → IsErrAnd result (λ e. e ≡ f) → P f → IfErr result P
at_exit P (Ok x) f h k = tt
at_exit P (Err e) f h k = rw h k

pub read_exit : {X : Type 0} (result : Result X InputFault) (f : InputFault) (a c : Told) (journal : List Entry) → IsErrAnd result (λ e. e ≡ f) → IsInputFault f a c → IsRead a c journal result
read_exit (Ok x) f a c journal h k = absurd h
read_exit (Err e) f a c journal h k = rw h k

pub rest_exit : (result : Result Bool Failed) (f : Failed) (a c : Told) (text : List ℕ) → IsErrAnd result (λ e. e ≡ f) → IsStopped a c × Rose a.read_faults c.read_faults → IsRestRead result a c text
rest_exit (Ok x) f a c text h k = absurd h
rest_exit (Err e) f a c text h k = k
