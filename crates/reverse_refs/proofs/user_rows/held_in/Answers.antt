use Rattle.std.proofs.Common.{ap, ◌∙◌, Option}
use Rattle.std.specs.Option.{unwrap_or}
use Rattle.std.proofs.lemmas.Option.{unwrap_or-slice_get}
use Rattle.reverse_refs.specs.declared.held.Held.{Held}
use Rattle.reverse_refs.specs.declared.held.Held.TheVariants.{Nothing}
use Rattle.reverse_refs.proofs.user_rows.held_in.Goals as goal

pub returns-in-None : goal.returns-in-None
returns-in-None c = ap (λ (found : Option Held). unwrap_or found Nothing) c.in-None.ensures ∙ unwrap_or-slice_get c.args.rows.now c.args.place Nothing
