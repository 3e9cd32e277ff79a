use Rattle.std.proofs.Common.{◌∙◌}
use Rattle.osm_base.specs.declared.keys.Kind.TheVariants.{Node}
use Rattle.osm_base.specs.declared.keys.Key.{Key}
use Rattle.reverse_refs.specs.Users.{free_in}
use Rattle.indexed_map.proofs.UseSteps.{forgotten_more}
use Rattle.indexed_map.proofs.promises.forget_uses.Goals as goal

pub loop-used-preserved : goal.loop-used-preserved
loop-used-preserved c =
    let d : Key = record { kind = Node; id = 0 } in
    record {
      users = λ b. c.forget.ensures.users b ∙ c.loop-used.invariant.users b;
      past = λ b. c.forget.ensures.past b ∙ c.loop-used.invariant.past b;
      room = λ b. forgotten_more c.args.listed.now c.loop-used.used-index d b (free_in c.args.users.now b) (free_in c.loop-used.users b) (free_in c.forget.new.self b)
          c.loop-used-test.true
          (c.forget.ensures.room b)
          (c.loop-used.invariant.room b);
    }
