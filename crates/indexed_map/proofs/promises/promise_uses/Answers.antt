use Rattle.std.proofs.Common.{◌∙◌}
use Rattle.osm_base.specs.declared.keys.Kind.TheVariants.{Node}
use Rattle.osm_base.specs.declared.keys.Key.{Key}
use Rattle.reverse_refs.specs.Users.{free_in}
use Rattle.indexed_map.proofs.Known.{promised_next}
use Rattle.indexed_map.proofs.promises.promise_uses.Goals as goal

pub loop-used-preserved : goal.loop-used-preserved
loop-used-preserved c =
    let d : Key = record { kind = Node; id = 0 } in
    record {
      users = λ b. c.promise_use.ensures.users b ∙ c.loop-used.invariant.users b;
      past = λ b. c.promise_use.ensures.past b ∙ c.loop-used.invariant.past b;
      room = λ b. promised_next c.args.listed.now c.loop-used.used-index d b c.args.users.now c.loop-used.users c.args.user (free_in c.promise_use.new.users b)
          c.loop-used-test.true
          (c.loop-used.invariant.users b)
          (c.loop-used.invariant.past b)
          (c.loop-used.invariant.room b)
          (c.in_ok-promise_use.ensures.room b);
      noted = λ b out.
          let here = c.promise_use.ensures.noted b out in
          let before = c.loop-used.invariant.noted b here.0 in
          (before.0, here.1 ∙ before.1);
    }
