use Rattle.std.proofs.Common.{◌∙◌}
use Rattle.osm_base.specs.declared.keys.Kind.TheVariants.{Node}
use Rattle.osm_base.specs.declared.keys.Key.{Key}
use Rattle.history_store.specs.Store.{free}
use Rattle.indexed_map.proofs.UseSteps.{forgotten_more}
use Rattle.indexed_map.proofs.promises.forget_versions.Goals as goal

pub loop-key-preserved : goal.loop-key-preserved
loop-key-preserved c =
    let d : Key = record { kind = Node; id = 0 } in
    record {
      elements = c.forget_version.ensures.elements ∙ c.loop-key.invariant.elements;
      room = λ k. forgotten_more c.args.keys.now c.loop-key.key-index d k (free c.args.store.now.room k) (free c.loop-key.store.room k) (free c.forget_version.new.store.room k)
          c.loop-key-test.true
          (c.forget_version.ensures.room k)
          (c.loop-key.invariant.room k);
    }
