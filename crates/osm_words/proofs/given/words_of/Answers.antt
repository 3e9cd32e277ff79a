use Rattle.std.proofs.Common.{◌≡◌, length, refl}
use Rattle.std.proofs.lemmas.Iterator.Adapters.{fact_from_collect, YieldsList-from_vec}
use Rattle.std.proofs.lemmas.Result.{IfOk-weaker}
use Rattle.std.specs.Prelude.{vec_len}
use Rattle.std.specs.Vec.Iter.{into_iter_items}
use Rattle.osm_words.proofs.given.words_of.Goals as goal

pub returns : goal.returns
returns c =
    IfOk-weaker c.collect.result _ _ (λ words h. h.0)
    (fact_from_collect (λ xs words. (words.items ≡ xs) × (vec_len words ≡ length xs)) c.collect.result c.collect.ensures.ran
    (YieldsList-from_vec (into_iter_items c.args.args) refl c.args.args.rest.ok.0))
