use Rattle.std.proofs.Common.{◌++◌, Some, None}
use Rattle.std.proofs.lemmas.Bool.Decides.{Decides-eqb}
use Rattle.std.proofs.lemmas.Slice.Eq.{strip_prefix_is, strip_suffix_is}
use Rattle.replication_feed.specs.Text.{beginning, ending}
use Rattle.replication_feed.proofs.Numbered.{some_inside, all_inside}
use Rattle.replication_feed.proofs.read.inside.Goals as goal

pub returns-in_err-rest-clause-all : goal.returns-in_err-rest-clause-all
returns-in_err-rest-clause-all c inner is =
    rw c.from_residual.ensures (strip_suffix_is Decides-eqb c.args.text.now ending None c.in_err-rest.ensures.cases (beginning ++ inner) is)

pub returns-clause-some : goal.returns-clause-some
returns-clause-some c =
    some_inside c.args.text.now c.in_ok-rest.rest.now c.strip_prefix.result
    (strip_suffix_is Decides-eqb c.args.text.now ending (Some c.in_ok-rest.rest) c.in_ok-rest.ensures.cases)
    (strip_prefix_is Decides-eqb c.in_ok-rest.rest.now beginning c.strip_prefix.result c.strip_prefix.ensures.cases)

pub returns-clause-all : goal.returns-clause-all
returns-clause-all c =
    all_inside c.args.text.now c.in_ok-rest.rest.now c.strip_prefix.result
    (strip_suffix_is Decides-eqb c.args.text.now ending (Some c.in_ok-rest.rest) c.in_ok-rest.ensures.cases)
    (strip_prefix_is Decides-eqb c.in_ok-rest.rest.now beginning c.strip_prefix.result c.strip_prefix.ensures.cases)
