use Rattle.std.proofs.Common.{◌≡◌, sym, subst}
use Rattle.std.specs.Prelude.{IfOk}
use Rattle.osm_model.specs.Ask.{ask_at}
use Rattle.osm_model.specs.Past.{full_at}
use Rattle.osm_model.specs.declared.queries.Query.{Query}
use Rattle.plain_reads.proofs.asks.ask_at.Goals as goal

pub returns-in-FullAt : goal.returns-in-FullAt
returns-in-FullAt c =
    let IsAnswered : Query → Type 0 = λ q. IfOk c.read_answer-in-FullAt.result (λ answer. answer ≡ ask_at c.args.state.now c.args.at q) in
    subst IsAnswered (sym c.in-FullAt.is) (c.read_answer-in-FullAt.ensures (full_at c.args.state.now c.in-FullAt.key c.in-FullAt.at) c.full_at.ensures)
