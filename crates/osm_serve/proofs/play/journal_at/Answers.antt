use Rattle.std.proofs.Common.{arith}
use Rattle.osm_serve.proofs.PlayLemmas.{text_at}
use Rattle.osm_serve.proofs.play.journal_at.Goals as goal

pub returns : goal.returns
returns c =
    text_at _ _ _ _ c.entries.result _ c.text_of.result c.in_ok-replies.ensures (omega (arith, c.if-replies-gt0.false)) c.entries.ensures.legal
    c.entries.ensures.journal c.text_of.ensures
