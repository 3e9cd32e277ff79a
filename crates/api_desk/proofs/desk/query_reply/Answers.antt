use Rattle.std.proofs.Common.{ap, ◌∙◌}
use Rattle.osm_model.specs.Ask.{ask}
use Rattle.osm_model.specs.Journal.{replay}
use Rattle.osm_model.specs.declared.states.State.{State}
use Rattle.map_machine.specs.Machine.{bytes_of}
use Rattle.api_desk.proofs.ReplyBytes.{read_back, tells_status}
use Rattle.api_desk.proofs.desk.query_reply.Goals as goal

pub reply_from-requires : goal.reply_from-requires
reply_from-requires g c =
    let is = c.in_ok-answer.ensures ∙ c.in_ok-found.ensures ∙ ap (λ (P : State). bytes_of (ask P c.args.moment c.args.query)) c.world.ensures.world in
    tells_status (ask (replay c.args.book.now) c.args.moment c.args.query) c.in_ok-answer.answer is

pub returns-clause-reply : goal.returns-clause-reply
returns-clause-reply g c =
    let is = c.in_ok-answer.ensures ∙ c.in_ok-found.ensures ∙ ap (λ (P : State). bytes_of (ask P c.args.moment c.args.query)) c.world.ensures.world in
    c.reply_from.ensures.reply ∙ read_back (ask (replay c.args.book.now) c.args.moment c.args.query) c.in_ok-answer.answer is
