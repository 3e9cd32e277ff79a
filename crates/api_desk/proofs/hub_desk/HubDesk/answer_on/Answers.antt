use Rattle.std.proofs.Common.{refl, subst}
use Rattle.osm_model.specs.declared.commands.Entry.{Entry}
use Rattle.http_link.specs.Desk.{counted_reply}
use Rattle.session_desk.specs.Answered.{AtDesk}
use Rattle.api_desk.specs.HubDesk.{AllowsMap}
use Rattle.api_desk.proofs.HubReplies.{stays_replied}
use Rattle.api_desk.proofs.hub_desk.HubDesk.answer_on.Goals as goal

pub returns-clause-allows : goal.returns-clause-allows
returns-clause-allows g c =
    let users = c.self.inside.users.now in
    let it = c.self.inside.session in
    subst
    (λ (at : AtDesk Entry). AllowsMap at c.args.message.now c.args.moment (counted_reply c.refuse.result) at)
    c.self.view_is
    (record {
      users = refl;
      replies = stays_replied users it c.args.message.now c.args.moment (counted_reply c.refuse.result)
          (λ place. c.refuse.ensures.answers users it.number it.front place c.args.message.now c.args.moment c.in-Err.ensures.gives);
    })
