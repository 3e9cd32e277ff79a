use Rattle.std.proofs.Common.{sym, ap, ◌∙◌}
use Rattle.hub_core.specs.Journal.{calls_of}
use Rattle.snapshot_hub.proofs.Offers.{journal_published}
use Rattle.snapshot_hub.proofs.held.Held.publish.Goals as goal

pub invariant_of-self : goal.invariant_of-self
invariant_of-self g c =
    let same = journal_published c.publish.result c.self.inside.press c.publish.new.self c.publish.ensures in (
      c.self.invariant.0 ∙ sym same,
      λ session le. ap (λ es. calls_of g.M.Machine.rules.tag_of session es) same ∙ c.self.invariant.1 session le,
    )
