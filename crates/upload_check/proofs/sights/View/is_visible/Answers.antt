use Rattle.std.proofs.Common.{ap, ◌∙◌}
use Rattle.std.specs.Prelude.{is_some}
use Rattle.upload_check.specs.Overlay.{content_now}
use Rattle.upload_check.proofs.Passed.{seen_is}
use Rattle.upload_check.proofs.sights.View.is_visible.Goals as goal

pub returns : goal.returns
returns c = c.is_some.ensures ∙ ap is_some c.place_seen.ensures ∙ seen_is (content_now c.args.self.now c.args.key)
