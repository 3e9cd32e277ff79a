use Rattle.std.proofs.Common.{◌∙◌, ◌++◌, List, ℕ, ap}
use Rattle.serde_json.specs.Written.{compact_text}
use Rattle.osm_json.specs.Rows.{download}
use Rattle.osm_json.proofs.answers.download_behind.Goals as goal

pub returns : goal.returns
returns c =
    c.into_bytes.ensures
    ∙ c.in_ok-download.ensures.bytes
    ∙ ap (λ (front : List ℕ). front ++ compact_text (download c.args.rows.now)) c.new-out.ensures
