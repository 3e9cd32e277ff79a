-- A changeset that is given other tags stays open.
use Rattle.std.proofs.Common.{◌≡◌, ℕ, Bool, true, List, Some, None, ap, arith}
use Rattle.std.specs.Prelude.{Option, nat_lt, if◌then◌else◌}
use Rattle.std.proofs.lemmas.Bool.Decides.{nat_tests}
use Rattle.osm_element.specs.Tags.{Tag}
use Rattle.changeset_core.specs.Changeset.{closes_by, closes, is_open, closed_at, retagged}
use Rattle.changeset_core.specs.declared.records.ChangesetRecord.{ChangesetRecord}

stays_open :
    (created activity t : ℕ) (ended : Option ℕ)
    → nat_lt t (closes_by created activity ended) ≡ true
    → nat_lt t (closes_by created t ended) ≡ true
stays_open created activity t None before = grind (arith, nat_tests)
stays_open created activity t (Some e) before = before

pub retagged_open : (r : ChangesetRecord) (tags : List Tag) (t : ℕ) → is_open r t ≡ true → closed_at (retagged r tags t) t ≡ None
retagged_open r tags t before =
    ap
    (λ (b : Bool). if b then None else Some (closes (retagged r tags t)))
    (stays_open r.created r.activity t r.ended before)
