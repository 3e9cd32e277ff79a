-- The fold over the operations of an upload, operation by operation.
use Rattle.std.proofs.Common.{◌≡◌, ℕ, suc, ◌+◌, ◌<◌, List, ◌∷◌, length, get_or, drop, Ok, sym, ap, ◌∙◌, add-one, drop-cons}
use Rattle.std.specs.Prelude.{Result}
use Rattle.osm_base.specs.Outcome.{◌>>=◌}
use Rattle.osm_change.specs.declared.operations.Op.{Op}
use Rattle.osm_change.specs.declared.refusals.Refusal.{Refusal}
use Rattle.osm_model.specs.declared.uploads.Progress.{Progress}
use Rattle.osm_model.specs.Upload.{Upload}
use Rattle.osm_model.specs.Operation.{operate, operate_all}

-- the fold takes its next operation
pub operate_all-step :
    (u : Upload) (g h : Progress) (ops : List Op) (i : ℕ) (o : Op)
    → i < length ops
    → o ≡ get_or ops i o
    → operate u g o ≡ Ok h
    → operate_all u g (drop i ops) ≡ operate_all u h (drop (i + 1) ops)
operate_all-step u g h ops i o within here passed =
    let cut : drop i ops ≡ o ∷ drop (i + 1) ops =
    rw add-one (drop-cons ops i o within ∙ ap (λ (x : Op). x ∷ drop (suc i) ops) (sym here))
    in
    ap (operate_all u g) cut
    ∙ ap (λ (r : Result Progress Refusal). r >>= λ next. operate_all u next (drop (i + 1) ops)) passed
