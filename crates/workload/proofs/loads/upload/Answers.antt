use Rattle.std.proofs.Common.{ap, ◌∙◌}
use Rattle.workload.proofs.Lengths.{upload_made}
use Rattle.workload.proofs.loads.upload.Goals as goal

pub returns-clause-sent : goal.returns-clause-sent
returns-clause-sent c =
    ap (λ bytes. record { session = c.args.session; bytes = bytes })
    (c.from_vec.ensures
    ∙ upload_made c.args.session c.args.number _ _ _ c.in_ok-bytes.ensures.items c.in_ok-put_upload_head.ensures c.in_ok-last.ensures.body)
