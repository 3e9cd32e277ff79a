use Rattle.workload.proofs.PutLemmas.{on_ok, head_put}
use Rattle.workload.proofs.loads.put_upload_head.Goals as goal

pub returns : goal.returns
returns c =
    on_ok c.put.result
    (head_put c.args.user 673 c.args.bytes.now.items _ _ _ c.put.new.bytes.items
    c.in_ok-put_with_number.ensures c.in_ok-put_with_number-2.ensures c.in_ok-put_with_number-3.ensures)
    c.put.ensures
