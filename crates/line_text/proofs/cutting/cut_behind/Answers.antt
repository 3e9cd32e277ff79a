use Rattle.std.proofs.Common.{sym}
use Rattle.line_text.proofs.Parted.{is_cut}
use Rattle.line_text.proofs.cutting.cut_behind.Goals as goal

pub returns : goal.returns
returns c =
    is_cut c.args.text.now c.split_at.result.1.now c.in_ok-_line._line.now c.in_ok-_line.behind.now _ _ c.args.from
    c.split_at.ensures.back (sym c.in_ok-_line.ensures) c.split_at-2.ensures.front c.split_at-2.ensures.back
