use Rattle.std.proofs.Common.{refl}
use Rattle.lb_trace.proofs.SmallNumbers.{equal-from}
use Rattle.lb_trace.proofs.TruthCells.{all-truths}
use Rattle.lb_trace.proofs.truths.are_truths.Goals as goal

pub returns : goal.returns
returns c full =
    all-truths c.args.text.now _ _ c.requires c.type_inv.text refl refl (equal-from _ 255 full)
