use Rattle.std.proofs.Common.{arith}
use Rattle.lb_trace.proofs.TruthCells.{four-read}
use Rattle.lb_trace.proofs.truths.four_cells.Goals as goal

pub returns : goal.returns
returns c =
    four-read c.args.columns.now _ _ _ _ c.args.text.now c.bit_of.result c.bit_of-2.result
    c.bit_of-3.result c.bit_of-4.result
    (omega (arith, c.in-len4-up.len_at_least)) (omega (arith, c.if-text-lt8.false))
    (c.is_bool.ensures c.if-not-is_bool.false)
    (c.is_bool-else-not-is_bool.ensures c.if-not-is_bool-2.false)
    (c.is_bool-else-not-is_bool-2.ensures c.if-not-is_bool-3.false)
    (c.is_bool-else-not-is_bool-3.ensures c.if-not-is_bool-4.false)
    (c.are_truths.ensures c.if-not-are_truths.false)
    c.bit_of.ensures c.bit_of-2.ensures c.bit_of-3.ensures c.bit_of-4.ensures
