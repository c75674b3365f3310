use Rattle.std.proofs.Common.{arith, refl}
use Rattle.lb_trace.proofs.TruthBits.{bits-found}
use Rattle.lb_trace.proofs.truth_bits.inner_bits.Goals as goal

pub returns : goal.returns
returns c =
    bits-found c.args.text.now c.args.count _ c.truths_in.result c.ones_in.result c.requires
    (omega (arith, c.if-text-lt32.false)) refl c.truths_in.ensures c.if-truths_in-past.false
    c.ones_in.ensures
