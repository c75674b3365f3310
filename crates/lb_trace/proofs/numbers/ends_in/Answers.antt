use Rattle.std.proofs.Common.{arith}
use Rattle.lb_trace.proofs.NumberEnds.{inside-from, others-below}
use Rattle.lb_trace.proofs.ShortCells.{ends-past}
use Rattle.lb_trace.proofs.numbers.ends_in.Goals as goal

pub overflow_mul-result : goal.overflow_mul-result
overflow_mul-result c =
    omega (
      arith,
      others-below c.args.text.now c.others_in-others.result c.requires
          c.others_in-others.ensures,
    )

pub overflow_add-result : goal.overflow_add-result
overflow_add-result c =
    omega (
      arith,
      others-below c.args.text.now c.others_in-others.result c.requires
          c.others_in-others.ensures,
    )

pub returns : goal.returns
returns c = record {
  inside = λ i above below none.
      inside-from c.args.text.now c.others_in-others.result c.minus_in-minus.result i c.requires
      c.others_in-others.ensures c.minus_in-minus.ensures below none;
  past = λ i above.
      ends-past c.args.text.now c.others_in-others.result c.minus_in-minus.result i c.requires
      c.others_in-others.ensures c.minus_in-minus.ensures above;
  gone = λ i below. absurd (omega (arith, below));
}
