-- The place of the lowest bit of the mask is the number of digits.
use Rattle.std.proofs.Common.{arith, refl}
use Rattle.lb_trace.proofs.Fronts.{counts, counts-none}
use Rattle.lb_trace.proofs.front.count_after.Goals as goal

pub returns-then-others-eq0 : goal.returns-then-others-eq0
returns-then-others-eq0 c = counts-none c.args.is_negative c.args.text.now

pub returns : goal.returns
returns c =
    counts _ _ _ _ _ c.requires c.others.ensures c.without_sign-others.ensures
    (omega (arith, c.if-others-eq0.false)) refl
