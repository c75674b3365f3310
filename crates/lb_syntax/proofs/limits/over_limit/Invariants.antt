use Rattle.std.proofs.Common.{◌≤◌, drop}
use Rattle.lb_syntax.specs.TokenCounts.{over_from}
use Rattle.lb_syntax.proofs.LimitLaws.{IsAnswer}
use Rattle.lb_syntax.proofs.limits.over_limit.Given as goal

abbrev pub invariant-loop-index : goal.invariant-loop-index
invariant-loop-index l = record {
  answer_is :
      IsAnswer (over_from 0 0 l.tokens) l.index
      (over_from l.depth l.counted (drop l.index l.tokens));
  shallow : l.depth ≤ l.index;
  few : l.counted ≤ 500;
}
