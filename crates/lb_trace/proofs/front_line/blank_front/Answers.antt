-- The ends of lines at the front of a text, one after the other.
use Rattle.std.proofs.Common.{refl, sym, arith}
use Rattle.lb_trace.proofs.FrontLines.{blank-more, ended-at}
use Rattle.lb_trace.proofs.Lines.{plain-none}
use Rattle.lb_trace.proofs.front_line.blank_front.Goals as goal

pub loop-i-init : goal.loop-i-init
loop-i-init c = record { blank = plain-none; ended = λ some. absurd (omega (arith, some)) }

pub loop-i-preserved : goal.loop-i-preserved
loop-i-preserved c = record {
  blank = blank-more _ _ _ c.loop-i-test.true refl
      (sym c.if-not-ends_line.ensures) c.loop-i.invariant.blank;
  ended = λ some. ended-at _ _ _ c.loop-i-test.true refl
      (sym c.if-not-ends_line.ensures);
}
