use Rattle.std.proofs.Common.{ap, arith}
use Rattle.lb_machine.specs.declared.instruction.PlaneId.{PlaneId}
use Rattle.lb_sim.proofs.operators.one_holding.Goals as goal

pub returns-in-Not-Some-clause-within : goal.returns-in-Not-Some-clause-within
returns-in-Not-Some-clause-within c =
    let of = λ (p : PlaneId). p.0 in
    let operand = c.requires.operand in
    record {
      value =
          c.truth.ensures.value.stands c.args.code.now
          (omega (
            arith,
            ap of c.negation.ensures.plane,
            c.in-Not-Some.ensures.truth.within c.args.code.now operand.value,
          ));
      nil = omega (arith, ap of c.truth.ensures.nil, operand.nil);
      bad = omega (arith, ap of c.truth.ensures.bad, operand.bad);
    }
