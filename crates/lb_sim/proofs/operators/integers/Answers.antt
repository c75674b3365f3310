use Rattle.std.proofs.Common.{refl, ap, arith}
use Rattle.std.proofs.lemmas.Result.{IfOk-weaker}
use Rattle.lb_lanes.specs.declared.int_operator.IntOperator.TheVariants.{Add, Sub, Mul, Div, Rem}
use Rattle.lb_machine.specs.declared.instruction.PlaneId.{PlaneId}
use Rattle.lb_sim.proofs.Growth.{grown_then}
use Rattle.lb_sim.proofs.IntegerHoldings.{integer_for}
use Rattle.lb_sim.proofs.Returned.{few_more}
use Rattle.lb_sim.proofs.TruthHoldings.{compared_for}
use Rattle.lb_sim.proofs.operators.integers.Goals as goal

pub returns-in-Some : goal.returns-in-Some
returns-in-Some c =
    let r = c.arithmetic.result in
    let made = c.arithmetic.ensures in
    record {
      grown = made.grown;
      few = few_more r c.args.code.now c.arithmetic.new.code 2 5 (omega arith) made.few;
      within = made.within;
      holding = IfOk-weaker r _ _
          (λ number is kind fits.
          integer_for c.arithmetic.new.code c.args.op c.in-Some.operator kind c.args.a c.args.b
          c.args.nil c.args.left c.args.right number c.in-Some.ensures.some fits is)
          made.holding;
    }

pub returns-in_ok-value-in-None : goal.returns-in_ok-value-in-None
returns-in_ok-value-in-None c =
    let bad = c.in_ok-bad-in-None in
    let made = c.in_ok-value-in-None in
    let none = c.in-None.ensures.none refl in
    record {
      grown = grown_then _ _ _ bad.ensures.grown made.ensures.grown;
      few = omega (arith, bad.ensures.few, made.ensures.few);
      within = record {
        value = c.truth.ensures.value.stands c.compared.new.code made.ensures.within;
        nil =
            omega (
              arith,
              ap (λ (p : PlaneId). p.0) c.truth.ensures.nil,
              c.requires.nil,
              bad.ensures.grown.planes,
              made.ensures.grown.planes,
            );
        bad =
            omega (
              arith,
              ap (λ (p : PlaneId). p.0) c.truth.ensures.bad,
              bad.ensures.plane.within,
              made.ensures.grown.planes,
            );
      };
      holding = λ kind fits.
          compared_for c.compared.new.code c.args.op kind c.args.a c.args.b c.args.nil c.args.left
          c.args.right bad.bad made.value c.truth.result (none Add) (none Sub) (none Mul)
          (none Div) (none Rem) fits c.truth.ensures.value c.truth.ensures.nil
          c.truth.ensures.bad (λ s r. bad.ensures.plane.means s (made.ensures.grown.runs s r))
          made.ensures.means;
    }
