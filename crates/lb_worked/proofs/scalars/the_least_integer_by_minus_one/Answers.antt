use Rattle.std.proofs.Common.{[], ◌∷◌, refl}
use Rattle.lb_static.specs.Instances.{Root}
use Rattle.lb_check.specs.Needs.{needs}
use Rattle.lb_check.specs.declared.verdict.Verdict.TheVariants.{Fault, Passed}
use Rattle.lb_worked.specs.WorkedSamples.{at, history}
use Rattle.lb_worked.specs.WorkedScalars as worked
use Rattle.lb_worked.proofs.CausalTest.{all_accepted}
use Rattle.lb_worked.proofs.SolvesTest.{by_history}
use Rattle.lb_worked.proofs.scalars.the_least_integer_by_minus_one.Goals as goal

pub returns : goal.returns
unfolding needs
returns c = record {
  accepted =
      (all_accepted (worked.quotient_by_minus_one ∷ worked.remainder_by_minus_one ∷ worked.negation
      ∷ [])).shows refl;
  divided = by_history _ _ (Fault 0) (history (
      at Root "x -2147483648; ok t; y !" ∷ [])) refl refl;
  remainder = by_history _ _ (Fault 0) (history (
      at Root "x -2147483648; ok t; y !" ∷ [])) refl refl;
  negated = by_history _ _ (Fault 0) (history (
      at Root "x -2147483648; ok t; y !" ∷ [])) refl refl;
  negation_of_the_greatest = by_history _ _ Passed (history (
      at Root "x 2147483647; ok t; y -2147483647" ∷ [])) refl refl;
}
