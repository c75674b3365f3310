use Rattle.std.proofs.Common.{[], ◌∷◌, refl}
use Rattle.lb_static.specs.Instances.{Root}
use Rattle.lb_check.specs.Needs.{needs}
use Rattle.lb_check.specs.declared.verdict.Verdict.TheVariants.{Undefined, Fault, Passed}
use Rattle.lb_worked.specs.WorkedSamples.{at, history}
use Rattle.lb_worked.specs.WorkedScalars as worked
use Rattle.lb_worked.proofs.CausalTest.{all_accepted}
use Rattle.lb_worked.proofs.SolvesTest.{by_history}
use Rattle.lb_worked.proofs.scalars.nil_in_operators_of_data.Goals as goal

pub returns : goal.returns
unfolding needs
returns c = record {
  accepted =
      (all_accepted (worked.nil_by_zero ∷ worked.one_by_nil ∷ worked.fault_beside_nil
      ∷ worked.nil_under_or ∷ worked.nil_counted ∷ worked.nil_under_nor ∷ [])).shows refl;
  nil_divided_by_zero = by_history _ _ (Fault 1) (history (
      at Root "x 2 2; ok t t; q ? !" ∷ [])) refl refl;
  one_divided_by_nil = by_history _ _ (Fault 1) (history (
      at Root "x 0 0; ok t t; q ? !" ∷ [])) refl refl;
  fault_comes_before_nil = by_history _ _ (Fault 0) (history (
      at Root "x 0; ok t; q !" ∷ [])) refl refl;
  sum_with_nil = by_history _ _ Passed (history (
      at Root "x 1 1; ok t t; q ? 2" ∷ [])) refl refl;
  true_or_nil = by_history _ _ (Undefined 0) (history (
      at Root "b t; ok ?" ∷ [])) refl refl;
  two_true_and_nil = by_history _ _ (Undefined 0) (history (
      at Root "b t; ok ?" ∷ [])) refl refl;
  one_true_and_nil = by_history _ _ (Undefined 0) (history (
      at Root "b t; ok ?" ∷ [])) refl refl;
}
