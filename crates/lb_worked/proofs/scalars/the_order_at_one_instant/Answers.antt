use Rattle.std.proofs.Common.{[], ◌∷◌, refl}
use Rattle.lb_static.specs.Instances.{Root}
use Rattle.lb_check.specs.Needs.{needs}
use Rattle.lb_check.specs.declared.verdict.Verdict.TheVariants.{Assertion as Assertion_fails, False}
use Rattle.lb_check.specs.declared.verdict.Verdict.TheVariants.{Fault, Undefined}
use Rattle.lb_worked.specs.WorkedSamples.{at, history}
use Rattle.lb_worked.specs.WorkedScalars as worked
use Rattle.lb_worked.proofs.CausalTest.{all_accepted}
use Rattle.lb_worked.proofs.SolvesTest.{by_history}
use Rattle.lb_worked.proofs.scalars.the_order_at_one_instant.Goals as goal

pub returns : goal.returns
unfolding needs
returns c = record {
  accepted =
      (all_accepted (worked.all_three ∷ worked.without_a_fault ∷ worked.property_alone
      ∷ worked.nil_beside_a_fault ∷ worked.nil_beside_an_assertion ∷ [])).shows refl;
  fault_first = by_history _ _ (Fault 0) (history (
      at Root "x 0; ok f; y !" ∷ [])) refl refl;
  fault_before_nil = by_history _ _ (Fault 0) (history (
      at Root "b t; ok ?; z !" ∷ [])) refl refl;
  nil_before_assertion = by_history _ _ (Undefined 0) (history (
      at Root "b t; ok ?" ∷ [])) refl refl;
  assertion_next = by_history _ _ (Assertion_fails 0) (history (
      at Root "x 0; ok f; y 10" ∷ [])) refl refl;
  property_last = by_history _ _ (False 0) (history (
      at Root "x 0; ok f; y 10" ∷ [])) refl refl;
}
