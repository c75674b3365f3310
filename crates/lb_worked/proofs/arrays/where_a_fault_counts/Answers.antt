use Rattle.std.proofs.Common.{[], ◌∷◌, refl}
use Rattle.lb_static.specs.Instances.{Root, Child}
use Rattle.lb_check.specs.Needs.{needs}
use Rattle.lb_check.specs.declared.verdict.Verdict.TheVariants.{Fault, Passed}
use Rattle.lb_worked.specs.WorkedSamples.{at, history}
use Rattle.lb_worked.specs.WorkedArrays as worked
use Rattle.lb_worked.proofs.CausalTest.{all_accepted}
use Rattle.lb_worked.proofs.SolvesTest.{by_history}
use Rattle.lb_worked.proofs.arrays.where_a_fault_counts.Goals as goal

pub returns : goal.returns
unfolding needs
returns c = record {
  accepted =
      (all_accepted (worked.unused_input ∷ worked.assertion_with_a_fault ∷ worked.element_not_taken
      ∷ worked.value_not_sampled ∷ [])).shows refl;
  input_that_is_not_used = by_history _ _ (Fault 0) (history (
      at Root "x 5; d 0; ok t"
      ∷ at (Child Root 0 0) "a 5; b !; c 5" ∷ [])) refl refl;
  assertion = by_history _ _ (Fault 0) (history (
      at Root "x 5; d 0; ok t" ∷ [])) refl refl;
  element_that_is_not_taken = by_history _ _ Passed (history (
      at Root "x 5; d 0; ok t" ∷ [])) refl refl;
  value_that_is_not_sampled = by_history _ _ (Fault 2) (history (
      at Root "c f t t; d 0 1 0; y . 1 !; ok t t t" ∷ [])) refl refl;
}
