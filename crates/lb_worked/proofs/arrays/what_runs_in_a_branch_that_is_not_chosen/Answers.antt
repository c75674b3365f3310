use Rattle.std.proofs.Common.{[], ◌∷◌, refl}
use Rattle.lb_static.specs.Instances.{Root, Child}
use Rattle.lb_check.specs.Needs.{needs}
use Rattle.lb_check.specs.declared.verdict.Verdict.TheVariants.{Fault, Passed}
use Rattle.lb_worked.specs.WorkedSamples.{at, history}
use Rattle.lb_worked.specs.WorkedArrays as worked
use Rattle.lb_worked.proofs.CausalTest.{all_accepted}
use Rattle.lb_worked.proofs.SolvesTest.{by_history}
use Rattle.lb_worked.proofs.arrays.what_runs_in_a_branch_that_is_not_chosen.Goals as goal

pub returns : goal.returns
unfolding needs
returns c = record {
  accepted = (all_accepted (worked.call_not_chosen ∷ worked.symbol_not_chosen ∷ [])).shows refl;
  fault_of_a_call = by_history _ _ (Fault 0) (history (
      at Root "c t; x 0; ok t"
      ∷ at (Child Root 0 0) "x 0; y !" ∷ [])) refl refl;
  fault_of_a_symbol = by_history _ _ Passed (history (
      at Root "c t; A 2147483647; A 1; ok t" ∷ [])) refl refl;
}
