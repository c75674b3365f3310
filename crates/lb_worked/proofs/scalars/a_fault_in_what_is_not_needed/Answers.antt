use Rattle.std.proofs.Common.{[], ◌∷◌, refl}
use Rattle.lb_static.specs.Instances.{Root}
use Rattle.lb_check.specs.Needs.{needs}
use Rattle.lb_check.specs.declared.verdict.Verdict.TheVariants.{Fault, Passed}
use Rattle.lb_worked.specs.WorkedSamples.{at, history}
use Rattle.lb_worked.specs.WorkedScalars as worked
use Rattle.lb_worked.proofs.CausalTest.{all_accepted}
use Rattle.lb_worked.proofs.SolvesTest.{by_history}
use Rattle.lb_worked.proofs.scalars.a_fault_in_what_is_not_needed.Goals as goal

pub returns : goal.returns
unfolding needs
returns c = record {
  accepted =
      (all_accepted
      (worked.chosen_branch ∷ worked.other_branch ∷ worked.strict_and ∷ worked.strict_or
      ∷ worked.strict_implies ∷ worked.strict_count ∷ [])).shows refl;
  branch_not_chosen = by_history _ _ Passed (history (
      at Root "n 5; d 0; ok t; q 0" ∷ [])) refl refl;
  other_branch_not_chosen = by_history _ _ Passed (history (
      at Root "n 5; d 0; ok t; q 0" ∷ [])) refl refl;
  under_and = by_history _ _ (Fault 0) (history (
      at Root "n 5; d 0; ok !" ∷ [])) refl refl;
  under_or = by_history _ _ (Fault 0) (history (
      at Root "n 5; d 0; ok !" ∷ [])) refl refl;
  under_implies = by_history _ _ (Fault 0) (history (
      at Root "n 5; d 0; ok !" ∷ [])) refl refl;
  under_at_most_one = by_history _ _ (Fault 0) (history (
      at Root "n 5; d 0; ok !" ∷ [])) refl refl;
}
