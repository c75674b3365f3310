use Rattle.std.proofs.Common.{[], ◌∷◌, refl}
use Rattle.lb_static.specs.Instances.{Root}
use Rattle.lb_check.specs.Needs.{needs}
use Rattle.lb_check.specs.declared.verdict.Verdict.TheVariants.{Undefined, Passed}
use Rattle.lb_worked.specs.WorkedSamples.{at, history}
use Rattle.lb_worked.specs.WorkedScalars as worked
use Rattle.lb_worked.proofs.CausalTest.{all_accepted}
use Rattle.lb_worked.proofs.SolvesTest.{by_history}
use Rattle.lb_worked.proofs.scalars.nil_in_if.Goals as goal

pub returns : goal.returns
unfolding needs
returns c = record {
  accepted =
      (all_accepted (worked.nil_condition ∷ worked.nil_branch ∷ [])).shows refl;
  nil_condition = by_history _ _ (Undefined 0) (history (
      at Root "b t; ok ?" ∷ [])) refl refl;
  nil_in_the_other_branch = by_history _ _ Passed (history (
      at Root "b t; ok t" ∷ [])) refl refl;
  nil_in_the_chosen_branch = by_history _ _ (Undefined 0) (history (
      at Root "b f; ok ?" ∷ [])) refl refl;
}
