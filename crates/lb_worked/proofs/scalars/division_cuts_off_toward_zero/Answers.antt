use Rattle.std.proofs.Common.{[], ◌∷◌, refl}
use Rattle.lb_static.specs.Instances.{Root}
use Rattle.lb_check.specs.Needs.{needs}
use Rattle.lb_check.specs.declared.verdict.Verdict.TheVariants.{Passed}
use Rattle.lb_worked.specs.WorkedSamples.{at, history}
use Rattle.lb_worked.specs.WorkedScalars as worked
use Rattle.lb_worked.proofs.CausalTest.{all_accepted}
use Rattle.lb_worked.proofs.SolvesTest.{by_history}
use Rattle.lb_worked.proofs.scalars.division_cuts_off_toward_zero.Goals as goal

pub returns : goal.returns
unfolding needs
returns c = record {
  accepted = (all_accepted (worked.quotients ∷ worked.literal_quotients ∷ [])).shows refl;
  each_sign = by_history _ _ Passed (history (
      at Root "a 7 -7 7 -7; b 2 2 -2 -2; q 3 -3 -3 3; r 1 -1 1 -1; ok t t t t" ∷ [])) refl refl;
  of_literals = by_history _ _ Passed (history (
      at Root "x 0; ok t; y -3; z -1" ∷ [])) refl refl;
}
