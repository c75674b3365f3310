use Rattle.std.proofs.Common.{[], ◌∷◌, refl}
use Rattle.lb_static.specs.Instances.{Root}
use Rattle.lb_check.specs.Needs.{needs}
use Rattle.lb_check.specs.declared.verdict.Verdict.TheVariants.{Fault, Passed}
use Rattle.lb_worked.specs.WorkedSamples.{at, history}
use Rattle.lb_worked.specs.WorkedScalars as worked
use Rattle.lb_worked.proofs.CausalTest.{accepted}
use Rattle.lb_worked.proofs.SolvesTest.{by_history}
use Rattle.lb_worked.proofs.scalars.overflow_at_the_bound.Goals as goal

pub returns : goal.returns
unfolding needs
returns c = record {
  accepted = (accepted worked.increment).shows refl;
  fault_past_the_greatest = by_history _ _ (Fault 1) (history (
      at Root "x 0 2147483647; ok t t; y 1 !" ∷ [])) refl refl;
  greatest_is_reached = by_history _ _ Passed (history (
      at Root "x 2147483646; ok t; y 2147483647" ∷ [])) refl refl;
}
