use Rattle.std.proofs.Common.{[], ◌∷◌, refl}
use Rattle.lb_static.specs.Instances.{Root, Observer}
use Rattle.lb_check.specs.Needs.{needs}
use Rattle.lb_check.specs.declared.verdict.Verdict.TheVariants.{Assertion as Assertion_fails, False}
use Rattle.lb_check.specs.declared.verdict.Verdict.TheVariants.{Passed}
use Rattle.lb_worked.specs.WorkedSamples.{at, history}
use Rattle.lb_worked.specs.WorkedArrays as worked
use Rattle.lb_worked.proofs.CausalTest.{accepted}
use Rattle.lb_worked.proofs.SolvesTest.{by_history}
use Rattle.lb_worked.proofs.arrays.an_observer.Goals as goal

pub returns : goal.returns
unfolding needs
returns c = record {
  accepted = (accepted worked.observed).shows refl;
  property_fails = by_history _ _ (False 1) (history (
      at Root "x 1 3; y 2 6"
      ∷ at Observer "x 1 3; y 2 6; ok t f" ∷ [])) refl refl;
  assertion_fails = by_history _ _ (Assertion_fails 0) (history (
      at Root "x -1 3; y -2 6"
      ∷ at Observer "x -1 3; y -2 6; ok t f" ∷ [])) refl refl;
  passes = by_history _ _ Passed (history (
      at Root "x 1; y 2"
      ∷ at Observer "x 1; y 2; ok t" ∷ [])) refl refl;
}
