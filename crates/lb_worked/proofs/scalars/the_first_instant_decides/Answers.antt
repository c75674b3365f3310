use Rattle.std.proofs.Common.{[], ◌∷◌, refl}
use Rattle.lb_static.specs.Instances.{Root}
use Rattle.lb_check.specs.Needs.{needs}
use Rattle.lb_check.specs.declared.verdict.Verdict.TheVariants.{Assertion as Assertion_fails, False}
use Rattle.lb_worked.specs.WorkedSamples.{at, history}
use Rattle.lb_worked.specs.WorkedScalars as worked
use Rattle.lb_worked.proofs.CausalTest.{accepted}
use Rattle.lb_worked.proofs.SolvesTest.{by_history}
use Rattle.lb_worked.proofs.scalars.the_first_instant_decides.Goals as goal

pub returns : goal.returns
unfolding needs
returns c = record {
  accepted = (accepted worked.assumed).shows refl;
  assertion_first = by_history _ _ (Assertion_fails 1) (history (
      at Root "p t f t t; q t t t f; ok t t t f" ∷ [])) refl refl;
  property_first = by_history _ _ (False 1) (history (
      at Root "p t t t f; q t f t t; ok t f t t" ∷ [])) refl refl;
}
