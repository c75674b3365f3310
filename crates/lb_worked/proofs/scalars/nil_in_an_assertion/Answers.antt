use Rattle.std.proofs.Common.{[], ◌∷◌, refl}
use Rattle.lb_static.specs.Instances.{Root}
use Rattle.lb_check.specs.Needs.{needs}
use Rattle.lb_check.specs.declared.verdict.Verdict.TheVariants.{Undefined}
use Rattle.lb_worked.specs.WorkedSamples.{at, history}
use Rattle.lb_worked.specs.WorkedScalars as worked
use Rattle.lb_worked.proofs.CausalTest.{accepted}
use Rattle.lb_worked.proofs.SolvesTest.{by_history}
use Rattle.lb_worked.proofs.scalars.nil_in_an_assertion.Goals as goal

pub returns : goal.returns
unfolding needs
returns c = record {
  accepted = (accepted worked.nil_assertion).shows refl;
  before_a_false_property = by_history _ _ (Undefined 0) (history (
      at Root "b f; ok f" ∷ [])) refl refl;
  beside_a_true_property = by_history _ _ (Undefined 0) (history (
      at Root "b t t; ok t t" ∷ [])) refl refl;
}
