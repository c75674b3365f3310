use Rattle.std.proofs.Common.{[], ◌∷◌, refl}
use Rattle.lb_static.specs.Instances.{Root}
use Rattle.lb_check.specs.Needs.{needs}
use Rattle.lb_check.specs.declared.verdict.Verdict.TheVariants.{Undefined, Passed}
use Rattle.lb_worked.specs.WorkedSamples.{at, history}
use Rattle.lb_worked.specs.WorkedClocks as worked
use Rattle.lb_worked.proofs.CausalTest.{all_accepted}
use Rattle.lb_worked.proofs.SolvesTest.{by_history}
use Rattle.lb_worked.proofs.clocks.nil_in_a_clock.Goals as goal

pub returns : goal.returns
unfolding needs
returns c = record {
  accepted =
      (all_accepted (worked.nil_clock ∷ worked.guarded_clock ∷ [])).shows refl;
  nil_is_undefined = by_history _ _ (Undefined 0) (history (
      at Root "b t t; x 1 2; ok t t; c ? t; y . 2; z . ." ∷ [])) refl refl;
  guarded = by_history _ _ Passed (history (
      at Root "b t t; x 1 2; ok t t; c t t; y 1 2" ∷ [])) refl refl;
}
