use Rattle.std.proofs.Common.{[], ◌∷◌, refl}
use Rattle.lb_static.specs.Instances.{Root}
use Rattle.lb_check.specs.Needs.{needs}
use Rattle.lb_check.specs.declared.verdict.Verdict.TheVariants.{Undefined, Passed}
use Rattle.lb_worked.specs.WorkedSamples.{at, history}
use Rattle.lb_worked.specs.WorkedScalars as worked
use Rattle.lb_worked.proofs.CausalTest.{all_accepted}
use Rattle.lb_worked.proofs.SolvesTest.{by_history}
use Rattle.lb_worked.proofs.scalars.first_instants.Goals as goal

pub returns : goal.returns
unfolding needs
returns c = record {
  accepted =
      (all_accepted (worked.first_then ∷ worked.followed ∷ worked.before_the_first
      ∷ worked.truth_before_the_first ∷ worked.guarded_truth ∷ worked.two_instants_before
      ∷ [])).shows refl;
  arrow = by_history _ _ Passed (history (
      at Root "c f t f; e 7 1 5; ok t t t; r 7 1 5" ∷ [])) refl refl;
  fby = by_history _ _ Passed (history (
      at Root "x 1 2 3; e 5 1 2; ok t t t; r 5 1 2" ∷ [])) refl refl;
  pre_of_an_int_is_nil = by_history _ _ Passed (history (
      at Root "x 2 2; n 4 4; ok t t; px ? 2; q ? 2" ∷ [])) refl refl;
  pre_of_a_bool_is_nil = by_history _ _ (Undefined 0) (history (
      at Root "b t; ok ?" ∷ [])) refl refl;
  guarded_by_an_arrow = by_history _ _ Passed (history (
      at Root "b t t; ok t t" ∷ [])) refl refl;
  one_arrow_for_two_pre = by_history _ _ (Undefined 1) (history (
      at Root "b t t; ok t ?" ∷ [])) refl refl;
}
