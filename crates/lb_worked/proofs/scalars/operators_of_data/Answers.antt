use Rattle.std.proofs.Common.{[], ◌∷◌, refl}
use Rattle.lb_static.specs.Instances.{Root}
use Rattle.lb_check.specs.Needs.{needs}
use Rattle.lb_check.specs.declared.verdict.Verdict.TheVariants.{False, Passed}
use Rattle.lb_worked.specs.WorkedSamples.{at, history}
use Rattle.lb_worked.specs.WorkedScalars as worked
use Rattle.lb_worked.proofs.CausalTest.{all_accepted}
use Rattle.lb_worked.proofs.SolvesTest.{by_history}
use Rattle.lb_worked.proofs.scalars.operators_of_data.Goals as goal

pub returns : goal.returns
unfolding needs
returns c = record {
  accepted =
      (all_accepted (worked.logic ∷ worked.equality_of_truths ∷ worked.comparisons ∷ worked.counting
      ∷ [])).shows refl;
  tables_of_logic = by_history _ _ Passed (history (
      at Root
      "a f f t t; b f t f t; o f t t t; x f t t f; n f f f t; i t t f t; ok t t t t"
      ∷ [])) refl refl;
  equal_truths = by_history _ _ Passed (history (
      at Root "a f f t t; b f t f t; e t f f t; u f t t f; ok t t t t" ∷ [])) refl refl;
  comparisons_of_integers = by_history _ _ Passed (history (
      at Root
      "a -1 2 3; b 2 2 2; l t f f; m t t f; g f f t; h f t t; e f t f; u t f t; ok t t t"
      ∷ [])) refl refl;
  one_of_three_but_not_two = by_history _ _ (False 1) (history (
      at Root "a t t; b f t; c f f; ok t f" ∷ [])) refl refl;
  none_is_at_most_one_too = by_history _ _ (False 1) (history (
      at Root "a f f; b t f; c f f; ok t f" ∷ [])) refl refl;
  three_are_too_many = by_history _ _ (False 1) (history (
      at Root "a f t; b f t; c t t; ok t f" ∷ [])) refl refl;
}
