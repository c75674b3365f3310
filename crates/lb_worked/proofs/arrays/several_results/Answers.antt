use Rattle.std.proofs.Common.{[], ◌∷◌, refl}
use Rattle.lb_static.specs.Instances.{Root, Child}
use Rattle.lb_check.specs.Needs.{needs}
use Rattle.lb_check.specs.declared.verdict.Verdict.TheVariants.{False, Passed}
use Rattle.lb_worked.specs.WorkedSamples.{at, history}
use Rattle.lb_worked.specs.WorkedArrays as worked
use Rattle.lb_worked.proofs.CausalTest.{all_accepted}
use Rattle.lb_worked.proofs.SolvesTest.{by_history}
use Rattle.lb_worked.proofs.arrays.several_results.Goals as goal

pub returns : goal.returns
unfolding needs
returns c = record {
  accepted =
      (all_accepted (worked.two_results ∷ worked.loop_through_pre ∷ worked.exchanged ∷ [])).shows
      refl;
  second_from_first = by_history _ _ Passed (history (
      at Root "x 3; e 8; p 4; q 8; ok t"
      ∷ at (Child Root 0 0) "a 3; b 4; p 4; q 8" ∷ [])) refl refl;
  no_inputs_and_five_instants = by_history _ _ (False 3) (history (
      at Root "x 0 1 2 3 4; y 1 2 3 4 5; ok t t t f f" ∷ [])) refl refl;
  no_inputs_and_one_instant = by_history _ _ Passed (history (
      at Root "x 0; y 1; ok t" ∷ [])) refl refl;
  order_of_equations_is_free = by_history _ _ (False 2) (history (
      at Root "x 1 5 6; n 0 5 11; ok t t f" ∷ [])) refl refl;
}
