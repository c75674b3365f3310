use Rattle.std.proofs.Common.{[], ◌∷◌, refl}
use Rattle.lb_static.specs.Instances.{Root, Child}
use Rattle.lb_check.specs.Needs.{needs}
use Rattle.lb_check.specs.declared.verdict.Verdict.TheVariants.{False, Fault, Passed}
use Rattle.lb_worked.specs.WorkedSamples.{at, history}
use Rattle.lb_worked.specs.WorkedArrays as worked
use Rattle.lb_worked.proofs.CausalTest.{all_accepted}
use Rattle.lb_worked.proofs.SolvesTest.{by_history}
use Rattle.lb_worked.proofs.arrays.iterators.Goals as goal

pub returns : goal.returns
unfolding needs
returns c = record {
  accepted =
      (all_accepted (worked.counters ∷ worked.digits ∷ worked.differences ∷ worked.pairs
      ∷ worked.unrolled ∷ worked.two_maps ∷ [])).shows refl;
  counters_of_their_own = by_history _ _ Passed (history (
      at Root "A 1 1; A 10 0; A 100 0; b 111 112; S 1 2; S 10 10; S 100 100; ok t t"
      ∷ at (Child Root 0 0) "x 1 1; n 1 2"
      ∷ at (Child Root 0 1) "x 10 0; n 10 10"
      ∷ at (Child Root 0 2) "x 100 0; n 100 100" ∷ [])) refl refl;
  digits_from_the_left = by_history _ _ Passed (history (
      at Root "A 1; A 2; A 3; b 123; ok t"
      ∷ at (Child Root 0 0) "a 0; d 1; r 1"
      ∷ at (Child Root 0 1) "a 1; d 2; r 12"
      ∷ at (Child Root 0 2) "a 12; d 3; r 123" ∷ [])) refl refl;
  digits_not_from_the_right = by_history _ _ (False 0) (history (
      at Root "A 1; A 2; A 3; b 321; ok f"
      ∷ at (Child Root 0 0) "a 0; d 1; r 1"
      ∷ at (Child Root 0 1) "a 1; d 2; r 12"
      ∷ at (Child Root 0 2) "a 12; d 3; r 123" ∷ [])) refl refl;
  a_symbol_from_the_left = by_history _ _ Passed (history (
      at Root "A 1; A 2; A 3; b 4; ok t" ∷ [])) refl refl;
  each_step_is_in_range = by_history _ _ (Fault 1) (history (
      at Root
      "A 2147483647 -2147483648; A -2147483647 2147483647; A 3 3; b 7 7; ok t !"
      ∷ [])) refl refl;
  map_of_a_symbol = by_history _ _ Passed (history (
      at Root "A 2; A 3; B 4; B 5; p 8; q 15; C 8; C 15; ok t" ∷ [])) refl refl;
  fill_from_the_first = by_history _ _ Passed (history (
      at Root "x 0; z 8; B 2; B 3; B 5; ok t"
      ∷ at (Child Root 0 0) "a 1; b 2; e 2"
      ∷ at (Child Root 0 1) "a 2; b 4; e 3"
      ∷ at (Child Root 0 2) "a 4; b 8; e 5"
      ∷ at (Child Root 1 0) "a 0; d 2; r 2"
      ∷ at (Child Root 1 1) "a 2; d 3; r 23"
      ∷ at (Child Root 1 2) "a 23; d 5; r 235" ∷ [])) refl refl;
  map_with_two_results = by_history _ _ Passed (history (
      at Root "A 3; A 4; e 5486; B 6; B 8; C 4; C 5; ok t"
      ∷ at (Child Root 0 0) "a 3; b 6; e 4"
      ∷ at (Child Root 0 1) "a 4; b 8; e 5" ∷ [])) refl refl;
}
