use Rattle.std.proofs.Common.{[], ◌∷◌, refl}
use Rattle.lb_static.specs.Instances.{Root, Child}
use Rattle.lb_check.specs.Needs.{needs}
use Rattle.lb_check.specs.declared.verdict.Verdict.TheVariants.{False, Fault, Passed}
use Rattle.lb_worked.specs.WorkedSamples.{at, history}
use Rattle.lb_worked.specs.WorkedArrays as worked
use Rattle.lb_worked.proofs.CausalTest.{all_accepted}
use Rattle.lb_worked.proofs.SolvesTest.{by_history}
use Rattle.lb_worked.proofs.arrays.forms_of_arrays.Goals as goal

pub returns : goal.returns
unfolding needs
returns c = record {
  accepted =
      (all_accepted (worked.sliced ∷ worked.matrix ∷ worked.matrix_row ∷ worked.chosen_array
      ∷ worked.whole_choice_faults ∷ worked.array_memory ∷ worked.copied
      ∷ worked.size_by_a_constant ∷ worked.static_parameter ∷ [])).shows refl;
  slice_and_join = by_history _ _ Passed (history (
      at Root "A 4; A 5; A 6; x 7; e 567; B 5; B 6; B 7; ok t"
      ∷ at (Child Root 0 0) "a 0; d 5; r 5"
      ∷ at (Child Root 0 1) "a 5; d 6; r 56"
      ∷ at (Child Root 0 2) "a 56; d 7; r 567" ∷ [])) refl refl;
  element_of_a_matrix = by_history _ _ Passed (history (
      at Root "m 1; m 2; m 3; m 4; m 5; m 6; e 6; ok t" ∷ [])) refl refl;
  row_and_slice_of_a_matrix = by_history _ _ Passed (history (
      at Root "m 1; m 2; m 3; m 4; m 5; m 6; e 17; r 4; r 5; r 6; ok t" ∷ [])) refl refl;
  chosen_array = by_history _ _ Passed (history (
      at Root "c t f; A 1 1; B 2 2; e 4 5; C 1 2; C 3 3; ok t t" ∷ [])) refl refl;
  faulty_condition = by_history _ _ (Fault 0) (history (
      at Root "d 0; A 1; A 2; B !; B !; ok t" ∷ [])) refl refl;
  memory_of_an_array = by_history _ _ Passed (history (
      at Root "A 1 3; A 2 4; e 78 12; B 7 1; B 8 2; ok t t" ∷ [])) refl refl;
  copies_of_copies = by_history _ _ Passed (history (
      at Root "x 5; e 5; B 5; B 5; B 5; B 5; B 5; B 5; ok t" ∷ [])) refl refl;
  size_by_a_constant = by_history _ _ (False 1) (history (
      at Root "A 3 3; A 3 4; ok t f" ∷ [])) refl refl;
  static_parameter_of_each_call = by_history _ _ Passed (history (
      at Root "x 1; e 304; ok t"
      ∷ at (Child Root 0 0) "x 1; y 3; A 1; A 1"
      ∷ at (Child Root 1 0) "x 1; y 4; A 1; A 1; A 1" ∷ [])) refl refl;
}
