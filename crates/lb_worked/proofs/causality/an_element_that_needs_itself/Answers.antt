use Rattle.std.proofs.Common.{[], ◌∷◌, refl}
use Rattle.lb_static.specs.Instances.{Root, Child}
use Rattle.lb_check.specs.Needs.{needs}
use Rattle.lb_worked.specs.WorkedCausality as worked
use Rattle.lb_worked.proofs.CausalTest.{refused_by}
use Rattle.lb_worked.specs.WorkedSamples.{element}
use Rattle.lb_worked.proofs.causality.an_element_that_needs_itself.Goals as goal

pub returns : goal.returns
unfolding needs
returns c = record {
  each_other =
      (refused_by worked.each_other (element Root "x" ∷ element Root "y" ∷ [])).shows refl;
  itself = (refused_by worked.itself (element Root "x" ∷ [])).shows refl;
  clock_variable_and_what_it_clocks =
      (refused_by worked.clock_of_itself (element Root "y" ∷ element Root "c" ∷ [])).shows refl;
  clock_variable_that_brings_back_a_memory =
      (refused_by worked.clock_of_a_memory (element Root "c" ∷ [])).shows refl;
  both_branches_of_if =
      (refused_by worked.both_branches (element Root "x" ∷ element Root "y" ∷ [])).shows refl;
  later_side_of_arrow = (refused_by worked.both_sides (element Root "x" ∷ [])).shows refl;
  first_side_of_fby = (refused_by worked.first_side_of_fby (element Root "x" ∷ [])).shows refl;
  operand_that_does_not_matter =
      (refused_by worked.unused_by_product (element Root "x" ∷ [])).shows refl;
  crossed_results =
      (refused_by worked.crossed_results (element Root "p" ∷ element (Child Root 0 0) "p" ∷ element
      (Child Root 0 0) "a" ∷ element Root "q" ∷ element (Child Root 0 0) "q" ∷ element
      (Child Root 0 0) "b" ∷ [])).shows refl;
  with_an_observer = (refused_by worked.through_the_observer (element Root "y" ∷ [])).shows refl;
}
