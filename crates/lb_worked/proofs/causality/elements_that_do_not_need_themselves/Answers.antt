use Rattle.std.proofs.Common.{[], ◌∷◌, refl}
use Rattle.lb_static.specs.Instances.{Root, Child}
use Rattle.lb_check.specs.Needs.{needs}
use Rattle.lb_check.specs.declared.verdict.Verdict.TheVariants.{Passed}
use Rattle.lb_worked.specs.WorkedSamples.{at, history}
use Rattle.lb_worked.specs.WorkedCausality as worked
use Rattle.lb_worked.proofs.CausalTest.{accepted}
use Rattle.lb_worked.proofs.SolvesTest.{by_history}
use Rattle.lb_worked.proofs.CausalTest.{refused_by}
use Rattle.lb_worked.specs.WorkedSamples.{element_of}
use Rattle.lb_worked.proofs.causality.elements_that_do_not_need_themselves.Goals as goal

pub returns : goal.returns
unfolding needs
returns c = record {
  result_as_an_argument = (accepted worked.one_after_the_other).shows refl;
  through_pre = (accepted worked.through_pre).shows refl;
  through_fby = (accepted worked.through_fby).shows refl;
  elements_of_one_array = (accepted worked.elements_of_one_array).shows refl;
  they_have_values = by_history _ _ Passed (history (
      at Root "c f; A 1; A 1; A 1; ok t" ∷ [])) refl refl;
  running_sums = (accepted worked.running_sums).shows refl;
  sums_so_far = by_history _ _ Passed (history (
      at Root "A 1; A 2; A 3; e 6; S 1; S 3; S 6; ok t"
      ∷ at (Child Root 0 0) "a 0; b 1; s 1"
      ∷ at (Child Root 0 1) "a 1; b 2; s 3"
      ∷ at (Child Root 0 2) "a 3; b 3; s 6" ∷ [])) refl refl;
  two_elements_in_a_circle =
      (refused_by worked.one_array_in_a_circle (element_of Root "A" 0 ∷ element_of Root "A" 1
      ∷ [])).shows refl;
  iterated_array = (accepted worked.iterated_array).shows refl;
  loop_on_a_slower_clock = (accepted worked.slower_loop).shows refl;
}
