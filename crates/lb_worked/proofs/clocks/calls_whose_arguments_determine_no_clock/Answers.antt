use Rattle.std.proofs.Common.{[], ◌∷◌, refl}
use Rattle.lb_static.specs.Instances.{Root, Child}
use Rattle.lb_check.specs.Needs.{needs}
use Rattle.lb_check.specs.declared.verdict.Verdict.TheVariants.{Passed}
use Rattle.lb_worked.specs.WorkedSamples.{at, history, running}
use Rattle.lb_worked.specs.WorkedClocks as worked
use Rattle.lb_worked.proofs.CausalTest.{accepted}
use Rattle.lb_worked.proofs.SolvesTest.{by_history}
use Rattle.lb_worked.proofs.clocks.calls_whose_arguments_determine_no_clock.Goals as goal

pub returns : goal.returns
unfolding needs
returns c = record {
  accepted = (accepted worked.slower_call_without_arguments).shows refl;
  no_arguments = by_history _ _ Passed (history (
      at Root "c t f t; e 1 1 2; n 1 . 2; m 1 1 2; ok t t t"
      ∷ running "t f t" (Child Root 0 0) "n 1 . 2" ∷ [])) refl refl;
  current_of_it = refl;
  two_results_of_literals = (accepted worked.slower_results_of_literals).shows refl;
  two_results = by_history _ _ Passed (history (
      at Root "c t f; e 48 48; p 4 .; q 8 .; ok t t"
      ∷ running "t f" (Child Root 0 0) "a 3 .; b 4 .; p 4 .; q 8 ." ∷ [])) refl refl;
}
