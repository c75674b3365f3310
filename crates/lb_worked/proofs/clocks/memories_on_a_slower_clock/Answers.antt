use Rattle.std.proofs.Common.{[], ◌∷◌, refl}
use Rattle.lb_static.specs.Instances.{Root}
use Rattle.lb_check.specs.Needs.{needs}
use Rattle.lb_check.specs.declared.verdict.Verdict.TheVariants.{Fault, Passed}
use Rattle.lb_worked.specs.WorkedSamples.{at, history}
use Rattle.lb_worked.specs.WorkedClocks as worked
use Rattle.lb_worked.proofs.CausalTest.{all_accepted}
use Rattle.lb_worked.proofs.SolvesTest.{by_history}
use Rattle.lb_worked.proofs.clocks.memories_on_a_slower_clock.Goals as goal

pub returns : goal.returns
unfolding needs
returns c = record {
  accepted =
      (all_accepted (worked.slow_memory ∷ worked.absent_clock ∷ worked.faulty_clock
      ∷ worked.both_signs_absent ∷ [])).shows refl;
  by_ticks = by_history _ _ Passed (history (
      at Root
      "c f t f t t; x 5 3 9 4 6; e 0 0 0 3 4; s . 3 . 4 6; p . 0 . 3 4; m 0 0 0 3 4; ok t t t t t"
      ∷ [])) refl refl;
  not_c_while_c_is_absent = by_history _ _ Passed (history (
      at Root "d t f t; b f f f; e 1 1 2; c f . f; n 1 . 2; m 1 1 2; ok t t t" ∷ [])) refl refl;
  fault_of_a_clock_variable = by_history _ _ (Fault 0) (history (
      at Root "d 0; c !; y .; ok t" ∷ [])) refl refl;
  both_signs_are_absent = by_history _ _ (Fault 1) (history (
      at Root "d 1 0; c t !; y 1 .; z . .; ok t t" ∷ [])) refl refl;
}
