use Rattle.std.proofs.Common.{[], ◌∷◌, refl}
use Rattle.lb_static.specs.Instances.{Root, Child}
use Rattle.lb_check.specs.Needs.{needs}
use Rattle.lb_check.specs.declared.verdict.Verdict.TheVariants.{False, Passed}
use Rattle.lb_worked.specs.WorkedSamples.{at, history, running}
use Rattle.lb_worked.specs.WorkedClocks as worked
use Rattle.lb_worked.proofs.CausalTest.{accepted}
use Rattle.lb_worked.proofs.SolvesTest.{by_history}
use Rattle.lb_worked.proofs.clocks.a_counter_on_a_slower_clock.Goals as goal

pub returns : goal.returns
unfolding needs
returns c = record {
  accepted = (accepted worked.slower_counter).shows refl;
  latest_value = by_history _ _ Passed (history (
      at Root "c f t f t; x 1 1 1 1; e 0 1 1 2; m 0 1 1 2; ok t t t t"
      ∷ running "f t f t" (Child Root 0 0) "x . 1 . 1; n . 1 . 2" ∷ [])) refl refl;
  ticks_count = by_history _ _ Passed (history (
      at Root "c f t f t; x 7 1 9 1; e 0 1 1 2; m 0 1 1 2; ok t t t t"
      ∷ running "f t f t" (Child Root 0 0) "x . 1 . 1; n . 1 . 2" ∷ [])) refl refl;
  no_tick_no_change = by_history _ _ (False 2) (history (
      at Root "c f t f; x 1 1 1; e 0 1 2; m 0 1 1; ok t t f"
      ∷ running "f t f" (Child Root 0 0) "x . 1 .; n . 1 ." ∷ [])) refl refl;
}
