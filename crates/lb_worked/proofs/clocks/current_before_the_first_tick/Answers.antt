use Rattle.std.proofs.Common.{[], ◌∷◌, refl}
use Rattle.lb_static.specs.Instances.{Root, Child}
use Rattle.lb_check.specs.Needs.{needs}
use Rattle.lb_check.specs.declared.verdict.Verdict.TheVariants.{Undefined, Passed}
use Rattle.lb_worked.specs.WorkedSamples.{at, history, running}
use Rattle.lb_worked.specs.WorkedClocks as worked
use Rattle.lb_worked.proofs.CausalTest.{all_accepted}
use Rattle.lb_worked.proofs.SolvesTest.{by_history}
use Rattle.lb_worked.proofs.clocks.current_before_the_first_tick.Goals as goal

pub returns : goal.returns
unfolding needs
returns c = record {
  accepted =
      (all_accepted (worked.unguarded_counter ∷ worked.known_counter ∷ [])).shows refl;
  nil_is_undefined = by_history _ _ (Undefined 0) (history (
      at Root "c f t; x 1 1; e 0 1; m ? 1; ok ? t"
      ∷ running "f t" (Child Root 0 0) "x . 1; n . 1" ∷ [])) refl refl;
  tick_at_once = by_history _ _ Passed (history (
      at Root "c t f; x 1 1; e 1 1; m 1 1; ok t t"
      ∷ running "t f" (Child Root 0 0) "x 1 .; n 1 ." ∷ [])) refl refl;
  arrow_for_one_instant = by_history _ _ (Undefined 1) (history (
      at Root "c f f; x 1 1; e 0 0; m 0 ?; ok t ?"
      ∷ running "f f" (Child Root 0 0) "x . .; n . ." ∷ [])) refl refl;
  remembered = by_history _ _ Passed (history (
      at Root "c f f t f; x 1 1 1 1; known f f t t; m ? ? 1 1; ok t t t t"
      ∷ running "f f t f" (Child Root 0 0) "x . . 1 .; n . . 1 ." ∷ [])) refl refl;
}
