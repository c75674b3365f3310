use Rattle.std.proofs.Common.{[], ◌∷◌, refl}
use Rattle.lb_static.specs.Instances.{Root}
use Rattle.lb_check.specs.Needs.{needs}
use Rattle.lb_check.specs.declared.verdict.Verdict.TheVariants.{Fault, Passed}
use Rattle.lb_worked.specs.WorkedSamples.{at, history}
use Rattle.lb_worked.specs.WorkedScalars as worked
use Rattle.lb_worked.proofs.CausalTest.{all_accepted}
use Rattle.lb_worked.proofs.SolvesTest.{by_history}
use Rattle.lb_worked.proofs.scalars.the_operand_of_a_memory_is_a_named_place.Goals as goal

pub returns : goal.returns
unfolding needs
returns c = record {
  accepted =
      (all_accepted (worked.unused_operand ∷ worked.unused_operand_of_fby
      ∷ worked.unused_operand_of_current ∷ worked.unused_side ∷ [])).shows refl;
  operand_of_pre = by_history _ _ (Fault 0) (history (
      at Root "y 0; ok t; z 1" ∷ [])) refl refl;
  operand_of_fby = by_history _ _ (Fault 0) (history (
      at Root "y 0; ok t; z 1" ∷ [])) refl refl;
  operand_of_current = by_history _ _ (Fault 2) (history (
      at Root "b t t t; c f t t; x 0 1 0; ok t t t" ∷ [])) refl refl;
  unused_side_of_arrow = by_history _ _ Passed (history (
      at Root "y 0 1; ok t t; z 1 1" ∷ [])) refl refl;
}
