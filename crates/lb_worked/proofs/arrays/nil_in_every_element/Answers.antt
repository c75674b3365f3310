use Rattle.std.proofs.Common.{[], ◌∷◌, refl}
use Rattle.lb_static.specs.Instances.{Root}
use Rattle.lb_check.specs.Needs.{needs}
use Rattle.lb_check.specs.declared.verdict.Verdict.TheVariants.{Passed}
use Rattle.lb_worked.specs.WorkedSamples.{at, history}
use Rattle.lb_worked.specs.WorkedArrays as worked
use Rattle.lb_worked.proofs.CausalTest.{accepted}
use Rattle.lb_worked.proofs.SolvesTest.{by_history}
use Rattle.lb_worked.proofs.arrays.nil_in_every_element.Goals as goal

pub returns : goal.returns
unfolding needs
returns c = record {
  accepted = (accepted worked.nil_in_arrays).shows refl;
  sums_of_nil = by_history _ _ Passed (history (
      at Root "A 1 3; A 2 4; e 0 10; ok t t; B ? 1; B ? 2; C ? 4; C ? 6; s ? 10" ∷ [])) refl refl;
}
