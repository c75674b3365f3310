use Rattle.std.proofs.Common.{◌≡◌, ℕ, ◌<◌, map, IfOk, subst}
use Rattle.lb_sim.specs.InputRows.{zero_of}
use Rattle.lb_sim.specs.Inputs.{inputs_row}
use Rattle.lb_sim.specs.declared.inputs.Inputs.{Inputs}
use Rattle.lb_sim.proofs.inputs.Inputs.new.Goals as goal

pub returns-clause-zero : goal.returns-clause-zero
returns-clause-zero c =
    subst
    (λ ks. IfOk c.of_kinds.result
    (λ (x : Inputs). (i : ℕ) → i < 64 → inputs_row x i ≡ map zero_of ks))
    c.as_slice.ensures.value c.of_kinds.ensures.zero
