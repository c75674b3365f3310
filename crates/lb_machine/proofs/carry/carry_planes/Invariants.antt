use Rattle.lb_machine.specs.declared.instruction.PlaneId.{PlaneId}
use Rattle.lb_machine.proofs.Carrying.{IsCarried}
use Rattle.lb_machine.proofs.carry.carry_planes.Given as goal

abbrev pub invariant-loop-j : goal.invariant-loop-j
invariant-loop-j l = IsCarried 0 (λ (s : PlaneId). s.0) l.first l.sources l.fn.planes l.planes l.j
