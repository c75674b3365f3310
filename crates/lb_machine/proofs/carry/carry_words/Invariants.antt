use Rattle.std.proofs.Common.{[]}
use Rattle.lb_machine.specs.declared.instruction.WordId.{WordId}
use Rattle.lb_machine.proofs.Carrying.{IsCarried}
use Rattle.lb_machine.proofs.carry.carry_words.Given as goal

abbrev pub invariant-loop-j : goal.invariant-loop-j
invariant-loop-j l = IsCarried [] (λ (s : WordId). s.0) l.first l.sources l.fn.words l.words l.j
