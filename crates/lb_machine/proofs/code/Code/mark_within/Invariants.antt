use Rattle.std.proofs.Common.{ℕ}
use Rattle.lb_machine.specs.Listed.{listed}
use Rattle.lb_machine.specs.Meaning.{Lane, HasRun}
use Rattle.lb_machine.specs.Within.{AreUnder}
use Rattle.lb_machine.proofs.code.Code.mark_within.Given as goal

abbrev pub invariant-loop-j : goal.invariant-loop-j
invariant-loop-j l =
    (s : Lane) (q : ℕ) → HasRun (listed l.self.instructions) s → AreUnder s l.outer q →
    AreUnder s l.fn.inner q → AreUnder s l.inner q
