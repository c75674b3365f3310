use Rattle.std.proofs.Common.{ℕ}
use Rattle.std.specs.List.{AllByRecursion}
use Rattle.lb_machine.specs.Listed.{selects_from}
use Rattle.lb_machine.specs.Meaning.{Lane, HasConstants, IsDone}
use Rattle.lb_machine.specs.Within.{AreUnder}
use Rattle.lb_machine.proofs.within.mark_choices.Given as goal

abbrev pub invariant-loop-j : goal.invariant-loop-j
invariant-loop-j l =
    (s : Lane) (q : ℕ) → HasConstants s →
    AllByRecursion (IsDone s) (selects_from l.first l.choices) → AreUnder s l.outer q →
    AreUnder s l.initial.inner q → AreUnder s l.inner q
