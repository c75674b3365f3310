use Rattle.lb_expand.proofs.Words.{◌≡◌, ◌++◌, List, map, take, kinds_from, equation_of, Clock}
use Rattle.lb_expand.proofs.temporary_kinds.temporary_kinds.Given as goal

abbrev pub invariant-loop-equation : goal.invariant-loop-equation
invariant-loop-equation l =
    (clocks : List Clock) →
    l.kinds.items
    ≡ l.fn.kinds.items
    ++ kinds_from l.fn.kinds.items (map (equation_of clocks) (take l.equation-index l.equations))
