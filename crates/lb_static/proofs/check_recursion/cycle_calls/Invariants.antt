use Rattle.std.proofs.Common.{◌≡◌, map, take}
use Rattle.std.specs.Prelude.{string_bytes}
use Rattle.lb_static.specs.CallGraphs.{names_at}
use Rattle.lb_static.proofs.check_recursion.cycle_calls.Given as goal

abbrev pub invariant-loop-turn : goal.invariant-loop-turn
invariant-loop-turn l =
    map (λ c. string_bytes c.node) l.calls.items ≡ names_at l.reached (take l.turn l.cycle)
