use Rattle.std.proofs.Common.{take, length}
use Rattle.lb_sim.proofs.InputPlaces.{AreInputs}
use Rattle.lb_sim.proofs.allot.input_values.Given as goal

abbrev pub invariant-loop-j : goal.invariant-loop-j
invariant-loop-j l =
    AreInputs (take l.j l.kinds) l.values.items (length l.preset.planes.items)
    (length l.preset.words.items)
