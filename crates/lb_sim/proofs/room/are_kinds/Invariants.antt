use Rattle.std.proofs.Common.{◌≡◌, take}
use Rattle.lb_sim.proofs.room.are_kinds.Given as goal

abbrev pub invariant-loop-j : goal.invariant-loop-j
invariant-loop-j l = take l.j l.columns ≡ take l.j l.kinds
