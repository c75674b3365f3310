use Rattle.std.proofs.Common.{◌*◌, ◌≡◌, get_or, cond}
use Rattle.lb_lanes.specs.Planes.{on}
use Rattle.lb_lanes.proofs.Joined.{WrittenBelow}
use Rattle.lb_lanes.proofs.word_kernels.commit.Given as goal

abbrev pub invariant-loop-c : goal.invariant-loop-c
invariant-loop-c l =
    WrittenBelow (λ i n. n ≡ cond (on l.mask i) (get_or l.new i 0) (get_or l.initial.old i 0))
    (16 * l.c) l.initial.old l.old
