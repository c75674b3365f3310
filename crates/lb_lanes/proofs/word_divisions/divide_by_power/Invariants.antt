use Rattle.std.proofs.Common.{◌≡◌, w32, to_z}
use Rattle.lb_lanes.specs.Kernels.{bits_lane}
use Rattle.lb_lanes.proofs.Joined.{WrittenBelow}
use Rattle.lb_lanes.proofs.word_divisions.divide_by_power.Given as goal

abbrev pub invariant-loop-i : goal.invariant-loop-i
invariant-loop-i g l =
    WrittenBelow
    (λ i n. to_z w32 n
    ≡ g.K.Division.divided (bits_lane l.a i) (to_z w32 l.divisor)) l.i
    l.initial.out l.out
