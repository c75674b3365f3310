use Rattle.std.proofs.Common.{◌≡◌, cond, w32, to_z}
use Rattle.lb_lanes.specs.Kernels.{bits_lane}
use Rattle.lb_lanes.specs.Planes.{on}
use Rattle.lb_lanes.proofs.Joined.{WrittenBelow}
use Rattle.lb_lanes.proofs.word_divisions.divide_some.Given as goal

abbrev pub invariant-loop-i : goal.invariant-loop-i
invariant-loop-i g l =
    WrittenBelow
    (λ i n. to_z w32 n ≡ cond (on l.divides i)
    (g.K.Division.divided (bits_lane l.a i) (bits_lane l.b i)) (bits_lane l.initial.out i)) l.i
    l.initial.out l.out
