use Rattle.std.proofs.Common.{◌*◌}
use Rattle.lb_lanes.specs.Kernels.{bits_lane}
use Rattle.lb_lanes.proofs.Joined.{DoneBelow}
use Rattle.lb_lanes.proofs.word_tests.tested.Given as goal

abbrev pub invariant-loop-c : goal.invariant-loop-c
invariant-loop-c g l = DoneBelow (λ i. g.K.WordTest.passes (bits_lane l.a i) (bits_lane l.b i))
    (16 * l.c) l.plane
