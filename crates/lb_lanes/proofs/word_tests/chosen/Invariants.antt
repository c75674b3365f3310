use Rattle.std.proofs.Common.{◌*◌, ◌≡◌, get_or, cond}
use Rattle.lb_lanes.specs.Kernels.{bits_lane}
use Rattle.lb_lanes.proofs.Joined.{DoneBelow, WrittenBelow}
use Rattle.lb_lanes.proofs.word_tests.chosen.Given as goal

abbrev pub invariant-loop-c : goal.invariant-loop-c
invariant-loop-c g l = record {
  values : WrittenBelow (λ i n.
      n ≡ cond (g.K.WordTest.passes (bits_lane l.x i) (bits_lane l.y i)) (get_or l.a i 0)
      (get_or l.b i 0))
      (16 * l.c) l.initial.out l.out;
  plane : DoneBelow (λ i. g.K.WordTest.passes (bits_lane l.x i) (bits_lane l.y i)) (16 * l.c)
      l.plane;
}
