use Rattle.std.proofs.Common.{◌*◌, ◌≡◌, w32, to_z, not, true}
use Rattle.lb_lanes.specs.Kernels.{bits_lane}
use Rattle.lb_lanes.specs.Operators.{is_int}
use Rattle.lb_lanes.proofs.Joined.{DoneBelow, WrittenBelow}
use Rattle.lb_lanes.proofs.word_kernels.run_wrapped.Given as goal

abbrev pub invariant-loop-c : goal.invariant-loop-c
invariant-loop-c g l = record {
  values : WrittenBelow (λ i n.
      is_int (g.K.Wrapping.exact (bits_lane l.a i) (bits_lane l.b i)) ≡ true
      → to_z w32 n ≡ g.K.Wrapping.exact (bits_lane l.a i) (bits_lane l.b i))
      (16 * l.c) l.initial.out l.out;
  beyond : DoneBelow
      (λ i. not (is_int (g.K.Wrapping.exact (bits_lane l.a i) (bits_lane l.b i)))) (16 * l.c)
      l.beyond;
}
