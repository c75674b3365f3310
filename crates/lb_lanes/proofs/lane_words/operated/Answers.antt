use Rattle.std.proofs.Common.{◌≡◌, ℕ, ◌<◌, ap, ◌∙◌}
use lib.Bits.{bit_and}
use Rattle.lb_lanes.specs.Kernels.{bits_lane, kept, faulty, lanes_in}
use Rattle.lb_lanes.specs.Operators.{result_of}
use Rattle.lb_lanes.specs.Planes.{on}
use Rattle.lb_lanes.proofs.Widths.{masked}
use Rattle.lb_lanes.proofs.lane_words.operated.Goals as goal

pub returns : goal.returns
returns c =
    let r = c.run_operator.ensures in
    let value = λ (i : ℕ).
    result_of c.args.op (bits_lane c.args.a.now i) (bits_lane c.args.b.now i) in
    let same : (i : ℕ) → i < lanes_in c.args.width
    → on (bit_and c.args.active c.plane.result) i ≡ on c.args.active i
    = λ i h. masked c.args.active c.plane.result i (c.plane.ensures i h) in
    record {
      values = λ i h.
          r.values i h
          ∙ ap (λ t. kept t (value i)) (same i h);
      fault_bits = λ i h.
          r.fault_bits i h
          ∙ ap (λ t. faulty t (value i)) (same i h);
    }
