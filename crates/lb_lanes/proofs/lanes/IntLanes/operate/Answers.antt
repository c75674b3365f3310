use Rattle.std.proofs.Common.{ap, ◌∙◌, arith}
use Rattle.lb_lanes.specs.Operators.{is_int, result_of}
use Rattle.lb_lanes.proofs.Halves.{kernel_whole, signed_lane}
use Rattle.lb_lanes.proofs.lanes.IntLanes.operate.Goals as goal

pub returns-clause-lanes : goal.returns-clause-lanes
returns-clause-lanes c =
    let a = c.self.inside in
    let b = c.other.inside in
    kernel_whole (result_of c.args.op) c.args.active.0 c.operate-faults.result.0
    c.set_signs.new.self c.operate-faults.new.out a.high a.low c.args.self.now b.high b.low
    c.args.other.now c.are_ints-3.ensures c.set_signs.ensures c.self.view_is c.requires.left
    c.are_ints.ensures c.other.view_is c.requires.right c.are_ints-2.ensures
    (record {
      values = λ i h. c.operate-faults.ensures.lanes.values i (omega (arith, h, c.all.ensures));
      fault_bits = λ i h.
          c.operate-faults.ensures.lanes.fault_bits i (omega (arith, h, c.all.ensures));
    })

pub returns-clause-in_range : goal.returns-clause-in_range
returns-clause-in_range c i h =
    ap is_int
    (signed_lane c.set_signs.new.self c.operate-faults.new.out c.are_ints-3.ensures
    c.set_signs.ensures i h)
    ∙ c.are_ints-3.ensures i h
