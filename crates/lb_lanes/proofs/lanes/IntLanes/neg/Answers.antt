use Rattle.std.proofs.Common.{◌-ℤ◌, ap, ◌∙◌}
use Rattle.lb_lanes.specs.Kernels.{faulty, kept, lane_of}
use Rattle.lb_lanes.specs.Operators.{is_int, lawful}
use Rattle.lb_lanes.specs.Planes.{on}
use Rattle.lb_lanes.proofs.Words.{zero_minus}
use Rattle.lb_lanes.proofs.lanes.IntLanes.neg.Goals as goal

pub operated-requires-clause-left : goal.operated-requires-clause-left
unfolding is_int
operated-requires-clause-left c i h = ap is_int (c.splat.ensures i h)

pub returns-clause-lanes : goal.returns-clause-lanes
returns-clause-lanes c = record {
  values = λ i h.
      c.operated.ensures.lanes.values i h
      ∙ ap (λ v. kept (on c.args.active.0 i) (lawful v))
      (ap (λ z. z -ℤ lane_of c.args.self.now i) (c.splat.ensures i h) ∙ zero_minus _);
  fault_bits = λ i h.
      c.operated.ensures.lanes.fault_bits i h
      ∙ ap (λ v. faulty (on c.args.active.0 i) (lawful v))
      (ap (λ z. z -ℤ lane_of c.args.self.now i) (c.splat.ensures i h) ∙ zero_minus _);
}
