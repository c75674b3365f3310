use Rattle.std.proofs.Common.{sym, ap, ◌∙◌, pos, cond}
use Rattle.lb_lanes.specs.Kernels.{bits_lane}
use Rattle.lb_lanes.specs.Planes.{on}
use Rattle.lb_lanes.proofs.word_kernels.keep.Goals as goal

pub returns-then-mask-plane : goal.returns-then-mask-plane
returns-then-mask-plane c i h =
    ap (λ t. cond t (bits_lane c.args.lanes.now i) (pos 0))
    (sym (c.plane.ensures i h) ∙ ap (λ m. on m i) (sym c.if-mask-plane.true))
